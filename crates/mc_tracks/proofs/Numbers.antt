-- Tracks kept under their numbers.
use Rattle.std.proofs.Common.{◌≡◌, ℕ, suc, ◌<◌, List, [], ◌∷◌, ◌++◌, map, length, take, get_or, None, false, refl, sym, ap, ◌∙◌, nat_eq, inl, inr, arith, length-take}
use Rattle.std.specs.Map.{keys_of, values_of, lookup}
use Rattle.std.proofs.lemmas.List.{map-append, get_or-take, get_or-map, get_or_default, length-map}
use Rattle.std.proofs.lemmas.Map.Keys.{apart_from_distinct}
use Rattle.std.proofs.lemmas.Bool.{eqb-false}
use Rattle.std.proofs.lemmas.Bool.Decides.{eqb_tells}
use Rattle.indexmap.specs.IndexMap.{IndexMap, values, insert_entry}
use Rattle.indexmap.proofs.CallerLemmas.{insert_entry-new}
use Rattle.mc_tracks.specs.declared.track.Track.{Track}
use Rattle.mc_tracks.specs.TrackList.{numbered, HaveDistinctNumbers}

-- each entry's key is its track's number
abbrev pub AreNumbers : List (ℕ × Track) → Type 0
AreNumbers es = keys_of es ≡ map (λ (t : Track). t.no) (values_of es)

pub finds : (es : List (ℕ × Track)) (n : ℕ) → AreNumbers es → lookup (nat_eq n) es ≡ numbered n (values_of es)
finds [] n same = refl
finds (e ∷ es) n same =
    let head : e.0 ≡ e.1.no = cc in
    let tail : AreNumbers es = cc in
    rw (head, finds es n tail) refl

-- a track of a new number goes last
module _ {S : Type 0} (m m' : IndexMap ℕ Track S) (t : Track) (now : List Track) (same : AreNumbers m.entries) (seen : values m ≡ now)
    (new : numbered t.no now ≡ None) (put : m'.entries ≡ insert_entry nat_eq m.entries t.no t) where
  goes_last : m'.entries ≡ m.entries ++ (t.no, t) ∷ []
  goes_last = put ∙ insert_entry-new nat_eq m t.no t (finds m.entries t.no same ∙ ap (numbered t.no) seen ∙ new)

  pub stay_numbers : AreNumbers m'.entries
  stay_numbers = rw goes_last (simp map-append (ap (λ (ns : List ℕ). ns ++ t.no ∷ []) same))

  pub one_more : values m' ≡ now ++ t ∷ []
  one_more = rw goes_last (map-append (λ (e : ℕ × Track). e.1) m.entries ((t.no, t) ∷ []) ∙ ap (λ (ts : List Track). ts ++ t ∷ []) seen)

turned : (a b : ℕ) → nat_eq a b ≡ false → nat_eq b a ≡ false
turned a b e = elim (eqb_tells b a) [ inl h ↦ absurd (eqb-false a b e (sym h.1)) | inr h ↦ h.0 ]

none_among : (n : ℕ) (ts : List Track) → ((j : ℕ) (d : Track) → j < length ts → nat_eq n (get_or ts j d).no ≡ false) → numbered n ts ≡ None
none_among n [] h = refl
none_among n (t ∷ ts) h = rw (h 0 t (omega arith)) (none_among n ts (λ j d lt. h (suc j) d (omega arith)))

-- a track's number is none of the tracks' before it
pub is_new : (ts : List Track) (i : ℕ) (t : Track) → i < length ts → t ≡ get_or ts i t → HaveDistinctNumbers ts → numbered t.no (take i ts) ≡ None
is_new ts i t lt e distinct = none_among t.no (take i ts) (λ j d within.
    let before : j < i = omega (arith, length-take i ts) in
    let same : get_or (take i ts) j d ≡ get_or ts j t = get_or-take i ts j d before ∙ get_or_default ts j d t (omega arith) in
    let apart : nat_eq (get_or (map (λ (t : Track). t.no) ts) j 0) (get_or (map (λ (t : Track). t.no) ts) i 0) ≡ false
    = apart_from_distinct nat_eq (map (λ (t : Track). t.no) ts) j i 0 distinct before (simp length-map lt) in
    let at_j : get_or (map (λ (t : Track). t.no) ts) j 0 ≡ (get_or ts j t).no = get_or-map (λ (t : Track). t.no) ts j t 0 (omega arith) in
    let at_i : get_or (map (λ (t : Track). t.no) ts) i 0 ≡ (get_or ts i t).no = get_or-map (λ (t : Track). t.no) ts i t 0 lt in
    turned (get_or (take i ts) j d).no t.no (cc))
