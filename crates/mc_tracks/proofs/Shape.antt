-- What is listed is a list of at most 64 tracks, each under a number of its own.
use Rattle.std.proofs.Common.{◌≡◌, ◌≢◌, ℕ, ◌+◌, ◌<◌, Bool, true, false, cond, ◌||◌, subst, List, [], ◌∷◌, ◌++◌, length, map, Option, Some, None, Result, Ok, Err, refl, ap, ◌∙◌, arith, nat_le, nat_eq, is_some, codes}
use Rattle.std.specs.Prelude.{option_map, ◌==◌, IfSome}
use Rattle.std.specs.List.{list_any, IsDistinct}
use Rattle.std.specs.Cmp.{nat_eq_equiv}
use Rattle.std.proofs.lemmas.Bool.{eqb-false, leb-false}
use Rattle.std.proofs.lemmas.List.{map-append, length-append}
use Rattle.std.proofs.lemmas.List.Elements.{All-push}
use Rattle.std.proofs.lemmas.Map.Keys.{IsDistinct-push}
use Rattle.mc_packet.specs.declared.choice.Kind.{Kind}
use Rattle.mc_ebml.specs.declared.whole.WholeElement.{WholeElement}
use Rattle.mc_tracks.specs.declared.children.Master.TheVariants.{Tracks, TrackEntry}
use Rattle.mc_tracks.specs.declared.refused.Refused.{Refused}
use Rattle.mc_tracks.specs.declared.refused.Refused.TheVariants.{NoNumber, TwiceNumber, TooMany}
use Rattle.mc_tracks.specs.declared.track.Track.{Track}
use Rattle.mc_ebml.specs.Ids.{CODEC_ID, NAME, LANGUAGE, DEFAULT_DURATION, TRACK_ENTRY, TRACK_NUMBER, TRACK_TYPE}
use Rattle.mc_tracks.specs.Answer.{◌>>=◌}
use Rattle.mc_tracks.specs.Children.{Children, children_of, first}
use Rattle.mc_tracks.specs.Header.{integer, kind_of, body_of, unless_broken, positive_number, duration, track, entry_of, with_track, with_child, listed, tracks_of}
use Rattle.mc_tracks.specs.TrackList.{numbered, IsListed, IsTrackList}
use Rattle.mc_tracks.proofs.Plain.{nothing, eng, is_plain}

-- ---- what a chain that ends well has gone through

pub bind_ok : {A B : Type 0} (r : Result A Refused) (f : A → Result B Refused) (y : B) → (r >>= f) ≡ Ok y → (x : A) × (r ≡ Ok x) × (f x ≡ Ok y)
bind_ok (Ok x) f y e = (x, refl, e)
bind_ok (Err r) f y e = cc

pub not_refused : {A : Type 0} (b : Bool) (r : Refused) (x : Result A Refused) (y : A) → cond b (Err r) x ≡ Ok y → (b ≡ false) × (x ≡ Ok y)
not_refused true r x y e = cc
not_refused false r x y e = (refl, e)

-- ---- a track

lasts : (n : ℕ) → IfSome (duration n) (λ d. 0 < d)
lasts n = by (n == 0) refl
  where
    by : (b : Bool) → (n == 0) ≡ b → IfSome (cond b None (Some n)) (λ d. 0 < d)
    by true e = tt
    by false e = let differs : n ≢ 0 = eqb-false n 0 e in omega (arith, differs)

is_listed : (body : List ℕ) (cs : List WholeElement) (n : ℕ) (kind : Kind) → 0 < n → IsListed (track body cs n kind)
is_listed body cs n kind positive = record {
  positive = positive;
  codec = is_plain body [] (first CODEC_ID cs) nothing;
  name = is_plain body [] (first NAME cs) nothing;
  language = is_plain body (codes "eng") (first LANGUAGE cs) eng;
  duration = lasts (integer body 0 (first DEFAULT_DURATION cs));
}

above_zero : (n m : ℕ) → positive_number n ≡ Ok m → 0 < m
above_zero n m e =
    let is = not_refused (n == 0) NoNumber (Ok n) m e in
    let same : n ≡ m = cc in
    let differs : n ≢ 0 = eqb-false n 0 is.0 in
    omega (arith, differs, same)

of_kind : (body : List ℕ) (cs : List WholeElement) (n : ℕ) (found : Option Kind) (t : Track) → 0 < n
    → ◌≡◌ {A = Result (Option Track) Refused} (Ok (option_map (λ kind. track body cs n kind) found)) (Ok (Some t)) → IsListed t
of_kind body cs n None t positive e = absurd (cc)
of_kind body cs n (Some kind) t positive e =
    let same : track body cs n kind ≡ t = cc in subst IsListed same (is_listed body cs n kind positive)

pub entry_is_listed : (body : List ℕ) (at : ℕ) (t : Track) → entry_of body at ≡ Ok (Some t) → IsListed t
unfolding entry_of
entry_is_listed body at t e =
    let cs : Children = children_of TrackEntry body in
    let listed : ℕ → Result (Option Track) Refused = λ n. Ok (option_map (λ kind. track body cs.whole n kind) (kind_of (integer body 0 (first TRACK_TYPE cs.whole)))) in
    let whole = bind_ok (unless_broken at cs.broken) (λ _. positive_number (integer body 0 (first TRACK_NUMBER cs.whole)) >>= λ n. listed n) (Some t) e in
    let number = bind_ok (positive_number (integer body 0 (first TRACK_NUMBER cs.whole))) listed (Some t) whole.2 in
    of_kind body cs.whole number.0 (kind_of (integer body 0 (first TRACK_TYPE cs.whole))) t (above_zero _ number.0 number.1) number.2

-- ---- the list

any_numbered : (n : ℕ) (ts : List Track) → list_any (nat_eq n) (map (λ (t : Track). t.no) ts) ≡ is_some (numbered n ts)
any_numbered n [] = refl
any_numbered n (t ∷ ts) = by (nat_eq n t.no) (any_numbered n ts)
  where
    by : (b : Bool) → list_any (nat_eq n) (map (λ (t : Track). t.no) ts) ≡ is_some (numbered n ts)
        → (b || list_any (nat_eq n) (map (λ (t : Track). t.no) ts)) ≡ is_some (cond b (Some t) (numbered n ts))
    by true e = refl
    by false e = e

empty : IsTrackList []
unfolding IsDistinct
empty = record { few = omega arith; distinct = tt; each = λ k d lt. absurd (omega arith) }

one_more : (tracks more : List Track) (found : Option Track) → IsTrackList tracks → ((t : Track) → found ≡ Some t → IsListed t)
    → with_track tracks found ≡ Ok more → IsTrackList more
one_more tracks more None is each e = let same : tracks ≡ more = cc in subst IsTrackList same is
one_more tracks more (Some t) is each e =
    let new = not_refused (is_some (numbered t.no tracks)) TwiceNumber _ more e in
    let room = not_refused (nat_le 64 (length tracks)) TooMany (Ok (tracks ++ t ∷ [])) more new.1 in
    let same : tracks ++ t ∷ [] ≡ more = cc in
    let few : length tracks < 64 = leb-false 64 (length tracks) room.0 in
    subst IsTrackList same (record {
      few = omega (arith, length-append tracks (t ∷ []));
      distinct = rw (map-append (λ (t : Track). t.no) tracks (t ∷ []))
          (IsDistinct-push nat_eq_equiv (map (λ (t : Track). t.no) tracks) t.no is.distinct (any_numbered t.no tracks ∙ new.0));
      each = All-push IsListed tracks t is.each (each t refl);
    })

after_child : (body : List ℕ) (at : ℕ) (tracks more : List Track) (c : WholeElement) → IsTrackList tracks → with_child body at tracks c ≡ Ok more → IsTrackList more
after_child body at tracks more c is e = by (c.id == TRACK_ENTRY) e
  where
    by : (b : Bool) → cond b (entry_of (body_of body c) (at + c.at) >>= λ t. with_track tracks t) (Ok tracks) ≡ Ok more → IsTrackList more
    by true e =
        let entry = bind_ok (entry_of (body_of body c) (at + c.at)) (λ t. with_track tracks t) more e in
        one_more tracks more entry.0 is (λ t same. entry_is_listed (body_of body c) (at + c.at) t (entry.1 ∙ ap (λ (u : Option Track). Ok u) same)) entry.2
    by false e = let same : tracks ≡ more = cc in subst IsTrackList same is

after_children : (body : List ℕ) (at : ℕ) (cs : List WholeElement) (tracks more : List Track) → IsTrackList tracks → listed body at tracks cs ≡ Ok more → IsTrackList more
after_children body at [] tracks more is e = let same : tracks ≡ more = cc in subst IsTrackList same is
after_children body at (c ∷ cs) tracks more is e =
    let one = bind_ok (with_child body at tracks c) (λ ts. listed body at ts cs) more e in
    after_children body at cs one.0 more (after_child body at tracks one.0 c is one.1) one.2

-- the tracks of any octets are such a list
pub are_listed : (body : List ℕ) (at : ℕ) (tracks : List Track) → tracks_of body at ≡ Ok tracks → IsTrackList tracks
unfolding tracks_of
are_listed body at tracks e =
    let cs : Children = children_of Tracks body in
    let all = bind_ok (listed body at [] cs.whole) (λ more. unless_broken at cs.broken >>= λ _. Ok more) tracks e in
    let end = bind_ok (unless_broken at cs.broken) (λ _. Ok all.0) tracks all.2 in
    let same : all.0 ≡ tracks = cc in
    subst IsTrackList same (after_children body at cs.whole [] all.0 empty all.1)
