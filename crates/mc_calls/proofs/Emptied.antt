-- Where nothing stands at a head, an answer that gives no packet and drops that the limit asks for bring nothing there.
use Rattle.std.proofs.Common.{◌≡◌, ℕ, ◌≤◌, true, false, ◌&&◌, Option, Some, None, List, [], ◌∷◌, ◌++◌, refl, ap, sym, subst, ◌∙◌, inl, inr, ◌==◌, arith, append_assoc}
use Rattle.std.specs.Prelude.{nat_le, nat_lt, reverse, IsSomeAnd}
use Rattle.std.specs.List.{AllByRecursion}
use Rattle.std.specs.Option.{option_map}
use Rattle.std.proofs.lemmas.Bool.{cases_Bool, eqb-true}
use Rattle.std.proofs.lemmas.Bool.Decides.{nat_tests}
use Rattle.std.proofs.lemmas.List.{reverse-append}
use Rattle.mc_packet.specs.declared.packet.Packet.{Packet}
use Rattle.mc_journal.specs.declared.record.Cause.{Cause}
use Rattle.mc_journal.specs.declared.record.Cause.TheVariants.{Limit, TooMany, TrackChanged, Mismatch}
use Rattle.mc_journal.specs.declared.record.DemuxRecord.{DemuxRecord}
use Rattle.mc_journal.specs.declared.record.DemuxRecord.TheVariants.{Dropped, Ended, Overfull, Faulted, Wanting}
use Rattle.mc_journal.specs.Films.{Film, at, first, rank, track_of}
use Rattle.mc_journal.specs.Ranges.{Range, Span, in_span, within}
use Rattle.mc_journal.specs.Stands.{stand, cut_in, cut_range, cut_span, dropped}
use Rattle.mc_journal.specs.Views.{from_place, head, next, next_in as next_held}
use Rattle.mc_journal.specs.Allowed.{Cuts, IsAllowed, MayCut, MayDrop}
use Rattle.mc_journal.proofs.Laws.{used-allowed}
use Rattle.mc_calls.specs.State.{DemuxState, next_in}
use Rattle.mc_calls.specs.Records.{IsLimit, IsLimitDrop, Wrote}
use Rattle.mc_calls.specs.Film.{StandsFor}
use Rattle.mc_calls.specs.Shows.{GivesNone}
use Rattle.mc_calls.proofs.Showing.{next_of}
use Rattle.mc_calls.proofs.Laws.{none_told}

-- ---- a span that begins later

first_off : (n : ℕ) (p : Packet) (ps : List Packet) → first (from_place n (p ∷ ps)) ≡ None → (nat_le n (at p) ≡ false) × (first (from_place n ps) ≡ None)
first_off n p ps e = elim (cases_Bool (nat_le n (at p))) [
  | inl y ↦ absurd (let f : Some p ≡ None = rw y at e in cc)
  | inr o ↦ (o, rw o at e)
]

later : (lo lo' hi m : ℕ) → lo ≤ lo' → (nat_le lo' m && nat_lt m hi) ≡ true → (nat_le lo m && nat_lt m hi) ≡ true
later lo lo' hi m h e = elim (cases_Bool (nat_le lo' m)) [
  | inl y ↦
      let below : nat_lt m hi ≡ true = rw y at e in
      let above : nat_le lo m ≡ true = grind (arith, nat_tests) in
      rw (above, below) refl
  | inr o ↦ absurd (let f : false ≡ true = rw o at e in cc)
]

fewer_none : (n lo lo' hi : ℕ) (ps : List Packet) → lo ≤ lo' → first (from_place n (within lo hi ps)) ≡ None → first (from_place n (within lo' hi ps)) ≡ None
fewer_none n lo lo' hi [] h e = refl
fewer_none n lo lo' hi (p ∷ ps) h e = elim (cases_Bool (nat_le lo' (at p) && nat_lt (at p) hi)) [
  | inl y ↦
      let z = later lo lo' hi (at p) h y in
      let both = first_off n p (within lo hi ps) (rw z at e) in
      let off = both.0 in rw (y, off) (fewer_none n lo lo' hi ps h both.1)
  | inr o ↦ elim (cases_Bool (nat_le lo (at p) && nat_lt (at p) hi)) [
    | inl z ↦ let both = first_off n p (within lo hi ps) (rw z at e) in rw o (fewer_none n lo lo' hi ps h both.1)
    | inr w ↦ rw o (fewer_none n lo lo' hi ps h (rw w at e))
  ]
]

-- ---- a drop

span_none : (n k place from : ℕ) (o : Option Span) (ps : List Packet) → IsSomeAnd o (λ s. (s.from ≡ from) × (from ≤ place) × (place ≤ s.to))
    → first (from_place n (in_span o ps)) ≡ None → first (from_place n (in_span (option_map (cut_span place) o) ps)) ≡ None
span_none n k place from None ps c e = absurd c
span_none n k place from (Some s) ps c e = let l : s.from ≤ place = omega (arith, c.0, c.1) in fewer_none n s.from place s.to ps l e

range_none : (ps : List Packet) (n k track from place : ℕ) (r : Range) → Cuts track from place r → next_held ps k n (Some r) ≡ None → next_held ps k n (Some (cut_range track place r)) ≡ None
range_none ps n k track from place r c e = elim (cases_Bool (k == track)) [
  | inl y ↦
      let same : k ≡ track = eqb-true k track y in
      rw y (span_none n k place from (r.spans k) (track_of k ps) (subst (λ i. Cuts i from place r) (sym same) c) e)
  | inr o ↦ rw o e
]

cut_none : (ps : List Packet) (n k track from place hd : ℕ) (current : Option Range) (others : List Range) → MayCut track from place hd current others
    → next_held ps k n current ≡ None → next_held ps k n (cut_in track place current others).current ≡ None
cut_none ps n k track from place hd None [] c e = absurd c.0
cut_none ps n k track from place hd (Some r) [] c e = range_none ps n k track from place r c.0 e
cut_none ps n k track from place hd current (q ∷ rs) c e = e

drop_none : (ps : List Packet) (h : List DemuxRecord) (n k track from place : ℕ) (cause : Cause) → IsLimit cause → MayDrop ps h track from place cause
    → next_held ps k n (stand ps h).current ≡ None → next_held ps k n (dropped track place cause (stand ps h)).current ≡ None
drop_none ps h n k track from place (Limit back max) is may e = cut_none ps n k track from place (head ps track h) (stand ps h).current (stand ps h).others may e
drop_none ps h n k track from place (TooMany count) is may e = absurd is
drop_none ps h n k track from place TrackChanged is may e = absurd is
drop_none ps h n k track from place (Mismatch pos ours other) is may e = absurd is

-- ---- an answer and its drops

answer_none : (ps : List Packet) (k : ℕ) (own : DemuxRecord) (h : List DemuxRecord) → GivesNone own → next ps h k ≡ None → next ps (own ∷ h) k ≡ None
answer_none ps k (Ended by n ending) h is e = e
answer_none ps k (Overfull by n forward max) h is e = e
answer_none ps k (Faulted by n before after) h is e = e
answer_none ps k (Wanting by n) h is e = e
answer_none ps k _ h is e = absurd is

drops_none : (film : Film) (k by : ℕ) (drops : List DemuxRecord) (h : List DemuxRecord) → AllByRecursion (IsLimitDrop by) drops → IsAllowed film (drops ++ h)
    → next film.packets h k ≡ None → next film.packets (drops ++ h) k ≡ None
drops_none film k by [] h are al e = e
drops_none film k by (Dropped m removal ∷ drops) h are al e =
    let so_far = drops_none film k by drops h are.1 al.1 e in
    drop_none film.packets (drops ++ h) (head film.packets k (drops ++ h)) k removal.track (rank removal.from) (rank removal.to) removal.cause are.0.1 al.0 so_far
drops_none film k by (_ ∷ drops) h are al e = absurd are.0

-- ---- the newest first

all_joined : (P : DemuxRecord → Type 0) (rs qs : List DemuxRecord) → AllByRecursion P rs → AllByRecursion P qs → AllByRecursion P (rs ++ qs)
all_joined P [] qs a b = b
all_joined P (r ∷ rs) qs a b = (a.0, all_joined P rs qs a.1 b)

all_reversed : (P : DemuxRecord → Type 0) (rs : List DemuxRecord) → AllByRecursion P rs → AllByRecursion P (reverse rs)
all_reversed P [] a = tt
all_reversed P (r ∷ rs) a = subst (λ (qs : List DemuxRecord). AllByRecursion P qs) (sym (reverse-append (r ∷ []) rs)) (all_joined P (reverse rs) (r ∷ []) (all_reversed P rs a.1) (a.0, tt))

newest_first : (old drops : List DemuxRecord) (own : DemuxRecord) → reverse (old ++ own ∷ drops) ≡ reverse drops ++ own ∷ reverse old
newest_first old drops own =
    reverse-append old (own ∷ drops) ∙ ap (λ (rs : List DemuxRecord). rs ++ reverse old) (reverse-append (own ∷ []) drops) ∙ append_assoc (reverse drops) (own ∷ []) (reverse old)

pub quiet_is : (film : Film) (d e : DemuxState) (track by : ℕ) (own : DemuxRecord) → StandsFor film d → StandsFor film e → Wrote by own d.journal e.journal → GivesNone own
    → next_in d.set d.heads track d.cache.current ≡ None → next_in e.set e.heads track e.cache.current ≡ None
quiet_is film d e track by own s t w is none =
    let h = own ∷ reverse d.journal in
    let order : reverse e.journal ≡ reverse w.drops ++ h = ap (λ (rs : List DemuxRecord). reverse rs) w.grows ∙ newest_first d.journal w.drops own in
    let may = subst (λ (rs : List DemuxRecord). IsAllowed film rs) order (used-allowed film e.cache.limits (reverse e.journal) t.fits.used) in
    let old : next film.packets (reverse d.journal) track ≡ None = next_of film d track s ∙ ap (λ (o : Option Packet). o) none in
    let new : next film.packets (reverse w.drops ++ h) track ≡ None =
    drops_none film track by (reverse w.drops) h (all_reversed (IsLimitDrop by) w.drops w.are) may (answer_none film.packets track own (reverse d.journal) is old) in
    let told_none : (next_in e.set e.heads track e.cache.current) ≡ None =
    sym (next_of film e track t) ∙ ap (λ (rs : List DemuxRecord). next film.packets rs track) order ∙ new in
    none_told (next_in e.set e.heads track e.cache.current) told_none
