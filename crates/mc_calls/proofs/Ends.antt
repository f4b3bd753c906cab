-- A track whose reader was told the end has no packet at its head, until the next seek or selection.
use Rattle.std.proofs.Common.{◌≡◌, ℕ, ◌<◌, Bool, true, false, ◌&&◌, ◌||◌, Option, Some, None, List, [], ◌∷◌, refl, ap, sym, subst, ◌∙◌, inl, inr, ◌==◌}
use Rattle.std.specs.Prelude.{is_some, IfSome, IsSomeAnd, nat_le, nat_lt}
use Rattle.std.specs.List.{filter, AllByRecursion}
use Rattle.std.specs.Option.{option_map_or}
use Rattle.std.proofs.lemmas.Bool.{cases_Bool, eqb-true}
use Rattle.mc_packet.specs.declared.choice.Choice.{Choice}
use Rattle.mc_packet.specs.declared.choice.Starts.{Starts}
use Rattle.mc_packet.specs.declared.walk.Ending.{Ending}
use Rattle.mc_journal.specs.declared.record.DemuxRecord.{DemuxRecord}
use Rattle.mc_journal.specs.declared.record.DemuxRecord.TheVariants.{Opened, Sought, Switched, Found, Fed, Failed, Starved, Dropped, Joined, Gave, Ended, Overfull, Faulted, Wanting, Shown, Refused}
use Rattle.mc_packet.specs.declared.packet.Packet.{Packet}
use Rattle.mc_packet.specs.Choices.{is_track, has}
use Rattle.mc_journal.specs.Choices.{meets}
use Rattle.mc_journal.specs.Told.{told}
use Rattle.mc_journal.specs.Films.{Film, IsFilm, at, first, first_lane, track_of}
use Rattle.mc_journal.specs.Ranges.{Range, Span, in_span}
use Rattle.mc_journal.specs.Readings.{selected, pending, waits}
use Rattle.mc_journal.specs.Stands.{stand, start_given}
use Rattle.mc_journal.specs.Views.{head, next, next_in, from_place, was_ended}
use Rattle.mc_journal.specs.Allowed.{IsAllowed, StartsOf, is_sought}
use Rattle.mc_journal.proofs.Facts.{IsSound, IsRead}
use Rattle.mc_journal.proofs.Giving.{end_one}
use Rattle.mc_journal.proofs.Laws.{holds}
use Rattle.mc_journal.proofs.Rests.{rest, rest-track}

-- ---- without a packet from the head on there is none to be given

none_left : (n : ℕ) (ps : List Packet) → from_place n ps ≡ [] → AllByRecursion (λ p. nat_le n (at p) ≡ false) ps
none_left n [] e = tt
none_left n (p ∷ ps) e = elim (cases_Bool (nat_le n (at p))) [
  | inl y ↦ absurd (let f : p ∷ from_place n ps ≡ [] = rw y at e in cc)
  | inr o ↦ (o, none_left n ps (rw o at e))
]

none_kept : (n : ℕ) (test : Packet → Bool) (ps : List Packet) → AllByRecursion (λ p. nat_le n (at p) ≡ false) ps → from_place n (filter test ps) ≡ []
none_kept n test [] h = refl
none_kept n test (p ∷ ps) h = elim (cases_Bool (test p)) [
  | inl y ↦ let off = h.0 in rw (y, off) (none_kept n test ps h.1)
  | inr o ↦ rw o (none_kept n test ps h.1)
]

span_left : (n : ℕ) (s : Option Span) (ps : List Packet) → AllByRecursion (λ p. nat_le n (at p) ≡ false) ps → from_place n (in_span s ps) ≡ []
span_left n None ps h = refl
span_left n (Some s) ps h = none_kept n (λ p. nat_le s.from (at p) && nat_lt (at p) s.to) ps h

pub rest-none : (ps : List Packet) (k n : ℕ) (o : Option Range) → rest k n ps ≡ [] → next_in ps k n o ≡ None
rest-none ps k n None e = refl
rest-none ps k n (Some r) e =
    ap first (span_left n (r.spans k) (track_of k ps) (none_left n (track_of k ps) (sym (rest-track k n ps) ∙ e)))

-- ---- where an end is told

ending_before : (E : Ending) (o : Option Ending) (ending : Ending) (P : Type 0) → IfSome o (λ e. (e ≡ E) × P) → o ≡ Some ending → P
ending_before E None ending P h e = absurd (cc)
ending_before E (Some x) ending P h e = h.1

not_blank : (o : Option Span) (b : Bool) → is_some o ≡ true → (b ≡ true → o ≡ None) → b ≡ false
not_blank o true is h = absurd (let e : is_some o ≡ false = ap is_some (h refl) in cc)
not_blank o false is h = refl

-- no seek is pending, the track does not wait, and no packet of it is left
pub record IsDone (ps : List Packet) (k : ℕ) (pend waiting : Bool) (place : ℕ) : Type 0 where
  pub found : pend ≡ false
  pub placed : waiting ≡ false
  pub none : rest k place ps ≡ []

ended_now : (ps : List Packet) (E : Ending) (set : Choice) (pend : Bool) (waiting : ℕ → Bool) (place : ℕ → ℕ) (current : Option Range) (k : ℕ) (ending : Ending)
    → IfSome current (λ r. IsSound ps E set r × (pend ≡ false) × IsRead set waiting place r) → has set k ≡ true
    → IsSomeAnd current (λ r. (r.ending ≡ Some ending) × (is_some (r.spans k) ≡ true)) → next_in ps k (place k) current ≡ None
    → IsDone ps k pend (waiting k) (place k)
ended_now ps E set pend waiting place None k ending h sel is none = absurd is
ended_now ps E set pend waiting place (Some r) k ending h sel is none = record {
  found = h.1;
  placed = not_blank (r.spans k) (waiting k) is.1 (h.2.blank k sel);
  none = end_one (r.spans k) (place k) k (first_lane r.mark) ps is.1 (h.2.ahead k sel) (h.0.marked k)
      (ending_before E r.ending ending (AllByRecursion (λ p. at p < first_lane r.mark) ps) h.0.ended is.0) none;
}

-- ---- starts of other tracks

no_start : (start : Option ℕ) (own : Option ℕ) (test : ℕ → Bool) (k : ℕ) → is_some start ≡ meets own test → is_track own k ≡ true → test k ≡ false → start ≡ None
no_start None own test k e is off = refl
no_start (Some s) None test k e is off = absurd (cc)
no_start (Some s) (Some j) test k e is off =
    absurd (let same : j ≡ k = eqb-true j k is in let f : test j ≡ false = subst (λ i. test i ≡ false) (sym same) off in cc)

not_given : (set : Choice) (starts : Starts) (test : ℕ → Bool) (k : ℕ) → StartsOf set test starts → test k ≡ false → start_given set starts k ≡ None
not_given set starts test k h off = elim (cases_Bool (is_track set.video k)) [
  | inl v ↦ rw v (no_start starts.video set.video test k h.0 v off)
  | inr nv ↦ elim (cases_Bool (is_track set.audio k)) [
    | inl a ↦ rw (nv, a) (no_start starts.audio set.audio test k h.1 a off)
    | inr na ↦ elim (cases_Bool (is_track set.sub k)) [
      | inl b ↦ rw (nv, na, b) (no_start starts.sub set.sub test k h.2 b off)
      | inr nb ↦ rw (nv, na, nb) refl
    ]
  ]
]

or_false : (a b : Bool) → a ≡ false → b ≡ false → (a || b) ≡ false
or_false a b x y = rw x y

-- ---- it stays so

pub stays_done : (film : Film) (h : List DemuxRecord) (k : ℕ) → IsFilm film.packets → IsAllowed film h → has (selected h) k ≡ true → was_ended h k ≡ true
    → IsDone film.packets k (pending h) (waits k h) (head film.packets k h)
stays_done film [] k fi al sel e = absurd (cc)
stays_done film (Opened by set ∷ h) k fi al sel e = absurd (cc)
stays_done film (Sought by set t dir how ∷ h) k fi al sel e = absurd (cc)
stays_done film (Switched by set added t ∷ h) k fi al sel e = absurd (cc)
stays_done film (Found by starts ∷ h) k fi al sel e =
    let d = stays_done film h k fi al.1 sel e in
    let none : start_given (selected h) starts k ≡ None = not_given (selected h) starts (is_sought h) k al.0.tracks (or_false (pending h) (waits k h) d.found d.placed) in
    record {
      found = refl;
      placed = refl;
      none = subst (λ (o : Option ℕ). rest k (option_map_or first_lane o (head film.packets k h)) film.packets ≡ []) (sym none) d.none;
    }
stays_done film (Fed by from to took ending ∷ h) k fi al sel e = let d = stays_done film h k fi al.1 sel e in record { found = d.found; placed = d.placed; none = d.none }
stays_done film (Failed by before after ∷ h) k fi al sel e = let d = stays_done film h k fi al.1 sel e in record { found = d.found; placed = d.placed; none = d.none }
stays_done film (Starved by ∷ h) k fi al sel e = let d = stays_done film h k fi al.1 sel e in record { found = d.found; placed = d.placed; none = d.none }
stays_done film (Dropped by removal ∷ h) k fi al sel e = let d = stays_done film h k fi al.1 sel e in record { found = d.found; placed = d.placed; none = d.none }
stays_done film (Joined by ∷ h) k fi al sel e = let d = stays_done film h k fi al.1 sel e in record { found = d.found; placed = d.placed; none = d.none }
stays_done film (Gave by n pos time len sum sync key ∷ h) k fi al sel e = elim (cases_Bool (n == k)) [
  | inl y ↦
      let d = stays_done film h k fi al.1 sel e in
      let same : n ≡ k = eqb-true n k y in
      let none : next film.packets h n ≡ None =
      subst (λ i. next film.packets h i ≡ None) (sym same) (rest-none film.packets k (head film.packets k h) (stand film.packets h).current d.none) in
      absurd (subst (λ (o : Option Packet). IsSomeAnd o (λ p. told p ≡ record { track = n; pos = pos; time = time; len = len; sum = sum; sync = sync; key = key })) none al.0.1)
  | inr o ↦ let d = stays_done film h k fi al.1 sel e in record { found = d.found; placed = d.placed; none = rw o d.none }
]
stays_done film (Ended by n ending ∷ h) k fi al sel e = elim (cases_Bool (n == k)) [
  | inl y ↦
      let f = holds film h fi al.1 in
      let same : n ≡ k = eqb-true n k y in
      let may = al.0 in
      let d = ended_now film.packets film.ending (selected h) (pending h) (λ j. waits j h) (λ j. head film.packets j h) (stand film.packets h).current n ending
      f.here may.0 may.1 may.2 in
      subst (λ i. IsDone film.packets i (pending h) (waits i h) (head film.packets i h)) same d
  | inr o ↦ let d = stays_done film h k fi al.1 sel (rw o at e) in record { found = d.found; placed = d.placed; none = d.none }
]
stays_done film (Overfull by track bytes max ∷ h) k fi al sel e = let d = stays_done film h k fi al.1 sel e in record { found = d.found; placed = d.placed; none = d.none }
stays_done film (Faulted by track before after ∷ h) k fi al sel e = let d = stays_done film h k fi al.1 sel e in record { found = d.found; placed = d.placed; none = d.none }
stays_done film (Wanting by track ∷ h) k fi al sel e = let d = stays_done film h k fi al.1 sel e in record { found = d.found; placed = d.placed; none = d.none }
stays_done film (Shown by view ∷ h) k fi al sel e = let d = stays_done film h k fi al.1 sel e in record { found = d.found; placed = d.placed; none = d.none }
stays_done film (Refused by why ∷ h) k fi al sel e = let d = stays_done film h k fi al.1 sel e in record { found = d.found; placed = d.placed; none = d.none }
