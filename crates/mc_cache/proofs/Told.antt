-- What is told of a range's queues, and that it stands by rising track.
use Rattle.std.proofs.Common.{◌≡◌, ℕ, zero, suc, ◌+◌, ◌==◌, ◌<◌, true, false, List, [], ◌∷◌, ◌++◌, length, take, get_or, Option, Some, None, refl, ap, sym, ◌∙◌, arith, inl, inr}
use Rattle.std.specs.Prelude.{if◌then◌else◌, nat_le, option_to_list}
use Rattle.std.proofs.lemmas.Bool.{cases_Bool, leb-false, le-leb, ne_eqb}
use Rattle.std.proofs.lemmas.List.{append_assoc, append-nil}
use Rattle.mc_packet.specs.declared.choice.Choice.{Choice}
use Rattle.mc_packet.specs.declared.packet.Packet.{Packet}
use Rattle.mc_packet.specs.declared.walk.Mark.{Mark}
use Rattle.mc_journal.specs.declared.record.Cause.{Cause}
use Rattle.mc_journal.specs.declared.record.Removal.{Removal}
use Rattle.mc_packet.specs.Choices.{is_track, nothing}
use Rattle.mc_queue.specs.Queue.{QueueState}
use Rattle.mc_range.specs.declared.queues.Queues.{Queues}
use Rattle.mc_range.specs.Range.{RangeState, IsRange, QueueIn, queue_of}
use Rattle.mc_range.specs.Tracks.{interval_of}
use Rattle.mc_range.proofs.Unions.{video_is, audio_is, sub_is}
use Rattle.mc_cache.specs.Removals.{lost_queue, lost_queues, ordered, put_all, removal_if, removal_in, removals_in, removals_of, removals_of_all, told_if}

-- ---- three by rising track

abbrev row : Option Removal → Option Removal → Option Removal → List Removal
row a b c = option_to_list a ++ (option_to_list b ++ option_to_list c)

sorted : (v a s : Option Removal)
    → row ((ordered v (ordered a s).0).0) ((ordered (ordered v (ordered a s).0).1 (ordered a s).1).0) ((ordered (ordered v (ordered a s).0).1 (ordered a s).1).1)
    ≡ put_all (option_to_list v) (put_all (option_to_list a) (option_to_list s))
sorted None None None = refl
sorted None None (Some s) = refl
sorted None (Some a) None = refl
sorted None (Some a) (Some s) = elim (cases_Bool (nat_le a.track s.track)) [
  | inl y ↦ rw y refl
  | inr n ↦ rw n refl
]
sorted (Some v) None None = refl
sorted (Some v) None (Some s) = elim (cases_Bool (nat_le v.track s.track)) [
  | inl y ↦ rw y refl
  | inr n ↦ rw n refl
]
sorted (Some v) (Some a) None = elim (cases_Bool (nat_le v.track a.track)) [
  | inl y ↦ rw y refl
  | inr n ↦ rw n refl
]
sorted (Some v) (Some a) (Some s) = elim (cases_Bool (nat_le a.track s.track)) [
  | inl y ↦ elim (cases_Bool (nat_le v.track a.track)) [
    | inl x ↦ rw (y, x) (rw y refl)
    | inr m ↦ rw (y, m) (elim (cases_Bool (nat_le v.track s.track)) [ inl z ↦ rw z refl | inr k ↦ rw k refl ])
  ]
  | inr n ↦
      let g : nat_le s.track a.track ≡ true = (let l = leb-false a.track s.track n in le-leb s.track a.track (omega arith)) in
      elim (cases_Bool (nat_le v.track s.track)) [
        | inl x ↦ rw (n, x) (rw g refl)
        | inr m ↦ rw (n, m) (elim (cases_Bool (nat_le v.track a.track)) [ inl z ↦ rw z refl | inr k ↦ rw k refl ])
      ]
]

-- ---- each queue

told_one : (qs : Queues) (cause : Cause) (stays : Option ℕ) (q : QueueState) → queue_of q.track qs ≡ Some q
    → option_to_list (told_if qs cause (Some q.track) (Some (q.from, q.to)) stays) ≡ removal_in cause (lost_queue stays (Some q))
told_one qs cause stays q e = elim (cases_Bool (is_track stays q.track)) [
  | inl y ↦ rw y refl
  | inr n ↦ rw (n, e) (by_packets q.packets)
]
  where
    by_packets : (ps : List Packet) → option_to_list (if length ps == 0 then None else Some (record { track = q.track; from = q.from; to = q.to; cause = cause })) ≡ removal_if cause q.track q.from q.to ps
    by_packets [] = refl
    by_packets (p ∷ ps) = let n : (length (p ∷ ps) == 0) ≡ false = ne_eqb (length (p ∷ ps)) 0 (λ z. absurd (omega arith)) in rw n refl

told_kind : (qs : Queues) (mark : Mark) (cause : Cause) (track stays : Option ℕ) (q : Option QueueState) → QueueIn track mark q → ((k : ℕ) → track ≡ Some k → queue_of k qs ≡ q)
    → option_to_list (told_if qs cause track (interval_of q) stays) ≡ removal_in cause (lost_queue stays q)
told_kind qs mark cause None stays None i h = refl
told_kind qs mark cause (Some k) stays None i h = refl
told_kind qs mark cause track stays (Some q) i h =
    let e = i.0 in
    rw e (told_one qs cause stays q (h q.track e))

pub told_lost : (r : RangeState) (cause : Cause) (set : Choice) (old : List Removal) (v a s : Option Removal) → IsRange r
    → v ≡ told_if r.queues cause r.set.video (interval_of r.queues.video) set.video
    → a ≡ told_if r.queues cause r.set.audio (interval_of r.queues.audio) set.audio
    → s ≡ told_if r.queues cause r.set.sub (interval_of r.queues.sub) set.sub
    → ((old ++ option_to_list ((ordered v (ordered a s).0).0)) ++ option_to_list ((ordered (ordered v (ordered a s).0).1 (ordered a s).1).0)) ++ option_to_list ((ordered (ordered v (ordered a s).0).1 (ordered a s).1).1)
    ≡ old ++ removals_in cause (lost_queues set r.queues)
told_lost r cause set old v a s i ev ea es =
    let x = told_kind r.queues r.mark cause r.set.video set.video r.queues.video i.held.video (λ k e. video_is r k i e) in
    let y = told_kind r.queues r.mark cause r.set.audio set.audio r.queues.audio i.held.audio (λ k e. audio_is r k i e) in
    let z = told_kind r.queues r.mark cause r.set.sub set.sub r.queues.sub i.held.sub (λ k e. sub_is r k i e) in
    let xv : option_to_list v ≡ removal_in cause (lost_queue set.video r.queues.video) = ap (λ o. option_to_list o) ev ∙ x in
    let ya : option_to_list a ≡ removal_in cause (lost_queue set.audio r.queues.audio) = ap (λ o. option_to_list o) ea ∙ y in
    let zs : option_to_list s ≡ removal_in cause (lost_queue set.sub r.queues.sub) = ap (λ o. option_to_list o) es ∙ z in
    let p = sorted v a s in
    let q : put_all (option_to_list v) (put_all (option_to_list a) (option_to_list s)) ≡ removals_in cause (lost_queues set r.queues) = rw (xv, ya, zs) refl in
    flat old _ _ _ ∙ ap (λ ds. old ++ ds) (p ∙ q)
  where
    flat : (w x y z : List Removal) → ((w ++ x) ++ y) ++ z ≡ w ++ (x ++ (y ++ z))
    flat w x y z = append_assoc (w ++ x) y z ∙ append_assoc w x (y ++ z)

-- ---- all queues, and all ranges

lost_nothing : (q : Option QueueState) → lost_queue None q ≡ q
lost_nothing None = refl
lost_nothing (Some q) = refl

pub all_lost : (qs : Queues) → lost_queues nothing qs ≡ qs
all_lost qs =
    let v = lost_nothing qs.video in
    let a = lost_nothing qs.audio in
    let s = lost_nothing qs.sub in
    rw (v, a, s) refl

pub next_range : (cause : Cause) (rs : List RangeState) (i : ℕ) (d : RangeState) → i < length rs → removals_of_all cause (take (i + 1) rs) ≡ removals_of_all cause (take i rs) ++ removals_of cause (get_or rs i d)
next_range cause [] i d l = absurd (omega arith)
next_range cause (r ∷ rs) zero d l = append-nil (removals_of cause r)
next_range cause (r ∷ rs) (suc i) d l = let e : suc i + 1 ≡ suc (i + 1) = omega arith in rw e (ap (λ ds. removals_of cause r ++ ds) (next_range cause rs i d (omega arith)) ∙ sym (append_assoc (removals_of cause r) (removals_of_all cause (take i rs)) (removals_of cause (get_or rs i d))))
