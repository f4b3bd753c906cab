-- A range that begins, that gets another set, or a track more: as the definitions over a film's list have it.
use Rattle.std.proofs.Common.{◌≡◌, ℕ, ◌≤◌, ◌==◌, Bool, true, false, List, [], Option, Some, None, arith, refl, ap, sym, ◌∙◌, inl, inr}
use Rattle.std.specs.Prelude.{if◌then◌else◌, IfSome}
use Rattle.std.specs.Option.{option_map}
use Rattle.std.proofs.lemmas.Bool.{cases_Bool, eqb-true, not-true, and_parts}
use Rattle.mc_packet.specs.declared.choice.Choice.{Choice}
use Rattle.mc_packet.specs.declared.choice.Starts.{Starts}
use Rattle.mc_packet.specs.declared.walk.Mark.{Mark}
use Rattle.mc_packet.specs.declared.packet.Packet.{Packet}
use Rattle.mc_packet.specs.Choices.{or_else, is_track, is_other, is_distinct}
use Rattle.mc_journal.specs.Films.{rank, first_lane, track_of}
use Rattle.mc_journal.specs.Ranges.{Span, in_span}
use Rattle.mc_journal.specs.Stands.{empty_span, span_given, new_range}
use Rattle.mc_queue.specs.Queue.{QueueState, IsNew}
use Rattle.mc_range.specs.Range.{RangeState, StartsAt, IsBegun, own, queue_of, span_of, spans_of, as_range, place_at}
use Rattle.mc_range.specs.Serving.{packets_in, HoldsFilm}
use Rattle.mc_range.proofs.Places.{same_lane}
use Rattle.mc_range.proofs.Owned.{found}
use Rattle.mc_range.proofs.Telling.{none_within}
use Rattle.mc_range.proofs.Fed.{range_is}

-- a track of one kind is none of another
pub other_not : (a b : Option ℕ) (k : ℕ) → is_other a b ≡ true → is_track a k ≡ true → is_track b k ≡ false
other_not None b k o e = absurd cc
other_not (Some m) None k o e = refl
other_not (Some m) (Some n) k o e =
    elim (cases_Bool (n == k)) [
      | inl y ↦
          let f = eqb-true m k e in
          let g = eqb-true n k y in
          let x : (m == n) ≡ false = not-true (m == n) o in
          absurd (let z : (k == k) ≡ false = rw (f, g) at x in let w : (k == k) ≡ true = rw g at y in cc)
      | inr z ↦ z
    ]

-- ---- a range that begins

pub begun_own : (t s : Option ℕ) (k : ℕ) (o : Option QueueState) → StartsAt t s o
    → option_map span_of (own k o) ≡ (if is_track t k then option_map (λ b. empty_span (first_lane b)) s else None)
begun_own None s k o h = rw h refl
begun_own (Some t) None k o h = rw h (elim (cases_Bool (t == k)) [ inl y ↦ rw y refl | inr n ↦ rw n refl ])
begun_own (Some t) (Some b) k None h = absurd h
begun_own (Some t) (Some b) k (Some q) h =
    let e = h.track_is in
    elim (cases_Bool (t == k)) [
      | inl y ↦
          let z : (q.track == k) ≡ true = rw e y in
          rw (y, z, h.from_is, h.to_is, same_lane b) refl
      | inr n ↦ let z : (q.track == k) ≡ false = rw e n in rw (n, z) refl
    ]

pub map_else : (a b : Option QueueState) → option_map span_of (or_else a b) ≡ or_else (option_map span_of a) (option_map span_of b)
map_else None b = refl
map_else (Some q) b = refl

map_if : (b : Bool) (x y : Option ℕ) (f : ℕ → Span) → option_map f (if b then x else y) ≡ (if b then option_map f x else option_map f y)
map_if true x y f = refl
map_if false x y f = refl

chosen_one : (v a s : Bool) (x y z : Option Span) → (v ≡ true → (a ≡ false) × (s ≡ false)) → (a ≡ true → s ≡ false)
    → or_else (if v then x else None) (or_else (if a then y else None) (if s then z else None)) ≡ (if v then x else (if a then y else (if s then z else None)))
chosen_one true a s None y z h g = let e = h refl in let e0 = e.0 in let e1 = e.1 in rw (e0, e1) refl
chosen_one true a s (Some w) y z h g = refl
chosen_one false true s x None z h g = let e = g refl in rw e refl
chosen_one false true s x (Some w) z h g = refl
chosen_one false false s x y z h g = refl

pub start_map : (set : Choice) (starts : Starts) (k : ℕ)
    → span_given set starts k ≡ (if is_track set.video k then option_map (λ b. empty_span (first_lane b)) starts.video
    else (if is_track set.audio k then option_map (λ b. empty_span (first_lane b)) starts.audio
    else (if is_track set.sub k then option_map (λ b. empty_span (first_lane b)) starts.sub else None)))
start_map set starts k = elim (cases_Bool (is_track set.video k)) [
  | inl y ↦ rw y refl
  | inr n ↦ rw n (elim (cases_Bool (is_track set.audio k)) [
    | inl y ↦ rw y refl
    | inr m ↦ rw m (elim (cases_Bool (is_track set.sub k)) [ inl y ↦ rw y refl | inr l ↦ rw l refl ])
  ])
]

begun_span : (set : Choice) (starts : Starts) (r : RangeState) → is_distinct set ≡ true → IsBegun set starts r → (k : ℕ) → spans_of r.queues k ≡ span_given set starts k
begun_span set starts r d b k =
    let one = and_parts (is_other set.video set.audio) _ d in
    let two = and_parts (is_other set.video set.sub) (is_other set.audio set.sub) one.1 in
    let v = begun_own set.video starts.video k r.queues.video b.video in
    let a = begun_own set.audio starts.audio k r.queues.audio b.audio in
    let s = begun_own set.sub starts.sub k r.queues.sub b.sub in
    map_else (own k r.queues.video) _ ∙ ap (λ x. or_else (option_map span_of (own k r.queues.video)) x) (map_else (own k r.queues.audio) (own k r.queues.sub))
    ∙ (rw (v, a, s) (chosen_one (is_track set.video k) (is_track set.audio k) (is_track set.sub k) _ _ _
    (λ e. (other_not set.video set.audio k one.0 e, other_not set.video set.sub k two.0 e)) (λ e. other_not set.audio set.sub k two.1 e)))
    ∙ sym (start_map set starts k)

pub begun_ranges : (set : Choice) (starts : Starts) (r : RangeState) → is_distinct set ≡ true → IsBegun set starts r → as_range r ≡ new_range set starts
begun_ranges set starts r d b = range_is _ _ _ _ _ _ (begun_span set starts r d b) (ap (λ (m : Mark). m.pos) b.mark_is) b.no_ending

-- an empty queue holds what lies from a place to itself
abbrev pub IsBlank : QueueState → Type 0
IsBlank q = (q.packets ≡ []) × (rank q.to ≤ rank q.from)

pub new_blank : (track at : ℕ) (q : QueueState) → IsNew track (place_at at) q → IsBlank q
new_blank track at q n = let e = n.from_is in let f = n.to_is in (n.none_yet, rw (e, f) (omega arith))

pub blank_held : (ps : List Packet) (k : ℕ) (o : Option QueueState) → IfSome o (λ q. (q.track ≡ k) × IsBlank q) → in_span (option_map span_of o) (track_of k ps) ≡ (packets_in o)
blank_held ps k None h = refl
blank_held ps k (Some q) h = let e = h.1.0 in rw e (none_within (rank q.from) (rank q.to) (track_of k ps) h.1.1)

begun_blank : (t s : Option ℕ) (o : Option QueueState) → StartsAt t s o → IfSome o IsBlank
begun_blank t s None h = tt
begun_blank None s (Some q) h = absurd cc
begun_blank (Some t) None (Some q) h = absurd cc
begun_blank (Some t) (Some b) (Some q) h = new_blank t b q h

pub begun_film : (ps : List Packet) (set : Choice) (starts : Starts) (r : RangeState) → IsBegun set starts r → HoldsFilm ps r
begun_film ps set starts r b = λ k.
    blank_held ps k (queue_of k r.queues) (found IsBlank k r.queues (begun_blank set.video starts.video r.queues.video b.video)
    (begun_blank set.audio starts.audio r.queues.audio b.audio) (begun_blank set.sub starts.sub r.queues.sub b.sub))
