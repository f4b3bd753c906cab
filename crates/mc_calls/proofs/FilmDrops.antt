-- A drop that the limit asks for, by the queues, is the one that the definitions over a film's list ask for.
use Rattle.std.proofs.Common.{◌≡◌, ℕ, ◌≤◌, ◌<◌, true, Option, Some, None, List, [], ◌∷◌, refl, ap, sym, subst, ◌∙◌, inl, inr, arith}
use Rattle.std.specs.Prelude.{IfSome, IsSomeAnd, nat_le, nat_lt}
use Rattle.std.specs.List.{filter, AllByRecursion}
use Rattle.std.specs.Option.{option_map, option_map_or}
use Rattle.std.proofs.lemmas.Bool.{cases_Bool}
use Rattle.std.proofs.lemmas.Bool.Decides.{nat_tests}
use Rattle.mc_packet.specs.declared.packet.Packet.{Packet}
use Rattle.mc_packet.specs.declared.packet.Pos.{Pos}
use Rattle.mc_packet.specs.declared.choice.Kind.{Kind}
use Rattle.mc_packet.specs.declared.choice.Kind.TheVariants.{Video, Audio, Sub}
use Rattle.mc_packet.specs.declared.choice.Choice.{Choice}
use Rattle.mc_packet.specs.declared.cache.Heads.{Heads}
use Rattle.mc_packet.specs.declared.walk.Mark.{Mark}
use Rattle.mc_packet.specs.Choices.{is_distinct}
use Rattle.mc_journal.specs.Films.{at, rank, first, track_of}
use Rattle.mc_journal.specs.Ranges.{Range, Span, held, in_span, within}
use Rattle.mc_journal.specs.Allowed.{Cuts as CutsSpan}
use Rattle.mc_journal.specs.Used as used
use Rattle.mc_queue.specs.Places.{place}
use Rattle.mc_queue.specs.Queue.{QueueState, IsQueue}
use Rattle.mc_queue.proofs.Rising.{rise_from, less_weight_from}
use Rattle.mc_range.specs.declared.queues.Queues.{Queues}
use Rattle.mc_range.specs.declared.cutting.Cut.{Cut}
use Rattle.mc_range.specs.Range.{RangeState, IsRange, QueuesIn, as_range, queue_of, span_of}
use Rattle.mc_range.specs.Serving.{HoldsFilm, packets_in}
use Rattle.mc_range.specs.Tracks.{queue_under, with_queue}
use Rattle.mc_range.specs.Growing.{IsSound, AllSound}
use Rattle.mc_range.specs.Cutting.{Cuts, CutsOne, IsAheadIn, IsCut, bound_under, cut_at, cut_of, victim}
use Rattle.mc_range.proofs.Dropping as dropping

-- ---- a range that is cut is one

cut_sound : (hd : Option Pos) (o n : Option QueueState) (c : Cut) → IsSound o → IsAheadIn hd o → CutsOne hd o n (Some c) → IsSound n × (rank c.from ≤ rank c.to)
cut_sound hd None n c s a x = absurd x
cut_sound hd (Some q) None c s a x = absurd x.1
cut_sound hd (Some q) (Some m) c s a x =
    let same : c ≡ cut_of hd q = one c (cut_of hd q) x.0 in
    let low = dropping.cut_low hd q s a in
    let high = dropping.cut_high hd q s a in
    let light = less_weight_from (rank (cut_at hd q)) q.packets in
    let fits = s.fits in (
      subst (λ (z : QueueState). IsQueue z) (sym x.1.packets_left) (record {
        rise = rise_from q.track (rank q.from) (rank q.to) (rank (cut_at hd q)) q.packets high s.rise;
        fits = omega arith;
      }),
      subst (λ (z : Cut). rank z.from ≤ rank z.to) (sym same) low,
    )
  where
    one : (a b : Cut) → Some a ≡ Some b → a ≡ b
    one a b e = cc

sound_is : (o n : Option QueueState) → n ≡ o → IsSound o → IsSound n
sound_is o n e s = subst (λ (x : Option QueueState). IsSound x) (sym e) s

all_sound : (old new : Queues) (k : Kind) → AllSound old → IsSound (queue_under k new) → new ≡ with_queue k (queue_under k new) old → AllSound new
all_sound old new Video s n e = record {
  video = n;
  audio = sound_is old.audio new.audio (ap (λ (q : Queues). q.audio) e) s.audio;
  sub = sound_is old.sub new.sub (ap (λ (q : Queues). q.sub) e) s.sub;
}
all_sound old new Audio s n e = record {
  video = sound_is old.video new.video (ap (λ (q : Queues). q.video) e) s.video;
  audio = n;
  sub = sound_is old.sub new.sub (ap (λ (q : Queues). q.sub) e) s.sub;
}
all_sound old new Sub s n e = record {
  video = sound_is old.video new.video (ap (λ (q : Queues). q.video) e) s.video;
  audio = sound_is old.audio new.audio (ap (λ (q : Queues). q.audio) e) s.audio;
  sub = n;
}

sound_under : (k : Kind) (qs : Queues) → AllSound qs → IsSound (queue_under k qs)
sound_under Video qs s = s.video
sound_under Audio qs s = s.audio
sound_under Sub qs s = s.sub

pub record IsCutWell (r q : RangeState) (c : Cut) : Type 0 where
  pub range : IsRange q
  pub onward : rank c.from ≤ rank c.to

cut_parts : (heads : Option Heads) (r q : RangeState) (c : Cut) → IsRange r → IsCut heads r q (Some c) → AllSound q.queues × (rank c.from ≤ rank c.to)
cut_parts heads r q c i x = elim (victim heads r.queues) as (λ v. victim heads r.queues ≡ v → Cuts heads r.queues q.queues v (Some c) → AllSound q.queues × (rank c.from ≤ rank c.to)) [
  | None ↦ λ e y. absurd (let f = y.0 in cc)
  | Some v ↦ λ e y.
      let sound = dropping.all_sound r i in
      let a = dropping.victim_ahead heads r.queues v sound e in
      let both = cut_sound (bound_under v.kind heads) (queue_under v.kind r.queues) (queue_under v.kind q.queues) c (sound_under v.kind r.queues sound) a y.0 in
      (all_sound r.queues q.queues v.kind sound both.0 y.1, both.1)
] refl x.queues

pub cut_well : (heads : Option Heads) (r q : RangeState) (c : Cut) → IsRange r → IsCut heads r q (Some c) → IsCutWell r q c
cut_well heads r q c i x =
    let parts = cut_parts heads r q c i x in
    let whole = dropping.cut_range heads r q.queues (victim heads r.queues) (Some c) i x.queues parts.0 in
    record {
      range = record {
        distinct = subst (λ (s : Choice). is_distinct s ≡ true) (sym x.set_is) i.distinct;
        held = subst (λ (s : Choice). QueuesIn s q.mark q.queues) (sym x.set_is) (subst (λ (m : Mark). QueuesIn r.set m q.queues) (sym x.mark_is) whole.held);
      };
      onward = parts.1;
    }

-- ---- the cut of the definitions lies in the span

within_high : (from to : ℕ) (ps : List Packet) → AllByRecursion (λ p. at p < to) (within from to ps)
within_high from to [] = tt
within_high from to (p ∷ ps) =
    let more = within_high from to ps in
    elim (cases_Bool (nat_lt (at p) to)) [
      | inl y ↦
          let l : at p < to = grind (arith, nat_tests) in
          elim (cases_Bool (nat_le from (at p))) [ inl z ↦ rw (z, y) (l, more) | inr o ↦ rw o more ]
      | inr n ↦ elim (cases_Bool (nat_le from (at p))) [ inl z ↦ rw (z, n) more | inr o ↦ rw o more ]
    ]

next_within : (to : ℕ) (ps : List Packet) → AllByRecursion (λ p. at p < to) ps → used.next_sync to ps ≤ to
next_within to [] h = omega arith
next_within to (p ∷ ps) h = of_first to ps h.1
  where
    of_first : (to : ℕ) (ps : List Packet) → AllByRecursion (λ p. at p < to) ps → option_map_or at (first (filter (λ q. q.sync) ps)) to ≤ to
    of_first to [] h = omega arith
    of_first to (q ∷ qs) h =
        let l = h.0 in
        let more = of_first to qs h.1 in
        elim (cases_Bool q.sync) [ inl y ↦ rw y (omega arith) | inr n ↦ rw n more ]

at_most_within : (o : Option ℕ) (n : ℕ) → used.at_most o n ≤ n
at_most_within None n = omega arith
at_most_within (Some m) n = omega arith

span_cuts : (o : Option Span) (ps : List Packet) (upto : Option ℕ) (from to : ℕ) → from ≤ to
    → IsSomeAnd o (λ s. (from ≡ s.from) × (to ≡ used.at_most upto (used.next_sync s.to (in_span o ps))))
    → IsSomeAnd o (λ s. (s.from ≡ from) × (from ≤ to) × (to ≤ s.to))
span_cuts None ps upto from to l h = absurd h
span_cuts (Some s) ps upto from to l h =
    let n = next_within s.to (within s.from s.to ps) (within_high s.from s.to ps) in
    let m = at_most_within upto (used.next_sync s.to (within s.from s.to ps)) in
    let e = h.1 in
    (sym h.0, l, omega arith)

pub cuts_span : (ps : List Packet) (set : Choice) (upto : ℕ → Option ℕ) (track from to : ℕ) (r : Range) → from ≤ to → used.IsCut ps set upto track from to r
    → CutsSpan track from to r
cuts_span ps set upto track from to r l h = span_cuts (r.spans track) (track_of track ps) (upto track) from to l h.1

below_bound : (o : Option Span) (xs : List Packet) (n from to : ℕ) → IsSomeAnd o (λ s. (from ≡ s.from) × (to ≡ used.at_most (Some n) (used.next_sync s.to xs))) → to ≤ n
below_bound None xs n from to h = absurd h
below_bound (Some s) xs n from to h = let e = h.1 in omega arith

pub cut_below : (ps : List Packet) (set : Choice) (place : ℕ → ℕ) (track from to : ℕ) (r : Range) → used.IsCut ps set (λ k. Some (place k)) track from to r → to ≤ place track
cut_below ps set place track from to r h = below_bound (r.spans track) (held r ps track) (place track) from to h.1

-- ---- a bound of a track without a queue is none

cuttable_same : (ps : List Packet) (o : Option QueueState) (xs : List Packet) (a b : Option ℕ) → xs ≡ (packets_in o) → IfSome o (λ q. a ≡ b)
    → used.cuttable a xs ≡ used.cuttable b xs
cuttable_same ps None xs a b e h = rw e (none a b)
  where
    none : (a b : Option ℕ) → used.cuttable a [] ≡ used.cuttable b []
    none None None = refl
    none None (Some n) = refl
    none (Some m) None = refl
    none (Some m) (Some n) = refl
cuttable_same ps (Some q) xs a b e h = ap (λ (o : Option ℕ). used.cuttable o xs) h

first_same : (ps : List Packet) (r : RangeState) (upto upto' : ℕ → Option ℕ) (o : Option ℕ) → HoldsFilm ps r
    → ((k : ℕ) → IfSome (queue_of k r.queues) (λ q. upto k ≡ upto' k)) → used.cut_first ps upto (as_range r) o ≡ used.cut_first ps upto' (as_range r) o
first_same ps r upto upto' None all h = refl
first_same ps r upto upto' (Some k) all h = cuttable_same ps (queue_of k r.queues) (held (as_range r) ps k) (upto k) (upto' k) (all k) (h k)

victim_same : (ps : List Packet) (set : Choice) (r : RangeState) (upto upto' : ℕ → Option ℕ) → HoldsFilm ps r
    → ((k : ℕ) → IfSome (queue_of k r.queues) (λ q. upto k ≡ upto' k)) → used.victim ps set upto (as_range r) ≡ used.victim ps set upto' (as_range r)
victim_same ps set r upto upto' all h =
    let v = first_same ps r upto upto' set.video all h in
    let a = first_same ps r upto upto' set.audio all h in
    let s = first_same ps r upto upto' set.sub all h in
    ap (λ (x : Option Packet). used.earlier x (used.earlier (used.cut_first ps upto (as_range r) set.audio) (used.cut_first ps upto (as_range r) set.sub))) v
    ∙ ap (λ (x : Option Packet). used.earlier (used.cut_first ps upto' (as_range r) set.video) (used.earlier x (used.cut_first ps upto (as_range r) set.sub))) a
    ∙ ap (λ (x : Option Packet). used.earlier (used.cut_first ps upto' (as_range r) set.video) (used.earlier (used.cut_first ps upto' (as_range r) set.audio) x)) s

part_same : (o : Option QueueState) (a b : Option ℕ) (xs : List Packet) (from to : ℕ) → IfSome o (λ q. a ≡ b)
    → IsSomeAnd (option_map span_of o) (λ s. (from ≡ s.from) × (to ≡ used.at_most a (used.next_sync s.to xs)))
    → IsSomeAnd (option_map span_of o) (λ s. (from ≡ s.from) × (to ≡ used.at_most b (used.next_sync s.to xs)))
part_same None a b xs from to h x = absurd x
part_same (Some q) a b xs from to h x = (x.0, x.1 ∙ ap (λ (o : Option ℕ). used.at_most o (used.next_sync (rank q.to) xs)) h)

pub cut_upto : (ps : List Packet) (set : Choice) (r : RangeState) (upto upto' : ℕ → Option ℕ) (track from to : ℕ) → HoldsFilm ps r
    → ((k : ℕ) → IfSome (queue_of k r.queues) (λ q. upto k ≡ upto' k))
    → used.IsCut ps set upto track from to (as_range r) → used.IsCut ps set upto' track from to (as_range r)
cut_upto ps set r upto upto' track from to all h x = (
  subst (λ (o : Option Packet). IsSomeAnd o (λ p. p.track ≡ track)) (victim_same ps set r upto upto' all h) x.0,
  part_same (queue_of track r.queues) (upto track) (upto' track) (held (as_range r) ps track) from to (h track) x.1,
)
