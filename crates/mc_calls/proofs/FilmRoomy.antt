-- With more room a cache holds the same packets of the film.
use Rattle.std.proofs.Common.{◌≡◌, ℕ, ◌==◌, true, false, Option, Some, None, List, refl, ap, sym, subst, ◌∙◌, inl, inr}
use Rattle.std.specs.Prelude.{IfSome, map}
use Rattle.std.specs.List.{AllByRecursion}
use Rattle.std.specs.Option.{option_map}
use Rattle.std.proofs.lemmas.Bool.{cases_Bool}
use Rattle.mc_packet.specs.declared.choice.Choice.{Choice}
use Rattle.mc_packet.specs.declared.cache.Heads.{Heads}
use Rattle.mc_packet.specs.declared.cache.Limits.{Limits}
use Rattle.mc_packet.specs.declared.walk.Mark.{Mark}
use Rattle.mc_packet.specs.Choices.{or_else}
use Rattle.mc_journal.specs.declared.record.DemuxRecord.{DemuxRecord}
use Rattle.mc_packet.specs.declared.packet.Packet.{Packet}
use Rattle.mc_journal.specs.Films.{Film, track_of}
use Rattle.mc_journal.specs.Ranges.{Range, Span, in_span}
use Rattle.mc_journal.specs.Views.{head}
use Rattle.mc_queue.specs.Queue.{QueueState}
use Rattle.mc_range.specs.declared.queues.Queues.{Queues}
use Rattle.mc_range.specs.Range.{RangeState, AreRoomier, IsRoomier, Roomier, as_range, own, queue_of, span_of}
use Rattle.mc_range.specs.Serving.{HoldsFilm, packets_in}
use Rattle.mc_range.proofs.Fed.{range_is}
use Rattle.mc_cache.specs.Cache.{CacheState}
use Rattle.mc_cache.specs.Changing.{IsSameButRoom, RoomierIn}
use Rattle.mc_calls.specs.declared.waiting.Target.{Target}
use Rattle.mc_calls.specs.declared.waiting.Switch.{Switch}
use Rattle.mc_calls.specs.declared.waiting.Failure.{Failure}
use Rattle.mc_calls.specs.Film.{Fits}
use Rattle.mc_calls.proofs.SameTracks.{places_same}
use Rattle.mc_calls.proofs.Roomy.{roomier_current}

-- ---- the queue of a track

own_roomier : (k : ℕ) (o n : Option QueueState) → Roomier o n → Roomier (own k o) (own k n)
own_roomier k None n r = rw r refl
own_roomier k (Some q) None r = absurd r
own_roomier k (Some q) (Some m) r =
    let t : m.track ≡ q.track = ap (λ (x : QueueState). x.track) r.0 in
    elim (cases_Bool (q.track == k)) [
      | inl y ↦ let z : (m.track == k) ≡ true = rw t y in rw (y, z) r
      | inr n ↦ let z : (m.track == k) ≡ false = rw t n in rw (n, z) refl
    ]

or_roomier : (a b x y : Option QueueState) → Roomier a x → Roomier b y → Roomier (or_else a b) (or_else x y)
or_roomier None b x y r s = rw r s
or_roomier (Some q) b None y r s = absurd r
or_roomier (Some q) b (Some m) y r s = r

pub of_roomier : (k : ℕ) (qs ns : Queues) → AreRoomier qs ns → Roomier (queue_of k qs) (queue_of k ns)
of_roomier k qs ns r =
    or_roomier (own k qs.video) (or_else (own k qs.audio) (own k qs.sub)) (own k ns.video) (or_else (own k ns.audio) (own k ns.sub)) (own_roomier k qs.video ns.video r.video)
    (or_roomier (own k qs.audio) (own k qs.sub) (own k ns.audio) (own k ns.sub) (own_roomier k qs.audio ns.audio r.audio) (own_roomier k qs.sub ns.sub r.sub))

span_roomier : (o n : Option QueueState) → Roomier o n → option_map span_of n ≡ option_map span_of o
span_roomier None n r = rw r refl
span_roomier (Some q) None r = absurd r
span_roomier (Some q) (Some m) r = ap (λ (x : QueueState). Some (span_of x)) r.0

packets_roomier : (o n : Option QueueState) → Roomier o n → packets_in n ≡ packets_in o
packets_roomier None n r = rw r refl
packets_roomier (Some q) None r = absurd r
packets_roomier (Some q) (Some m) r = ap (λ (x : QueueState). x.packets) r.0

-- ---- a range

pub roomier_ranges : (o n : RangeState) → IsRoomier o n → as_range n ≡ as_range o
roomier_ranges o n r =
    range_is _ _ _ _ _ _ (λ k. span_roomier (queue_of k o.queues) (queue_of k n.queues) (of_roomier k o.queues n.queues r.queues)) (ap (λ (m : Mark). m.pos) r.mark_is) r.ending_is

roomier_film : (ps : List Packet) (o n : RangeState) → IsRoomier o n → HoldsFilm ps o → HoldsFilm ps n
roomier_film ps o n r h = λ k.
    let q = of_roomier k o.queues n.queues r.queues in
    ap (λ (s : Option Span). in_span s (track_of k ps)) (span_roomier (queue_of k o.queues) (queue_of k n.queues) q)
    ∙ h k ∙ sym (ap (λ xs. xs) (packets_roomier (queue_of k o.queues) (queue_of k n.queues) q))

current_is : (o n : Option RangeState) → RoomierIn o n → option_map as_range n ≡ option_map as_range o
current_is None n r = rw r refl
current_is (Some a) None r = absurd r
current_is (Some a) (Some b) r = ap (λ (x : Range). Some x) (roomier_ranges a b r)

current_film : (ps : List Packet) (o n : Option RangeState) → RoomierIn o n → IfSome o (HoldsFilm ps) → IfSome n (HoldsFilm ps)
current_film ps None n r h = subst (λ (x : Option RangeState). IfSome x (HoldsFilm ps)) (sym r) tt
current_film ps (Some a) None r h = absurd r
current_film ps (Some a) (Some b) r h = roomier_film ps a b r h

-- ---- the film

pub roomy_fits : (film : Film) (limits : Limits) (set : Choice) (old new : CacheState) (heads : Heads)
    (seeking : Option Target) (waiting : Choice) (switch : Switch) (failure : Option Failure) (ended : Choice) (h : List DemuxRecord)
    → IsSameButRoom old new → Fits film limits set old.current old.others heads seeking waiting switch failure ended h
    → Fits film limits set new.current new.others heads seeking waiting switch failure ended h
roomy_fits film limits set old new heads seeking waiting switch failure ended h s f = record {
  film_is = f.film_is;
  used = f.used;
  set_is = f.set_is;
  current_is = f.current_is ∙ sym (current_is old.current new.current s.current);
  others_are = f.others_are ∙ sym (ap (λ (rs : List RangeState). map as_range rs) s.others_is);
  held = current_film film.packets old.current new.current s.current f.held;
  all_held = subst (λ (rs : List RangeState). AllByRecursion (HoldsFilm film.packets) rs) (sym s.others_is) f.all_held;
  places = places_same set heads (λ track. head film.packets track h) old.current new.current (roomier_current old.current new.current s.current) f.places;
  seeks = f.seeks;
  target_is = f.target_is;
  sought_at = f.sought_at;
  waits_are = f.waits_are;
  added_at = f.added_at;
  failure_is = f.failure_is;
  ended_are = f.ended_are;
}
