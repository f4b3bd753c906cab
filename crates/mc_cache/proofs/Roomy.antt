-- Where only the room changes, the ranges over a film's list are the same, and hold what they held.
use Rattle.std.proofs.Common.{◌≡◌, ℕ, ◌==◌, true, false, List, Option, Some, None, refl, ap, sym, ◌∙◌, inl, inr}
use Rattle.std.specs.Prelude.{IfSome, IsSomeAnd, map}
use Rattle.std.specs.Option.{option_map}
use Rattle.std.proofs.lemmas.Bool.{cases_Bool}
use Rattle.mc_packet.specs.declared.packet.Packet.{Packet}
use Rattle.mc_packet.specs.declared.cache.Heads.{Heads}
use Rattle.mc_packet.specs.declared.choice.Choice.{Choice}
use Rattle.mc_packet.specs.declared.walk.Mark.{Mark}
use Rattle.mc_packet.specs.Choices.{or_else}
use Rattle.mc_journal.specs.Films.{rank, track_of}
use Rattle.mc_journal.specs.Ranges.{Span, in_span}
use Rattle.mc_queue.specs.Queue.{QueueState}
use Rattle.mc_range.specs.declared.queues.Queues.{Queues}
use Rattle.mc_range.specs.Range.{RangeState, AreRoomier, IsRoomier, Roomier, as_range, own, queue_of, span_of}
use Rattle.mc_range.specs.Serving.{HoldsFilm, packets_in}
use Rattle.mc_range.proofs.Fed.{range_is}
use Rattle.mc_cache.specs.Cache.{CacheState, stand_of}
use Rattle.mc_cache.specs.Changing.{IsOnlyRoomier, IsSameButRoom, RoomierIn}
use Rattle.mc_cache.specs.Filmed.{HoldsAll, HoldsIn}
use Rattle.mc_cache.specs.Placed.{HeadsAt, head_of}
use Rattle.mc_cache.proofs.Standing.{stand_is}

-- ---- the queue of a track

own_roomier : (k : ℕ) (o n : Option QueueState) → Roomier o n → Roomier (own k o) (own k n)
own_roomier k None n r = rw r refl
own_roomier k (Some q) None r = absurd r
own_roomier k (Some q) (Some m) r =
    let t : m.track ≡ q.track = ap (λ (z : QueueState). z.track) r.0 in
    elim (cases_Bool (q.track == k)) [
      | inl y ↦ let z : (m.track == k) ≡ true = ap (λ n. n == k) t ∙ y in rw (y, z) r
      | inr x ↦ let z : (m.track == k) ≡ false = ap (λ n. n == k) t ∙ x in rw (x, z) refl
    ]

or_roomier : (a n b m : Option QueueState) → Roomier a n → Roomier b m → Roomier (or_else a b) (or_else n m)
or_roomier None n b m r s = rw r s
or_roomier (Some q) None b m r s = absurd r
or_roomier (Some q) (Some k) b m r s = r

queue_roomier : (k : ℕ) (o n : Queues) → AreRoomier o n → Roomier (queue_of k o) (queue_of k n)
queue_roomier k o n r =
    or_roomier (own k o.video) (own k n.video) (or_else (own k o.audio) (own k o.sub)) (or_else (own k n.audio) (own k n.sub)) (own_roomier k o.video n.video r.video)
    (or_roomier (own k o.audio) (own k n.audio) (own k o.sub) (own k n.sub) (own_roomier k o.audio n.audio r.audio) (own_roomier k o.sub n.sub r.sub))

same_span : (o n : Option QueueState) → Roomier o n → option_map span_of n ≡ option_map span_of o
same_span None n r = rw r refl
same_span (Some q) None r = absurd r
same_span (Some q) (Some m) r = ap (λ (z : QueueState). Some (span_of z)) r.0

same_packets : (o n : Option QueueState) → Roomier o n → packets_in n ≡ packets_in o
same_packets None n r = rw r refl
same_packets (Some q) None r = absurd r
same_packets (Some q) (Some m) r = ap (λ (z : QueueState). z.packets) r.0

same_head : (o n : Option QueueState) (P : Type 0) → Roomier o n → IfSome o (λ q. P) → IfSome n (λ q. P)
same_head None n P r h = rw r tt
same_head (Some q) None P r h = absurd r
same_head (Some q) (Some m) P r h = h

-- ---- a range

same_range : (o n : RangeState) → IsRoomier o n → as_range n ≡ as_range o
same_range o n r =
    range_is _ _ _ _ _ _ (λ k. same_span (queue_of k o.queues) (queue_of k n.queues) (queue_roomier k o.queues n.queues r.queues))
    (ap (λ (m : Mark). m.pos) r.mark_is) r.ending_is

same_film : (ps : List Packet) (o n : RangeState) → IsRoomier o n → HoldsFilm ps o → HoldsFilm ps n
same_film ps o n r h = λ k.
    let q = queue_roomier k o.queues n.queues r.queues in
    ap (λ (s : Option Span). in_span s (track_of k ps)) (same_span (queue_of k o.queues) (queue_of k n.queues) q) ∙ h k
    ∙ ap (λ (xs : List Packet). xs) (sym (same_packets (queue_of k o.queues) (queue_of k n.queues) q))

-- ---- a cache

same_current : (o n : Option RangeState) → RoomierIn o n → option_map as_range n ≡ option_map as_range o
same_current None n r = rw r refl
same_current (Some o) None r = absurd r
same_current (Some o) (Some n) r = ap (λ x. Some x) (same_range o n r)

film_current : (ps : List Packet) (set : Choice) (o n : Option RangeState) → RoomierIn o n → IfSome o (HoldsIn ps set) → IfSome n (HoldsIn ps set)
film_current ps set None n r h = rw r tt
film_current ps set (Some o) None r h = absurd r
film_current ps set (Some o) (Some n) r h = record { film = same_film ps o n r h.film; set_is = r.set_is ∙ h.set_is }

heads_current : (set : Choice) (heads : Heads) (place : ℕ → ℕ) (o n : Option RangeState) → RoomierIn o n → IfSome o (HeadsAt set heads place) → IfSome n (HeadsAt set heads place)
heads_current set heads place None n r h = rw r tt
heads_current set heads place (Some o) None r h = absurd r
heads_current set heads place (Some o) (Some n) r h = λ k.
    same_head (queue_of k o.queues) (queue_of k n.queues) (IsSomeAnd (head_of set heads k) (λ p. rank p ≡ place k)) (queue_roomier k o.queues n.queues r.queues) (h k)

pub room_stand : (old new : CacheState) → IsSameButRoom old new → stand_of new ≡ stand_of old
room_stand old new s =
    stand_is (option_map as_range new.current) (option_map as_range old.current) (map as_range new.others) (map as_range old.others)
    (same_current old.current new.current s.current) (ap (λ rs. map as_range rs) s.others_is)

pub room_film : (ps : List Packet) (set : Choice) (old new : CacheState) → IsSameButRoom old new → HoldsAll ps set old → HoldsAll ps set new
room_film ps set old new s h =
    let o = s.others_is in
    record { current = film_current ps set old.current new.current s.current h.current; others = rw o h.others }

pub room_heads : (set : Choice) (heads : Heads) (place : ℕ → ℕ) (old new : CacheState) → IsSameButRoom old new → IfSome old.current (HeadsAt set heads place) → IfSome new.current (HeadsAt set heads place)
room_heads set heads place old new s h = heads_current set heads place old.current new.current s.current h

pub roomier_stand : (old new : CacheState) → IsOnlyRoomier old new → stand_of new ≡ stand_of old
roomier_stand old new s = ap (λ (c : CacheState). stand_of c) s.same

pub roomier_film : (ps : List Packet) (set : Choice) (old new : CacheState) → IsOnlyRoomier old new → HoldsAll ps set old → HoldsAll ps set new
roomier_film ps set old new s h =
    let c : new.current ≡ old.current = ap (λ (x : CacheState). x.current) s.same in
    let o : new.others ≡ old.others = ap (λ (x : CacheState). x.others) s.same in
    record { current = rw c h.current; others = rw o h.others }
