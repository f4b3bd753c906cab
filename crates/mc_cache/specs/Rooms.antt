-- The room within which the calls of a cache can't be refused.
use Rattle.std.specs.Prelude.{◌≡◌, ◌≤◌, ℕ, ◌+◌, Bool, true, false, ◌&&◌, List, [], ◌∷◌, length, Option, Some, None, IfSome, IsSomeAnd}
use Rattle.std.specs.List.{list_any}
use Rattle.mc_packet.specs.declared.cache.Spans.{Spans}
use Rattle.mc_packet.specs.declared.choice.Choice.{Choice}
use Rattle.mc_packet.specs.declared.choice.Starts.{Starts}
use Rattle.mc_packet.specs.declared.packet.Pos.{Pos}
use Rattle.mc_packet.specs.declared.walk.Chunk.{Chunk}
use Rattle.mc_queue.specs.Union.{later}
use Rattle.mc_range.specs.declared.queues.Queues.{Queues}
use Rattle.mc_range.specs.Range.{RangeState, count, is_same_set, meets_range, place_at, queue_of}
use Rattle.mc_range.specs.Tracks.{intervals, spans_touch}
use Rattle.mc_cache.specs.Cache.{CacheState, ranges_of}

-- ---- room in the queues of a range

-- how many packets of a track the ranges hold
abbrev pub count_at : ℕ → RangeState → ℕ
count_at track r = count (queue_of track r.queues)

abbrev pub count_at_all : ℕ → List RangeState → ℕ
count_at_all track [] = 0
count_at_all track (r ∷ rs) = count_at track r + count_at_all track rs

-- the queue of a track, if there is one, has room for so many packets more
abbrev pub HasSpare : ℕ → ℕ → Queues → Type 0
HasSpare more track qs = IfSome (queue_of track qs) (λ q. more ≤ q.spare)

abbrev pub HasSpareFor : List RangeState → ℕ → Queues → Option ℕ → Type 0
HasSpareFor rs more qs track = IfSome track (λ k. HasSpare (more + count_at_all k rs) k qs)

-- each queue of a range has room for all packets of its track that other ranges hold, and so many more
pub record HasRoomFor (rs : List RangeState) (more : ℕ) (r : RangeState) : Type 0 where
  pub video : HasSpareFor rs more r.queues r.set.video
  pub audio : HasSpareFor rs more r.queues r.set.audio
  pub sub : HasSpareFor rs more r.queues r.set.sub

-- ---- room for joins

abbrev pub meets_any : RangeState → List RangeState → Bool
meets_any r rs = list_any (meets_range r) rs

abbrev pub meets_in : Option RangeState → List RangeState → Bool
meets_in None rs = false
meets_in (Some r) rs = meets_any r rs

-- where another range touches this one, there is room for what the others hold, and to tell of those that differ
abbrev pub MayTake : ℕ → List RangeState → RangeState → Type 0
MayTake drops rs r = meets_any r rs ≡ true → (30 ≤ drops) × HasRoomFor rs 0 r

-- the joins of the current range can't be refused
abbrev pub HasRoomToJoin : CacheState → Type 0
HasRoomToJoin st = IfSome st.current (MayTake st.join_room st.others)

-- ---- room for a start

-- a start can't be refused
pub record HasRoomToStart (st : CacheState) : Type 0 where
  pub places : 10 ≤ st.places
  pub drops : 3 ≤ st.start_room

-- nor can the joins after a start of this set, from a range that is held ready
abbrev pub IsPrepared : Choice → Starts → CacheState → Type 0
IsPrepared set starts st = IsSomeAnd st.prepared (λ p. (p.starts ≡ starts) × (p.range.set ≡ set) × MayTake st.join_room (ranges_of st) p.range)

-- ---- room for a part of the film

-- an interval that reaches up to a place, where it did not reach further
abbrev pub longer : Pos → Option (Pos × Pos) → Option (Pos × Pos)
longer upto None = None
longer upto (Some i) = Some (i.0, later i.1 upto)

abbrev pub longer_spans : Pos → Spans → Spans
longer_spans upto s = record { video = longer upto s.video; audio = longer upto s.audio; sub = longer upto s.sub }

-- a range that is read on up to a place touches another
abbrev pub meets_then : Pos → RangeState → RangeState → Bool
meets_then upto r o = is_same_set r.set o.set && spans_touch r.set (longer_spans upto (intervals r.queues)) (intervals o.queues)

abbrev pub meets_any_then : Pos → RangeState → List RangeState → Bool
meets_any_then upto r rs = list_any (meets_then upto r) rs

abbrev pub meets_then_in : Pos → Option RangeState → List RangeState → Bool
meets_then_in upto None rs = false
meets_then_in upto (Some r) rs = meets_any_then upto r rs

-- the range has room for the packets of a part, and where it then touches another, also for what the others hold
pub record MayTakePart (chunk : Chunk) (drops : ℕ) (rs : List RangeState) (r : RangeState) : Type 0 where
  pub alone : HasRoomFor [] (length chunk.packets) r
  pub joined : meets_any_then (place_at chunk.to.pos) r rs ≡ true → (30 ≤ drops) × HasRoomFor rs (length chunk.packets) r

-- neither a feed of this part nor the joins after it can be refused
abbrev pub HasRoomToFeed : Chunk → CacheState → Type 0
HasRoomToFeed chunk st = IfSome st.current (MayTakePart chunk st.join_room st.others)
