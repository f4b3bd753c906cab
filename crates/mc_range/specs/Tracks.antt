-- The intervals of a range's queues, and what becomes of a range when other tracks are selected or a track is added.
use Rattle.std.specs.Prelude.{◌≡◌, ℕ, ◌+◌, nat_le, nat_lt, Bool, true, false, ◌&&◌, if◌then◌else◌, Option, Some, None, IsSomeAnd}
use Rattle.mc_packet.specs.declared.packet.Pos.{Pos}
use Rattle.mc_packet.specs.declared.choice.Choice.{Choice}
use Rattle.mc_packet.specs.declared.choice.Kind.{Kind}
use Rattle.mc_packet.specs.declared.choice.Kind.TheVariants.{Video, Audio, Sub}
use Rattle.mc_packet.specs.declared.cache.Spans.{Spans}
use Rattle.mc_packet.specs.declared.walk.Mark.{Mark}
use Rattle.mc_packet.specs.Choices.{is_track}
use Rattle.mc_journal.specs.Films.{rank}
use Rattle.mc_queue.specs.Queue.{QueueState, IsNew}
use Rattle.mc_range.specs.declared.queues.Queues.{Queues}
use Rattle.mc_range.specs.Range.{RangeState, count, place_at}

-- ---- intervals and numbers

abbrev pub interval_of : Option QueueState → Option (Pos × Pos)
interval_of None = None
interval_of (Some q) = Some (q.from, q.to)

-- of each kind the interval of its queue
abbrev pub intervals : Queues → Spans
intervals qs = record { video = interval_of qs.video; audio = interval_of qs.audio; sub = interval_of qs.sub }

-- the number of all packets
abbrev pub count_of_all : Queues → ℕ
count_of_all qs = count qs.video + (count qs.audio + count qs.sub)

abbrev pub both_touch : Pos × Pos → Pos × Pos → Bool
both_touch a b = nat_le (rank a.0) (rank b.1) && nat_le (rank b.0) (rank a.1)

-- for a selected track both are there, and each begins where the other ends or before
abbrev pub touch_in : Option ℕ → Option (Pos × Pos) → Option (Pos × Pos) → Bool
touch_in None a b = true
touch_in (Some track) None b = false
touch_in (Some track) (Some a) None = false
touch_in (Some track) (Some a) (Some b) = both_touch a b

abbrev pub spans_touch : Choice → Spans → Spans → Bool
spans_touch set a b = touch_in set.video a.video b.video && (touch_in set.audio a.audio b.audio && touch_in set.sub a.sub b.sub)

-- ---- other tracks

-- a kind's queue stays where the set has its track under that kind
abbrev pub kept_queue : Option ℕ → Option QueueState → Option QueueState
kept_queue track None = None
kept_queue track (Some q) = if is_track track q.track then Some q else None

abbrev pub kept_queues : Choice → Queues → Queues
kept_queues set qs = record { video = kept_queue set.video qs.video; audio = kept_queue set.audio qs.audio; sub = kept_queue set.sub qs.sub }

abbrev pub retracked : Choice → RangeState → RangeState
retracked set r = record { set = set; queues = kept_queues set r.queues; mark = r.mark; ending = r.ending }

-- ---- a track is added

-- the selected track of a kind, and its queue
abbrev pub selected_under : Kind → Choice → Option ℕ
selected_under Video set = set.video
selected_under Audio set = set.audio
selected_under Sub set = set.sub

abbrev pub queue_under : Kind → Queues → Option QueueState
queue_under Video qs = qs.video
queue_under Audio qs = qs.audio
queue_under Sub qs = qs.sub

-- the others with this one
abbrev pub with_queue : Kind → Option QueueState → Queues → Queues
with_queue Video q qs = record { video = q; audio = qs.audio; sub = qs.sub }
with_queue Audio q qs = record { video = qs.video; audio = q; sub = qs.sub }
with_queue Sub q qs = record { video = qs.video; audio = qs.audio; sub = q }

-- a kind has an empty queue of the track at a block, and the others are as they were
pub record PutsIn (kind : Kind) (track start : ℕ) (old new : Queues) : Type 0 where
  pub begun : IsSomeAnd (queue_under kind new) (λ q. IsNew track (place_at start) q)
  pub others : new ≡ with_queue kind (queue_under kind new) old

-- a lesser mark becomes the range's, whose ending is then forgotten
pub record IsAdded (kind : Kind) (track start : ℕ) (mark : Mark) (old new : RangeState) : Type 0 where
  pub set_is : new.set ≡ old.set
  pub queues : PutsIn kind track start old.queues new.queues
  pub mark_is : new.mark ≡ (if nat_lt mark.pos old.mark.pos then mark else old.mark)
  pub ending_is : new.ending ≡ (if nat_lt mark.pos old.mark.pos then None else old.ending)
