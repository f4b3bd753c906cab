-- What is told of packets that go: one removal for each queue that holds some, by rising track.
use Rattle.std.specs.Prelude.{ℕ, ◌==◌, nat_le, Bool, true, false, List, [], ◌∷◌, ◌++◌, Option, Some, None, if◌then◌else◌}
use Rattle.mc_packet.specs.declared.packet.Packet.{Packet}
use Rattle.mc_packet.specs.declared.packet.Pos.{Pos}
use Rattle.mc_packet.specs.declared.choice.Choice.{Choice}
use Rattle.mc_journal.specs.declared.record.Cause.{Cause}
use Rattle.mc_journal.specs.declared.record.Removal.{Removal}
use Rattle.mc_packet.specs.Choices.{is_track}
use Rattle.mc_queue.specs.Queue.{QueueState}
use Rattle.mc_range.specs.declared.queues.Queues.{Queues}
use Rattle.mc_range.specs.Range.{RangeState, count, queue_of}

-- a removal of an interval, where it holds packets
abbrev pub removal_if : Cause → ℕ → Pos → Pos → List Packet → List Removal
removal_if cause track from to [] = []
removal_if cause track from to (p ∷ ps) = record { track = track; from = from; to = to; cause = cause } ∷ []

abbrev pub removal_in : Cause → Option QueueState → List Removal
removal_in cause None = []
removal_in cause (Some q) = removal_if cause q.track q.from q.to q.packets

-- by rising track
abbrev pub put_in : Removal → List Removal → List Removal
put_in d [] = d ∷ []
put_in d (e ∷ es) = if nat_le d.track e.track then d ∷ e ∷ es else e ∷ put_in d es

abbrev pub put_all : List Removal → List Removal → List Removal
put_all [] es = es
put_all (d ∷ ds) es = put_in d (put_all ds es)

abbrev pub removals_in : Cause → Queues → List Removal
removals_in cause qs = put_all (removal_in cause qs.video) (put_all (removal_in cause qs.audio) (removal_in cause qs.sub))

-- of a range, and of several, one behind the other
abbrev pub removals_of : Cause → RangeState → List Removal
removals_of cause r = removals_in cause r.queues

abbrev pub removals_of_all : Cause → List RangeState → List Removal
removals_of_all cause [] = []
removals_of_all cause (r ∷ rs) = removals_of cause r ++ removals_of_all cause rs

-- ---- the queues that a range loses when other tracks are selected

-- a queue whose track is not the one of its kind
abbrev pub lost_queue : Option ℕ → Option QueueState → Option QueueState
lost_queue track None = None
lost_queue track (Some q) = if is_track track q.track then None else Some q

abbrev pub lost_queues : Choice → Queues → Queues
lost_queues set qs = record { video = lost_queue set.video qs.video; audio = lost_queue set.audio qs.audio; sub = lost_queue set.sub qs.sub }

abbrev pub removals_lost : Cause → Choice → Option RangeState → List Removal
removals_lost cause set None = []
removals_lost cause set (Some r) = removals_in cause (lost_queues set r.queues)

-- ---- the parts of a call

-- what is told of a queue, by its track and interval: of one with packets, whose track doesn't stay
abbrev pub told_in : Queues → Cause → ℕ → Pos × Pos → Bool → Option Removal
told_in qs cause track i true = None
told_in qs cause track i false = if count (queue_of track qs) == 0 then None else Some (record { track = track; from = i.0; to = i.1; cause = cause })

abbrev pub told_if : Queues → Cause → Option ℕ → Option (Pos × Pos) → Option ℕ → Option Removal
told_if qs cause None span stays = None
told_if qs cause (Some track) None stays = None
told_if qs cause (Some track) (Some i) stays = told_in qs cause track i (is_track stays track)

-- two by rising track, none behind one
abbrev pub ordered : Option Removal → Option Removal → Option Removal × Option Removal
ordered None b = (b, None)
ordered (Some d) None = (Some d, None)
ordered (Some d) (Some e) = if nat_le d.track e.track then (Some d, Some e) else (Some e, Some d)
