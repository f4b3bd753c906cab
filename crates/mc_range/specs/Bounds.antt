-- The bounds of a range, by what its queues hold: the rule over a film's list.
use Rattle.std.specs.Prelude.{ℕ, Bool, true, false, ◌&&◌, List, Option, Some, None, ℤ, is_some}
use Rattle.std.specs.List.{filter}
use Rattle.mc_packet.specs.declared.packet.Packet.{Packet}
use Rattle.mc_packet.specs.declared.choice.Choice.{Choice}
use Rattle.mc_packet.specs.declared.choice.Dir.TheVariants.{Back}
use Rattle.mc_packet.specs.Choices.{lead_of}
use Rattle.mc_journal.specs.Ranges.{bounds_by}
use Rattle.mc_queue.specs.Queue.{QueueState}
use Rattle.mc_queue.specs.Times.{is_wanted}
use Rattle.mc_range.specs.declared.queues.Queues.{Queues}
use Rattle.mc_range.specs.Range.{RangeState, queue_of}
use Rattle.mc_range.specs.Serving.{heads_in, packets_in, sync_points}

-- the queues serve a seek of their set back to a time
abbrev pub serves_time : Queues → Bool → Choice → ℤ → Bool
serves_time qs ended set t = is_some (heads_in qs ended set t Back)

-- of these packets the sync points to whose times they do
abbrev pub points_of : (ℤ → Bool) → List Packet → List Packet
points_of test ps = filter (λ p. test p.time) (sync_points ps)

abbrev pub bounds_in : (ℤ → Bool) → Bool → List Packet → Option (ℤ × ℤ)
bounds_in test ended ps = bounds_by (points_of test ps) (ps) ended

-- the lead's queue
abbrev pub lead_queue : Queues → Option ℕ → Option QueueState
lead_queue qs None = None
lead_queue qs (Some track) = queue_of track qs

-- what `bounds` answers
abbrev pub bounds_of : RangeState → Option (ℤ × ℤ)
bounds_of r = bounds_in (serves_time r.queues (is_some r.ending) r.set) (is_some r.ending) (packets_in (lead_queue r.queues (lead_of r.set)))

-- a sync point to whose time a test says yes
abbrev pub is_point : (ℤ → Bool) → Packet → Bool
is_point test p = p.sync && test p.time

-- the packets that tell where the bounds end: with the ending all, else these points
abbrev pub is_last : Bool → (ℤ → Bool) → Packet → Bool
is_last true test p = is_wanted Back true None p
is_last false test p = is_point test p
