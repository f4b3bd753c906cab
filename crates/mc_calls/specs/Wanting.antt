-- Whether enough is read ahead of a reader.
use Rattle.std.specs.Prelude.{ℕ, Bool, List, [], Option, Some, None, ℤ, ◌-ℤ◌, int_lt}
use Rattle.mc_packet.specs.declared.packet.Packet.{Packet}
use Rattle.mc_packet.specs.declared.packet.Pos.{Pos}
use Rattle.mc_range.specs.Range.{RangeState, queue_of}
use Rattle.mc_calls.specs.State.{ahead}

-- less than so many nanoseconds behind a time
abbrev pub is_near : ℤ → ℤ → ℤ → Bool
is_near from near time = int_lt (time -ℤ from) near

-- what the current range holds of a track at a place or behind it
abbrev pub held_from : ℕ → Pos → Option RangeState → List Packet
held_from track place None = []
held_from track place (Some r) = ahead (queue_of track r.queues) (Some place)
