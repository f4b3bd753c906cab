-- The events of a client, after the table of libmpv's `client.h`.
use Rattle.std.specs.Prelude.{ℕ, Bool, true, false}
use Rattle.mc_ring.specs.declared.event.Event.{Event}
use Rattle.mc_ring.specs.declared.event.Event.TheVariants.{None as Nothing, Shutdown, GetReply, SetReply, CommandReply, StartFile, EndFile, FileLoaded, Message, Seek, PlaybackRestart, Change, Overflow}

-- each event's number
abbrev pub event_number : Event → ℕ
event_number Nothing = 0
event_number Shutdown = 1
event_number (GetReply id error value) = 3
event_number (SetReply id error) = 4
event_number (CommandReply id error) = 5
event_number StartFile = 6
event_number (EndFile reason) = 7
event_number FileLoaded = 8
event_number (Message words) = 16
event_number Seek = 20
event_number PlaybackRestart = 21
event_number (Change id name format value) = 22
event_number Overflow = 24

-- whether the event stands in a ring; the others a poll makes by itself
abbrev pub enters_ring : Event → Bool
enters_ring Nothing = false
enters_ring Overflow = false
enters_ring (Change id name format value) = false
enters_ring e = true
