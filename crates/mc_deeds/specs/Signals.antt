-- Events that take no memory, and what becomes of an event that is pushed.
use Rattle.std.specs.Prelude.{Bool, true, false, Option, Some, None}
use Rattle.mc_ring.specs.declared.event.Event.{Event}
use Rattle.mc_ring.specs.declared.event.Event.TheVariants as event
use Rattle.mc_client.specs.declared.refusal.Pushed.{Pushed}
use Rattle.mc_client.specs.declared.refusal.Pushed.TheVariants.{Kept, Dropped, Off}
use Rattle.mc_deeds.specs.declared.signals.Signal.{Signal}
use Rattle.mc_deeds.specs.declared.signals.Signal.TheVariants as signal

-- whether a pushed event was kept; nothing where it is switched off
abbrev pub fate : Pushed → Option Bool
fate Kept = Some true
fate (Dropped e) = Some false
fate (Off e) = None

-- the event of a signal; a file's end comes as the player ends, whose reason is 3
abbrev pub event_of : Signal → Event
event_of signal.StartFile = event.StartFile
event_of signal.FileLoaded = event.FileLoaded
event_of signal.Seek = event.Seek
event_of signal.Restart = event.PlaybackRestart
event_of signal.EndFile = event.EndFile 3
event_of signal.Shutdown = event.Shutdown
