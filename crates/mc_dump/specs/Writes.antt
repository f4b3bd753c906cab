-- What a sink holds after a write, and why a dump is refused.
use Rattle.std.specs.Prelude.{◌≡◌, ℕ, ◌≤◌, List, Option, Result, Ok, Err, IsErrOf, ⊤}
use Rattle.mc_packet.specs.declared.packet.Packet.{Packet}
use Rattle.mc_tracks.specs.declared.track.Track.{Track}
use Rattle.mc_outside.specs.Causes.{Rose}
use Rattle.mc_outside.specs.Sink.{Grows, GrowsByFront}
use Rattle.mc_outside.specs.declared.sink.SinkError.{SinkError}
use Rattle.mc_outside.specs.declared.sink.SinkError.TheVariants as sinks
use Rattle.mc_dump.specs.declared.error.DumpError.{DumpError}
use Rattle.mc_dump.specs.declared.error.DumpError.TheVariants.{Empty, TooLow, Sink, NoMemory}
use Rattle.mc_dump.specs.Dumped.{ReadsBack}

-- at Ok a text grew by these octets, else by a front of them
abbrev pub Wrote : {T E : Type 0} → Option (List ℕ) → Option (List ℕ) → List ℕ → Result T E → Type 0
Wrote old new text (Ok done) = Grows old new text
Wrote old new text (Err e) = GrowsByFront old new text

-- a text grew by octets that are read back so
abbrev pub GrowsBack : ℕ → List Track → List Packet → Option (List ℕ) → Option (List ℕ) → Type 0
GrowsBack g tracks ps old new = (octets : List ℕ) × Grows old new octets × ReadsBack g tracks ps octets

-- an error that is found before anything is written
abbrev pub IsEarly : DumpError → Type 0
IsEarly Empty = ⊤
IsEarly (TooLow pos) = ⊤
IsEarly Sink = ⊥
IsEarly NoMemory = ⊥

-- a sink's error as one of this crate
abbrev pub dump_error : SinkError → DumpError
dump_error sinks.Failed = Sink
dump_error sinks.NoMemory = NoMemory

-- Why the writing stopped.
pub record DumpCause (before now : ℕ) (result : Result (Unit {0}) DumpError) : Type 0 where
  pub later : before ≤ now
  pub failed : IsErrOf result Sink → Rose before now
