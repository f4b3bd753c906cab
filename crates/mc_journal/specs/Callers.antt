-- Who makes a demuxer's records, by number.
use Rattle.std.specs.Prelude.{◌≡◌, ℕ, List, ◌++◌}
use Rattle.std.specs.List.{AllByRecursion}
use Rattle.mc_packet.specs.declared.choice.Kind.{Kind}
use Rattle.mc_packet.specs.declared.choice.Kind.TheVariants.{Video, Audio, Sub}
use Rattle.mc_journal.specs.declared.record.DemuxRecord.{DemuxRecord}
use Rattle.mc_journal.specs.declared.record.DemuxRecord.TheVariants.{Opened, Sought, Switched, Found, Fed, Failed, Starved, Dropped, Joined, Gave, Ended, Overfull, Faulted, Wanting, Shown, Refused}

-- the driver, the player's core and the demuxer itself
abbrev pub driver : ℕ
driver = 0

abbrev pub core : ℕ
core = 1

abbrev pub demuxer : ℕ
demuxer = 5

-- the number of a kind's reader
abbrev pub reader : Kind → ℕ
reader Video = 2
reader Audio = 3
reader Sub = 4

-- the number of the caller at whose call the record was made
abbrev pub by_of : DemuxRecord → ℕ
by_of (Opened by set) = by
by_of (Sought by set t dir how) = by
by_of (Switched by set added at) = by
by_of (Found by starts) = by
by_of (Fed by from to took ending) = by
by_of (Failed by before after) = by
by_of (Starved by) = by
by_of (Dropped by removal) = by
by_of (Joined by) = by
by_of (Gave by track pos time len sum sync key) = by
by_of (Ended by track ending) = by
by_of (Overfull by track forward max) = by
by_of (Faulted by track before after) = by
by_of (Wanting by track) = by
by_of (Shown by view) = by
by_of (Refused by why) = by

-- a journal grew by records of one caller
pub record Grew (by : ℕ) (old new : List DemuxRecord) : Type 0 where
  pub more : List DemuxRecord
  pub grows : new ≡ old ++ more
  pub are : AllByRecursion (λ r. by_of r ≡ by) more
