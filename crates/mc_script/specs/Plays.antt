-- What each line of a script leaves in a demuxer's journal, and what all of them leave. Journals have their oldest record first.
use Rattle.std.specs.Prelude.{◌≡◌, ℕ, ◌<◌, true, false, ◌⊎◌, if◌then◌else◌, List, [], ◌∷◌, ◌++◌, length, Option, Some, None, Ok, IfSome, ⊤}
use Rattle.mc_packet.specs.Choices.{nothing, track_of}
use Rattle.mc_journal.specs.declared.record.DemuxRecord.{DemuxRecord}
use Rattle.mc_journal.specs.declared.record.DemuxRecord.TheVariants.{Dropped, Joined}
use Rattle.mc_journal.specs.Callers.{driver}
use Rattle.mc_journal.specs.Drives.{Readings, newest, selection, outcomes, gaves, untold, gives_none, Each, EndsUnder, SeekLeaves, SwitchLeaves, ShowLeaves, TurnsLeave, ReadLeaves, DrainLeaves}
use Rattle.mc_journal.specs.Readings.{follows}
use Rattle.mc_script.specs.declared.acts.Act.{Act}
use Rattle.mc_script.specs.declared.acts.Act.TheVariants as acts

-- ---- each line

-- a line's own record, by the journal before the line and what the line left so far
abbrev pub Own : Readings → Act → List DemuxRecord → List DemuxRecord → DemuxRecord → Type 0
Own rd (acts.Seek t dir) before a r = SeekLeaves driver t dir before a r
Own rd (acts.Switch numbers time) before a r = SwitchLeaves driver rd numbers time before a r
Own rd acts.Show before a r = ShowLeaves driver a r
Own rd (acts.Demux count) before a r = TurnsLeave count a r
Own rd acts.DemuxTake before a r = ⊥
Own rd acts.DemuxGive before a r = TurnsLeave 1 a r
Own rd (acts.Read kind count) before a r = ReadLeaves rd kind count before a r
Own rd acts.Drain before a r = DrainLeaves rd (before ++ a) (untold (selection before) a) r

-- an own record, or a drop or a join of the call that the record before it is of
abbrev pub May : Readings → Act → List DemuxRecord → List DemuxRecord → DemuxRecord → Type 0
May rd act before a (Dropped by removal) = EndsUnder by a
May rd act before a (Joined by) = EndsUnder by a
May rd act before a r = Own rd act before a r

-- where a line may end, by the journal at the take of the job that is out, the journal before the line, and what the line left
abbrev pub Ends : Readings → Act → Option (List DemuxRecord) → List DemuxRecord → List DemuxRecord → Type 0
Ends rd (acts.Seek t dir) out before part = 0 < length part
Ends rd (acts.Switch numbers time) out before part = ((0 < length part) × (follows (newest (before ++ part)) ≡ false)) ⊎ ((part ≡ []) × (rd.choice numbers ≡ Ok (selection before)))
Ends rd acts.Show out before part = 0 < length part
Ends rd (acts.Demux count) out before part = (outcomes part ≡ count) ⊎ (rd.idle (before ++ part) ≡ true)
Ends rd acts.DemuxTake out before part = ⊤
Ends rd acts.DemuxGive out before part = outcomes part ≡ (if gives_none rd before out then 0 else 1)
Ends rd (acts.Read kind count) out before part = (gaves part ≡ count) ⊎ IfSome (track_of (selection before) kind) (λ k. rd.front (before ++ part) k ≡ None)
Ends rd acts.Drain out before part = untold (selection before) part ≡ nothing

-- what a line left so far
pub record Begins (rd : Readings) (act : Act) (old new : List DemuxRecord) : Type 0 where
  pub part : List DemuxRecord
  pub grows : new ≡ old ++ part
  pub each : Each (May rd act old) [] part

-- what a line leaves
pub record Leaves (rd : Readings) (act : Act) (out : Option (List DemuxRecord)) (old new : List DemuxRecord) : Type 0 where
  pub part : List DemuxRecord
  pub grows : new ≡ old ++ part
  pub each : Each (May rd act old) [] part
  pub ends : Ends rd act out old part

-- the journal at the take of the job that is out behind a line
abbrev pub taken_after : Act → Option (List DemuxRecord) → List DemuxRecord → Option (List DemuxRecord)
taken_after acts.DemuxTake out old = Some old
taken_after acts.DemuxGive out old = None
taken_after _ out old = out

-- ---- all lines

-- the lines were played, one after the other
abbrev pub Played : Readings → List (ℕ × Act) → Option (List DemuxRecord) → List DemuxRecord → List DemuxRecord → Type 0
Played rd [] out old new = new ≡ old
Played rd (line ∷ lines) out old new = (mid : List DemuxRecord) × Leaves rd line.1 out old mid × Played rd lines (taken_after line.1 out old) mid new

-- some of them were, and the next one stands in part
abbrev pub PlayedInPart : Readings → List (ℕ × Act) → Option (List DemuxRecord) → List DemuxRecord → List DemuxRecord → Type 0
PlayedInPart rd [] out old new = ⊥
PlayedInPart rd (line ∷ lines) out old new = Begins rd line.1 old new ⊎ ((mid : List DemuxRecord) × Leaves rd line.1 out old mid × PlayedInPart rd lines (taken_after line.1 out old) mid new)
