-- What a run of a script does.
use Rattle.std.specs.Prelude.{◌≡◌, ℕ, ◌<◌, ◌≤◌, true, false, List, ◌++◌, length, Option, Some, None, Result, Ok, Err, IfSome, ⊤}
use Rattle.std.specs.List.{list_any}
use Rattle.mc_journal.specs.declared.record.DemuxRecord.{DemuxRecord}
use Rattle.mc_calls.specs.declared.job.Job.{Job}
use Rattle.mc_script.specs.declared.acts.Act.{Act}
use Rattle.mc_script.specs.declared.acts.Act.TheVariants as acts
use Rattle.mc_script.specs.Plays.{Begins, Leaves, Played, PlayedInPart, taken_after}
use Rattle.mc_journal.specs.Drives.{Readings, is_order}
use Rattle.mc_lines.specs.declared.halt.Halt.{Halt}
use Rattle.mc_lines.specs.declared.halt.Halt.TheVariants as halts
use Rattle.mc_jobs.specs.Doing.{number_of}
use Rattle.mc_lines.specs.Calls.{Ahead, Jobs}
use Rattle.mc_lines.specs.Lines.{Stands}

-- ---- the job that is out

-- since it was taken it is awaited, until an order came
pub record IsAged (job : Job) (taken now : List DemuxRecord) (j : Jobs) : Type 0 where
  pub between : List DemuxRecord
  pub grows : now ≡ taken ++ between
  pub number : ℕ
  pub bears : number_of job ≡ Some number
  pub awaited : list_any is_order between ≡ false → (number ≡ j.number) × (j.kept ≡ Some job)
  pub stale : list_any is_order between ≡ true → number < j.number

-- whatever film there is
abbrev pub IsAwaited : Option Job → List DemuxRecord → Jobs → Type 0
IsAwaited job now j = IfSome job (λ x. (taken : List DemuxRecord) × IsAged x taken now j)

pub record IsBehind (taken now : List DemuxRecord) : Type 0 where
  pub between : List DemuxRecord
  pub grows : now ≡ taken ++ between

-- the job that is out, by the journal at its take and the journal now
abbrev pub IsOut : Readings → Option Job → Option (List DemuxRecord) → List DemuxRecord → Jobs → Type 0
IsOut rd None None now j = ⊤
IsOut rd (Some job) None now j = ⊥
IsOut rd None (Some taken) now j = (rd.idle taken ≡ true) × IsBehind taken now
IsOut rd (Some job) (Some taken) now j = (rd.idle taken ≡ false) × IsAged job taken now j

-- a job was taken, or there was nothing to do
abbrev pub Took : Ahead → List DemuxRecord → List DemuxRecord → Jobs → Result (Option Job) Halt → Type 0
Took w old new j' (Ok None) = (new ≡ old) × (w.idle ≡ true)
Took w old new j' (Ok (Some job)) = (new ≡ old) × (w.idle ≡ false) × (number_of job ≡ Some j'.number) × (j'.kept ≡ Some job)
Took w old new j' (Err e) = Stands old new e

-- ---- a line, and all lines

-- a line went to its end, or stands in part
abbrev pub Goes : Readings → Act → Option (List DemuxRecord) → List DemuxRecord → List DemuxRecord → Option Job → Jobs → Result Unit Halt → Type 0
Goes rd act taken old new out j' (Ok u) = Leaves rd act taken old new × IsOut rd out (taken_after act taken old) new j'
Goes rd act taken old new out j' (Err halts.JournalFull) = Begins rd act old new × (16000000 ≤ length new)
Goes rd act taken old new out j' (Err halts.NoMemory) = Begins rd act old new

-- all lines were played, or some of them, of which the last stands in part
abbrev pub Runs : Readings → List (ℕ × Act) → List DemuxRecord → List DemuxRecord → Result Unit Halt → Type 0
Runs rd lines old new (Ok u) = Played rd lines None old new
Runs rd lines old new (Err halts.JournalFull) = PlayedInPart rd lines None old new × (16000000 ≤ length new)
Runs rd lines old new (Err halts.NoMemory) = PlayedInPart rd lines None old new

-- ---- takes and gives by the script's lines alone

-- a line that takes jobs needs that none is out
abbrev pub IsFree : Act → Option Job → Type 0
IsFree acts.DemuxTake job = job ≡ None
IsFree (acts.Demux count) job = job ≡ None
IsFree acts.Drain job = job ≡ None
IsFree _ job = ⊤

-- what a line does to the job that is out
abbrev pub Keeps : Act → Option Job → Option Job → Type 0
Keeps acts.DemuxTake old new = ⊤
Keeps acts.DemuxGive old new = new ≡ None
Keeps _ old new = new ≡ old
