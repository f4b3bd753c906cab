-- What one line of a script leaves.
use Rattle.std.specs.Prelude.{◌≡◌, ℕ, ◌<◌, ◌≤◌, Bool, true, false, List, ◌++◌, length, Option, Result, Ok, Err, ⊤}
use Rattle.std.specs.List.{list_any, AllByRecursion}
use Rattle.mc_journal.specs.declared.record.DemuxRecord.{DemuxRecord}
use Rattle.mc_calls.specs.declared.answer.DemuxError.{DemuxError}
use Rattle.mc_calls.specs.declared.answer.DemuxError.TheVariants as errors
use Rattle.mc_calls.specs.declared.answer.Reading.{Reading}
use Rattle.mc_calls.specs.declared.answer.Reading.TheVariants as reads
use Rattle.mc_calls.specs.Records.{HasRoom}
use Rattle.mc_script.specs.declared.acts.Act.{Act}
use Rattle.mc_script.specs.Plays.{Begins, Leaves}
use Rattle.mc_journal.specs.Drives.{Readings, is_order, is_outcome}
use Rattle.mc_lines.specs.declared.halt.Halt.{Halt}
use Rattle.mc_lines.specs.declared.halt.Halt.TheVariants as halts
use Rattle.mc_lines.specs.Calls.{Ahead, AnswersOn, FailsIn, Jobs, Outcome, Reads, at}

-- a refusal ends a line and not the script
abbrev pub settled : {T : Type 0} → Result T DemuxError → Result Unit Halt
settled (Ok x) = Ok tt
settled (Err (errors.Refused why)) = Ok tt
settled (Err errors.JournalFull) = Err halts.JournalFull
settled (Err errors.NoMemory) = Err halts.NoMemory

abbrev pub halt_of : DemuxError → Halt
halt_of errors.JournalFull = halts.JournalFull
halt_of (errors.Refused why) = halts.NoMemory
halt_of errors.NoMemory = halts.NoMemory

abbrev pub halted : {T : Type 0} → Result T DemuxError → Result Unit Halt
halted (Ok x) = Ok tt
halted (Err e) = Err (halt_of e)

abbrev pub is_packet : Reading → Bool
is_packet (reads.Gave p) = true
is_packet _ = false

-- a full journal is the cause
abbrev pub IsFull : {T : Type 0} → List DemuxRecord → Result T Halt → Type 0
IsFull h (Ok x) = ⊤
IsFull h (Err halts.JournalFull) = 16000000 ≤ length h
IsFull h (Err halts.NoMemory) = ⊤

-- a line left all that it leaves, or stands in part where the journal is full or memory is wanting
abbrev pub Line : Readings → Act → Option (List DemuxRecord) → List DemuxRecord → List DemuxRecord → Result Unit Halt → Type 0
Line rd act out old new (Ok u) = Leaves rd act out old new
Line rd act out old new (Err halts.JournalFull) = Begins rd act old new × (16000000 ≤ length new)
Line rd act out old new (Err halts.NoMemory) = Begins rd act old new

-- nothing was written
abbrev pub Stands : List DemuxRecord → List DemuxRecord → Halt → Type 0
Stands old new halts.JournalFull = (new ≡ old) × (16000000 ≤ length old)
Stands old new halts.NoMemory = new ≡ old

-- one read was made, whatever it answered
abbrev pub ReadsOne : Ahead → ℕ → ℕ → List DemuxRecord → List DemuxRecord → Result Unit Halt → Type 0
ReadsOne w by k old new (Ok u) = (r : Reading) × Reads w by k old new (Ok r)
ReadsOne w by k old new (Err e) = Stands old new e

-- the same on a film
abbrev pub ReadsOn : Readings → ℕ → ℕ → List DemuxRecord → List DemuxRecord → Result Unit Halt → Type 0
ReadsOn rd by k old new (Ok u) = (r : Reading) × Reads (at rd old) by k old new (Ok r) × AnswersOn rd k old new (Ok r)
ReadsOn rd by k old new (Err e) = Stands old new e

-- one outcome was written, or there was nothing to do
abbrev pub Turns : Ahead → ℕ → ℕ → List DemuxRecord → List DemuxRecord → Result Bool Halt → Type 0
Turns w before after old new (Ok true) = HasRoom old × Outcome before after old new
Turns w before after old new (Ok false) = (new ≡ old) × (w.idle ≡ true)
Turns w before after old new (Err e) = Stands old new e

-- ---- what is so on every shelf, whatever it tells

-- the records that were written tell failures between these counts of faults
pub record Grows (least most : ℕ) (old new : List DemuxRecord) : Type 0 where
  pub part : List DemuxRecord
  pub grows : new ≡ old ++ part
  pub fails : AllByRecursion (FailsIn least most) part
  pub later : least ≤ most

-- no outcome was brought: the last job is still awaited exactly where no order stands among the records that were written
pub record Orders (old new : List DemuxRecord) (j j' : Jobs) : Type 0 where
  pub part : List DemuxRecord
  pub grows : new ≡ old ++ part
  pub quiet : list_any is_outcome part ≡ false
  pub same : list_any is_order part ≡ false → j' ≡ j
  pub newer : list_any is_order part ≡ true → j.number < j'.number
