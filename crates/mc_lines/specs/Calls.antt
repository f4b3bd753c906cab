-- What each call of a demuxer answers and adds to its journal, as far as a script's lines rest on it.
use Rattle.std.specs.Prelude.{◌≡◌, ℕ, ◌<◌, ◌≤◌, Bool, true, false, List, [], ◌∷◌, ◌++◌, length, Option, Some, None, ℤ, Result, Ok, Err, ⊤, if◌then◌else◌}
use Rattle.std.specs.Option.{option_map}
use Rattle.std.specs.List.{list_any}
use Rattle.mc_packet.specs.declared.choice.Choice.{Choice}
use Rattle.mc_packet.specs.declared.choice.Dir.{Dir}
use Rattle.mc_packet.specs.declared.choice.Why.{Why}
use Rattle.mc_packet.specs.declared.choice.Why.TheVariants.{NoTrack}
use Rattle.mc_packet.specs.declared.cache.CacheView.{CacheView}
use Rattle.mc_packet.specs.declared.cache.Limits.{Limits}
use Rattle.mc_journal.specs.declared.record.Sought.{Sought as How}
use Rattle.mc_journal.specs.declared.record.Sought.TheVariants.{Sent}
use Rattle.mc_journal.specs.declared.record.DemuxRecord.{DemuxRecord}
use Rattle.mc_journal.specs.declared.record.DemuxRecord.TheVariants.{Sought, Switched, Failed, Ended, Overfull, Faulted, Wanting, Shown, Refused}
use Rattle.mc_packet.specs.Choices.{is_empty}
use Rattle.mc_journal.specs.Films.{rank}
use Rattle.mc_journal.specs.Readings.{direction, pending, target}
use Rattle.mc_journal.specs.Told.{gave_by}
use Rattle.mc_calls.specs.declared.answer.DemuxError.{DemuxError}
use Rattle.mc_calls.specs.declared.answer.DemuxError.TheVariants as errors
use Rattle.mc_calls.specs.declared.answer.Selected.{Selected}
use Rattle.mc_calls.specs.declared.answer.Selected.TheVariants.{Same, Changed}
use Rattle.mc_calls.specs.declared.answer.Taken.{Taken}
use Rattle.mc_calls.specs.declared.answer.Taken.TheVariants as takens
use Rattle.mc_calls.specs.declared.answer.Reading.{Reading}
use Rattle.mc_calls.specs.declared.answer.Reading.TheVariants as reads
use Rattle.mc_calls.specs.declared.answer.Peek.{Peek}
use Rattle.mc_calls.specs.declared.answer.Peek.TheVariants as peeks
use Rattle.mc_calls.specs.declared.job.Job.{Job}
use Rattle.mc_calls.specs.declared.job.Job.TheVariants.{Idle}
use Rattle.mc_calls.specs.Outcomes.{HasRisen}
use Rattle.mc_calls.specs.Records.{HasRoom, WroteAll}
use Rattle.mc_journal.specs.Drives.{Readings, OfEach, is_order, is_outcome, newest, selection, untold}
use Rattle.mc_journal.specs.Callers.{by_of, demuxer}
use Rattle.mc_jobs.specs.Doing.{number_of}

-- ---- what the next calls would answer

pub record Ahead : Type 0 where
  -- the selected tracks
  pub set : Choice
  -- the place of the packet at a track's head
  pub front : ℕ → Option ℕ
  -- a read of the track would tell its end or a failure
  pub tells : ℕ → Bool
  -- there is nothing to do
  pub idle : Bool
  -- the time that a look shows, or 0
  pub time : ℤ
  -- the choice that numbers make, or its refusal
  pub choice : List ℕ → Result Choice Why
  -- the target and the direction of a seek that was sent and whose starts are not found yet
  pub pending : Option (ℤ × Dir)

-- the same, as a journal says
abbrev pub pending_of : List DemuxRecord → Option (ℤ × Dir)
pending_of h = if pending (newest h) then option_map (λ t. (t, direction (newest h))) (target (newest h)) else None

-- as a film's readings say of a journal
abbrev pub at : Readings → List DemuxRecord → Ahead
at rd h = record { set = selection h; front = rd.front h; tells = rd.tells h; idle = rd.idle h; time = rd.time h; choice = rd.choice; pending = pending_of h }

-- ---- what stays

-- the number of the film's file on a shelf, and how much is cached
pub record Fixed : Type 0 where
  pub file : ℕ
  pub limits : Limits

-- ---- jobs

-- the number that the next job bears, and the last job, where its outcome is still awaited
pub record Jobs : Type 0 where
  pub number : ℕ
  pub kept : Option Job

-- a job that bears the number is the one whose outcome is awaited
abbrev pub Bears : Job → Jobs → Type 0
Bears job j = number_of job ≡ Some j.number → j.kept ≡ Some job

-- ---- the calls

-- the journal is full, or memory is wanting: nothing was written
abbrev pub Fails : List DemuxRecord → List DemuxRecord → Jobs → Jobs → DemuxError → Type 0
Fails old new j j' (errors.Refused why) = ⊥
Fails old new j j' errors.JournalFull = (new ≡ old) × (j' ≡ j) × (16000000 ≤ length old)
Fails old new j j' errors.NoMemory = (new ≡ old) × (j' ≡ j)

abbrev pub Seeks : Ahead → ℕ → ℤ → Dir → List DemuxRecord → List DemuxRecord → Jobs → Jobs → Result How DemuxError → Type 0
Seeks w by t dir old new j j' (Ok how) = (is_empty w.set ≡ false) × WroteAll by (Sought by w.set t dir how ∷ []) old new × (j.number < j'.number)
Seeks w by t dir old new j j' (Err (errors.Refused why)) = (is_empty w.set ≡ true) × (why ≡ NoTrack) × WroteAll by (Refused by why ∷ []) old new × (j' ≡ j)
Seeks w by t dir old new j j' (Err errors.JournalFull) = Fails old new j j' errors.JournalFull
Seeks w by t dir old new j j' (Err errors.NoMemory) = Fails old new j j' errors.NoMemory

-- the records of a selection: a seek that was pending is sent again behind it
abbrev pub switch_records : ℕ → Choice → Choice → ℤ → Option (ℤ × Dir) → List DemuxRecord
switch_records by set added at None = Switched by set added at ∷ []
switch_records by set added at (Some s) = Switched by set added at ∷ Sought by set s.0 s.1 Sent ∷ []

pub record Switches (w : Ahead) (by : ℕ) (numbers : List ℕ) (at : ℤ) (old new : List DemuxRecord) : Type 0 where
  pub set : Choice
  pub added : Choice
  pub chosen : w.choice numbers ≡ Ok set
  pub wrote : WroteAll by (switch_records by set added at w.pending) old new

abbrev pub Selects : Ahead → ℕ → List ℕ → ℤ → List DemuxRecord → List DemuxRecord → Jobs → Jobs → Result Selected DemuxError → Type 0
Selects w by numbers at old new j j' (Ok Same) = (w.choice numbers ≡ Ok w.set) × (new ≡ old) × (j' ≡ j)
Selects w by numbers at old new j j' (Ok Changed) = Switches w by numbers at old new × (j.number < j'.number)
Selects w by numbers at old new j j' (Err (errors.Refused why)) = (w.choice numbers ≡ Err why) × WroteAll by (Refused by why ∷ []) old new × (j' ≡ j)
Selects w by numbers at old new j j' (Err errors.JournalFull) = Fails old new j j' errors.JournalFull
Selects w by numbers at old new j j' (Err errors.NoMemory) = Fails old new j j' errors.NoMemory

abbrev pub Shows : ℕ → List DemuxRecord → List DemuxRecord → Jobs → Jobs → Result CacheView DemuxError → Type 0
Shows by old new j j' (Ok view) = WroteAll by (Shown by view ∷ []) old new × (j' ≡ j)
Shows by old new j j' (Err e) = Fails old new j j' e

abbrev pub Takes : Ahead → List DemuxRecord → List DemuxRecord → Jobs → Jobs → Result Job DemuxError → Type 0
Takes w old new j j' (Ok Idle) = (new ≡ old) × (j'.number ≡ j.number) × (w.idle ≡ true)
Takes w old new j j' (Ok job) = HasRoom old × (new ≡ old) × (j'.number ≡ j.number) × (w.idle ≡ false) × (number_of job ≡ Some j.number) × (j'.kept ≡ Some job)
Takes w old new j j' (Err e) = Fails old new j j' e

-- a failure tells counts of faults between which the shelf's count rose, and which lie in these bounds
abbrev pub FailsIn : ℕ → ℕ → DemuxRecord → Type 0
FailsIn least most (Failed by before after) = HasRisen before after × (least ≤ before) × (after ≤ most)
FailsIn least most _ = ⊤

-- the outcome of a job that was done while the count of faults went from one to the other
pub record Outcome (before after : ℕ) (old new : List DemuxRecord) : Type 0 where
  pub own : DemuxRecord
  pub is : is_outcome own ≡ true
  pub by_demuxer : by_of own ≡ demuxer
  pub fails : FailsIn before after own
  pub wrote : WroteAll demuxer (own ∷ []) old new

-- a job was done and its outcome brought
abbrev pub Brings : Job → ℕ → ℕ → List DemuxRecord → List DemuxRecord → Jobs → Jobs → Result Taken DemuxError → Type 0
Brings job before after old new j j' (Ok takens.Taken) = (number_of job ≡ Some j.number) × Outcome before after old new × (j.number < j'.number)
Brings job before after old new j j' (Ok (takens.Stale asked now)) = (number_of job ≡ Some j.number → ⊥) × (new ≡ old) × (j' ≡ j)
Brings job before after old new j j' (Err e) = Fails old new j j' e

-- a record was written and no job changed
abbrev pub Tells : ℕ → DemuxRecord → List DemuxRecord → List DemuxRecord → Type 0
Tells by own old new = HasRoom old × WroteAll by (own ∷ []) old new

abbrev pub Reads : Ahead → ℕ → ℕ → List DemuxRecord → List DemuxRecord → Result Reading DemuxError → Type 0
Reads w by k old new (Ok (reads.Gave p)) = (w.front k ≡ Some (rank p.pos)) × Tells by (gave_by by p) old new
Reads w by k old new (Ok reads.NotYet) = (w.front k ≡ None) × (w.tells k ≡ false) × (new ≡ old)
Reads w by k old new (Ok (reads.End ending)) = (w.front k ≡ None) × (w.tells k ≡ true) × Tells by (Ended by k ending) old new
Reads w by k old new (Ok (reads.Overfull forward max)) = (w.front k ≡ None) × (w.tells k ≡ false) × Tells by (Overfull by k forward max) old new
Reads w by k old new (Ok (reads.Fault before after)) = (w.front k ≡ None) × (w.tells k ≡ true) × Tells by (Faulted by k before after) old new
Reads w by k old new (Ok reads.Wanting) = (w.front k ≡ None) × (w.tells k ≡ true) × Tells by (Wanting by k) old new
Reads w by k old new (Ok reads.Unselected) = (w.front k ≡ None) × (w.tells k ≡ false) × (new ≡ old)
Reads w by k old new (Err (errors.Refused why)) = ⊥
Reads w by k old new (Err errors.JournalFull) = (new ≡ old) × (16000000 ≤ length old)
Reads w by k old new (Err errors.NoMemory) = new ≡ old

-- on a film a packet is of the track that was asked, and an answer that gives none, since none stands at the head, leaves it so
abbrev pub AnswersOn : Readings → ℕ → List DemuxRecord → List DemuxRecord → Result Reading DemuxError → Type 0
AnswersOn rd k old new (Ok (reads.Gave p)) = p.track ≡ k
AnswersOn rd k old new (Ok _) = rd.front old k ≡ None → rd.front new k ≡ None
AnswersOn rd k old new (Err e) = ⊤

abbrev pub Peeks : Ahead → ℕ → Peek → Type 0
Peeks w k (peeks.Packet pos) = w.front k ≡ Some (rank pos)
Peeks w k peeks.Finish = (w.front k ≡ None) × (w.tells k ≡ true)
Peeks w k peeks.Wait = (w.front k ≡ None) × (w.tells k ≡ false)

-- ---- at rest

-- Nothing is to be done. Where for some time nothing was sought or switched, and no packet stands at the head of a track that
-- wasn't told its end since, a read of each of these tells it.
pub record AtRest (rd : Readings) (h : List DemuxRecord) : Type 0 where
  pub idle : rd.idle h ≡ true
  pub told : (before part : List DemuxRecord) → h ≡ before ++ part → list_any is_order part ≡ false
      → OfEach (untold (selection before) part) (λ k. rd.front h k ≡ None) → OfEach (untold (selection before) part) (λ k. rd.tells h k ≡ true)
