-- What asking for a job answers and leaves.
use Rattle.std.specs.Prelude.{◌≡◌, ◌≤◌, Result, Ok, Err}
use Rattle.mc_calls.specs.declared.answer.DemuxError.{DemuxError}
use Rattle.mc_calls.specs.declared.answer.DemuxError.TheVariants.{Refused, JournalFull, NoMemory}
use Rattle.mc_calls.specs.declared.job.Job.{Job}
use Rattle.mc_calls.specs.State.{DemuxState}
use Rattle.mc_calls.specs.Jobs.{job_of, kept_job}
use Rattle.mc_calls.specs.Keeping.{IsAsBefore}
use Rattle.mc_calls.specs.Records.{HasRoom, IsFull}

-- the job is kept, and there is room for its outcome
pub record IsAsked (job : Job) (old new : DemuxState) : Type 0 where
  pub changed : new ≡ record old { kept = kept_job job; spare = new.spare }
  pub roomier : old.spare ≤ new.spare

abbrev pub Asks : DemuxState → Result Job DemuxError → DemuxState → Type 0
Asks old (Ok job) new = HasRoom old.journal × (job ≡ job_of old) × IsAsked job old new
Asks old (Err (Refused why)) new = ⊥
Asks old (Err JournalFull) new = IsFull old.journal × (new ≡ old)
Asks old (Err NoMemory) new = HasRoom old.journal × IsAsBefore old new
