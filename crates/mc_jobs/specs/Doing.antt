-- Jobs, as they are done.
use Rattle.std.specs.Prelude.{ℕ, Option, Some, None, Result, ⊤}
use Rattle.mc_calls.specs.declared.answer.DemuxError.{DemuxError}
use Rattle.mc_calls.specs.declared.answer.Taken.{Taken}
use Rattle.mc_calls.specs.declared.job.Job.{Job}
use Rattle.mc_calls.specs.declared.job.Job.TheVariants.{SeekTo, Refresh, Resume, Read, Idle}
use Rattle.mc_calls.specs.State.{DemuxState}
use Rattle.mc_jobs.specs.declared.brought.Brought.{Brought}
use Rattle.mc_jobs.specs.Working.{CountsFit, Takes}

-- the number that a job bears
abbrev pub number_of : Job → Option ℕ
number_of (SeekTo n set t dir) = Some n
number_of (Refresh n added lead at) = Some n
number_of (Resume n mark) = Some n
number_of (Read n) = Some n
number_of Idle = None

-- a job that reads a part of the film
abbrev pub IsPartJob : Job → Type 0
IsPartJob (Resume n mark) = ⊤
IsPartJob (Read n) = ⊤
IsPartJob _ = ⊥

-- a job of this number was done, while the shelf's count of faults went from one to the other, and what it came to was brought
abbrev pub Does : ℕ → ℕ → ℕ → DemuxState → Result Taken DemuxError → DemuxState → Type 0
Does before now n old result new = (brought : Brought) × CountsFit before now brought × Takes n brought old result new
