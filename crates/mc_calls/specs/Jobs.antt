-- The job that is to be done next.
use Rattle.std.specs.Prelude.{ℕ, nat_le, Bool, ◌||◌, not, if◌then◌else◌, Option, Some, None, is_some}
use Rattle.mc_packet.specs.declared.walk.Mark.{Mark}
use Rattle.mc_packet.specs.Choices.{is_empty, lead_of}
use Rattle.mc_journal.specs.Choices.{meets}
use Rattle.mc_journal.specs.Views.{wants_more}
use Rattle.mc_cache.specs.Cache.{ending_in, mark_in}
use Rattle.mc_calls.specs.declared.job.Job.{Job}
use Rattle.mc_calls.specs.declared.job.Job.TheVariants.{SeekTo, Refresh, Resume, Read, Idle}
use Rattle.mc_calls.specs.declared.waiting.Target.{Target}
use Rattle.mc_calls.specs.State.{DemuxState, ahead_in, forward_of}

-- ---- whether a track wants to be read on

-- it has nothing there, or less than is read ahead
abbrev pub wants : DemuxState → ℕ → Bool
wants d track = wants_more d.cache.limits.readahead ((ahead_in d.set d.heads track d.cache.current))

-- video and audio are asked, a subtitle where it is alone
abbrev pub some_wants : DemuxState → Bool
some_wants d = if is_some (lead_of d.set) then meets d.set.video (wants d) || meets d.set.audio (wants d) else meets d.set.sub (wants d)

-- the current range has its ending, or enough is read ahead
abbrev pub is_full : DemuxState → Bool
is_full d = is_some (ending_in d.cache.current) || (nat_le d.cache.limits.forward (forward_of d) || not (some_wants d))

-- ---- the job

abbrev pub read_at : ℕ → Bool → Option Mark → Job
read_at n fed None = Idle
read_at n fed (Some mark) = if fed then Read n else Resume n mark

abbrev pub read_job : DemuxState → Job
read_job d = if is_full d then Idle else read_at d.number d.fed (mark_in d.cache.current)

abbrev pub start_job : DemuxState → Option Target → Job
start_job d (Some s) = SeekTo d.number d.set s.t s.dir
start_job d None = if is_empty d.waiting then read_job d else Refresh d.number d.waiting d.switch.lead d.switch.at

abbrev pub job_of : DemuxState → Job
job_of d = if is_empty d.set || is_some d.failure then Idle else start_job d d.seeking

-- a job that is kept: all but `Idle`
abbrev pub kept_job : Job → Option Job
kept_job Idle = None
kept_job job = Some job
