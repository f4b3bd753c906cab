use Rattle.mc_calls.proofs.Jobbing.{job_is, kept_is, mark_is, mark_place}
use Rattle.mc_calls.proofs.shows.next_jobs.Goals as goal

pub returns : goal.returns
returns c = record { job = job_is; place = mark_place; told = λ film d s. s.tied.marks_are; mark = mark_is; kept = kept_is }
