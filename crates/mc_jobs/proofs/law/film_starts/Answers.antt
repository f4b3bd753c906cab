use Rattle.mc_jobs.proofs.Marking.{starts-mark}
use Rattle.mc_jobs.proofs.Starts.{of-seek, of-switch}
use Rattle.mc_jobs.proofs.law.film_starts.Goals as goal

pub returns : goal.returns
returns c = record { seek = of-seek; switch = of-switch; mark = starts-mark }
