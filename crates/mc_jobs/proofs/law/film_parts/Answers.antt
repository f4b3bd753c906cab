use Rattle.mc_walk.specs.Parts.IsMark.{at_end}
use Rattle.mc_jobs.proofs.Parting.{is-part}
use Rattle.mc_jobs.proofs.law.film_parts.Goals as goal

pub returns : goal.returns
returns c = record { part = is-part; mark = λ plan m is. at_end m is }
