use Rattle.mc_cache.proofs.Standing.{started_stand, started_holds}
use Rattle.mc_cache.proofs.law.started_films.Goals as goal

pub returns-clause-stand : goal.returns-clause-stand
returns-clause-stand c = λ set starts drops old new d n s. started_stand set starts drops old new d n s

pub returns-clause-film : goal.returns-clause-film
returns-clause-film c = λ ps set starts drops old new n h s. started_holds ps set starts drops old new n h s
