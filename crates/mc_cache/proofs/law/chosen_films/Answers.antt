use Rattle.mc_cache.proofs.Standing.{chosen_holds}
use Rattle.mc_cache.proofs.law.chosen_films.Goals as goal

pub returns-clause-film : goal.returns-clause-film
returns-clause-film c = λ ps set t dir old new h k. chosen_holds ps set t dir old new h k
