use Rattle.mc_cache.proofs.Standing.{switched_stand, switched_holds}
use Rattle.mc_cache.proofs.law.switched_films.Goals as goal

pub returns-clause-stand : goal.returns-clause-stand
returns-clause-stand c = λ ps set next drops old new i h k r. switched_stand ps set next drops old new i h k r

pub returns-clause-film : goal.returns-clause-film
returns-clause-film c = λ ps set next drops old new i h k r. switched_holds ps set next drops old new i h k r
