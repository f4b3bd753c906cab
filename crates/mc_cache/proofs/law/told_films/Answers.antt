use Rattle.mc_cache.proofs.FilmTold.{retracked_told}
use Rattle.mc_cache.proofs.law.told_films.Goals as goal

pub returns-clause-switch : goal.returns-clause-switch
returns-clause-switch c = retracked_told
