use Rattle.mc_cache.proofs.Added.{starts_holds}
use Rattle.mc_cache.proofs.law.added_films.Goals as goal

pub returns-clause-all_film : goal.returns-clause-all_film
returns-clause-all_film c = starts_holds
