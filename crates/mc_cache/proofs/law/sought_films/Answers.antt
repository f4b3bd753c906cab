use Rattle.mc_cache.proofs.Sought.{heads_placed, seek_heads, seek_served}
use Rattle.mc_cache.proofs.law.sought_films.Goals as goal

pub returns-clause-served : goal.returns-clause-served
returns-clause-served c = seek_served

pub returns-clause-heads : goal.returns-clause-heads
returns-clause-heads c = seek_heads

pub returns-clause-placed : goal.returns-clause-placed
returns-clause-placed c = heads_placed
