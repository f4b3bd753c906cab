use Rattle.mc_cache.proofs.Roomy.{room_heads}
use Rattle.mc_cache.proofs.law.roomy_films.Goals as goal

pub returns-clause-heads : goal.returns-clause-heads
returns-clause-heads c = room_heads
