use Rattle.mc_cache.proofs.FilmPruned.{pruned_cut, pruned_heads, pruned_holds, pruned_less, pruned_may, pruned_spares, pruned_stand}
use Rattle.mc_cache.proofs.law.pruned_films.Goals as goal

pub returns-clause-stand : goal.returns-clause-stand
returns-clause-stand c = pruned_stand

pub returns-clause-film : goal.returns-clause-film
returns-clause-film c = pruned_holds

pub returns-clause-cut : goal.returns-clause-cut
returns-clause-cut c = pruned_cut

pub returns-clause-may : goal.returns-clause-may
returns-clause-may c = pruned_may

pub returns-clause-heads : goal.returns-clause-heads
returns-clause-heads c = pruned_heads

pub returns-clause-spares : goal.returns-clause-spares
returns-clause-spares c = pruned_spares

pub returns-clause-less : goal.returns-clause-less
returns-clause-less c = pruned_less
