use Rattle.std.proofs.Common.{◌≤◌, subst}
use Rattle.mc_journal.specs.Films.{rank}
use Rattle.mc_queue.specs.Queue.{QueueState}
use Rattle.mc_queue.proofs.Rising.{rise_bounds}
use Rattle.mc_queue.proofs.Filmed.{unites_film}
use Rattle.mc_queue.proofs.queue.Queue.union.Goals as goal

pub returns-clause-film : goal.returns-clause-film
returns-clause-film c =
    let l = subst (λ (q : QueueState). rank q.from ≤ rank q.to) c.self.view_is (rise_bounds _ _ _ _ c.self.invariant.2) in
    unites_film _ _ _ _ _ c.requires.meet l c.unite.ensures.value
