use Rattle.std.proofs.Common.{◌∙◌, ap}
use Rattle.mc_queue.specs.Queue.{place_or}
use Rattle.mc_queue.proofs.Cutting.{cut_seen}
use Rattle.mc_queue.proofs.queue.Queue.next_cut.Goals as goal

pub returns-clause-within : goal.returns-clause-within
returns-clause-within c = cut_seen _ _ _ c.self.view_is c.self.invariant.2 (c.place_or.ensures ∙ ap (λ p. place_or c.self.inside.to p) c.self.invariant.4)
