use Rattle.mc_queue.proofs.Differing.{compared_seen}
use Rattle.mc_queue.proofs.queue.Queue.difference.Goals as goal

pub returns : goal.returns
returns c = compared_seen _ _ _ _ c.self.view_is c.other.view_is c.self.invariant.2 c.other.invariant.2 c.requires.meet _ _ c.later.ensures c.earlier.ensures _ c.compare.ensures
