use Rattle.mc_queue.proofs.Halving.{parted}
use Rattle.mc_queue.proofs.queue.Queue.weight_from.Goals as goal

pub weight_behind-requires-clause-parted : goal.weight_behind-requires-clause-parted
weight_behind-requires-clause-parted c = parted _ _ _ _ _ c.self.invariant.2
