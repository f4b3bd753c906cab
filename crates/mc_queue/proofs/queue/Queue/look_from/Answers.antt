use Rattle.mc_queue.proofs.Halving.{parted}
use Rattle.mc_queue.proofs.queue.Queue.look_from.Goals as goal

pub weight_moved-self-inside-requires-clause-parted : goal.weight_moved-self-inside-requires-clause-parted
weight_moved-self-inside-requires-clause-parted c = parted _ _ _ _ _ c.self.invariant.2

pub weight_moved-self-inside-requires-clause-head_parted : goal.weight_moved-self-inside-requires-clause-head_parted
weight_moved-self-inside-requires-clause-head_parted c = parted _ _ _ _ _ c.self.invariant.2
