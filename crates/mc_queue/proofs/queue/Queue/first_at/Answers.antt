use Rattle.mc_queue.proofs.Halving.{parted}
use Rattle.mc_queue.proofs.queue.Queue.first_at.Goals as goal

pub first_at-requires-clause-parted : goal.first_at-requires-clause-parted
first_at-requires-clause-parted c = parted _ _ _ _ _ c.self.invariant.2
