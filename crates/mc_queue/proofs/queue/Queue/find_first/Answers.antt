use Rattle.mc_queue.proofs.Halving.{parted}
use Rattle.mc_queue.proofs.queue.Queue.find_first.Goals as goal

pub find_first-requires : goal.find_first-requires
find_first-requires g c = record { parted = parted _ _ _ _ _ c.self.invariant.2 }
