use Rattle.mc_queue.proofs.Rising.{rise_bounds}
use Rattle.mc_queue.proofs.queue.Queue.added.Goals as goal

pub count_outside-requires : goal.count_outside-requires
count_outside-requires c = record { order = rise_bounds _ _ _ _ c.self.invariant.2 }
