use Rattle.mc_range.specs.Bounds.{serves_time}
use Rattle.mc_range.proofs.Bounded.{NoneYet, left}
use Rattle.mc_range.proofs.bounding.first_served.Given as goal

abbrev pub invariant-loop-t : goal.invariant-loop-t
invariant-loop-t l = NoneYet l.dir (serves_time l.queues l.ended l.set) l.past l.queue.packets

abbrev pub decreases-loop-t : goal.decreases-loop-t
decreases-loop-t l = left l.dir l.past l.queue.packets
