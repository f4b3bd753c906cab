use Rattle.std.proofs.Common.{◌≡◌, take, false}
use Rattle.mc_queue.specs.Times.{is_wanted}
use Rattle.mc_queue.specs.Blocks.{extreme, flat}
use Rattle.mc_queue.proofs.times.nearest.Given as goal

abbrev pub invariant-loop-at : goal.invariant-loop-at
invariant-loop-at g l = l.best ≡ extreme l.dir (is_wanted l.dir false l.past) (flat (take l.at l.blocks.blocks))
