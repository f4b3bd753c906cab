use Rattle.std.proofs.Common.{◌≡◌, take, false}
use Rattle.mc_queue.specs.Times.{is_wanted}
use Rattle.mc_queue.specs.Blocks.{extreme}
use Rattle.mc_queue.proofs.times.nearest_walked.Given as goal

abbrev pub invariant-loop-i : goal.invariant-loop-i
invariant-loop-i g l = l.best ≡ extreme l.dir (is_wanted l.dir false l.past) (take l.i l.block)
