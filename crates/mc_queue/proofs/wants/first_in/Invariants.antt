use Rattle.std.proofs.Common.{◌≡◌, ◌+◌, ◌≤◌, drop}
use Rattle.mc_queue.specs.Queue.{first_that}
use Rattle.mc_queue.specs.Wants.{wanted}
use Rattle.mc_queue.proofs.wants.first_in.Given as goal

abbrev pub invariant-loop-at : goal.invariant-loop-at
invariant-loop-at g l = record {
  none : first_that (wanted l.want) (drop l.from l.block) ≡ first_that (wanted l.want) (drop l.at l.block);
  cost : l.steps + l.from ≤ l.fn.steps + l.at;
}
