use Rattle.std.proofs.Common.{◌≡◌, ◌+◌, ◌≤◌, drop}
use Rattle.std.specs.Prelude.{None}
use Rattle.mc_queue.specs.Queue.{last_that}
use Rattle.mc_queue.specs.Wants.{wanted}
use Rattle.mc_queue.proofs.wants.last_in.Given as goal

abbrev pub invariant-loop-at : goal.invariant-loop-at
invariant-loop-at g l = record {
  within : l.at ≤ l.count;
  none : last_that (wanted l.want) (drop l.at l.block) ≡ None;
  cost : l.steps + l.at ≤ l.fn.steps + l.count;
}

abbrev pub decreases-loop-at : goal.decreases-loop-at
decreases-loop-at g l = l.at
