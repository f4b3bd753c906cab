use Rattle.std.proofs.Common.{◌≡◌, ◌+◌, ◌≤◌, length, drop}
use Rattle.std.specs.Prelude.{None}
use Rattle.mc_queue.specs.Queue.{last_that}
use Rattle.mc_queue.specs.Blocks.{flat}
use Rattle.mc_queue.specs.Wants.{wanted}
use Rattle.mc_queue.proofs.wants.last_of.Given as goal

abbrev pub invariant-loop-at : goal.invariant-loop-at
invariant-loop-at g l = record {
  within : l.at ≤ length l.blocks.blocks;
  none : last_that (wanted l.want) (flat (drop l.at l.blocks.blocks)) ≡ None;
  cost : l.steps + l.at ≤ l.fn.steps + length l.blocks.blocks;
}

abbrev pub decreases-loop-at : goal.decreases-loop-at
decreases-loop-at g l = l.at
