use Rattle.std.proofs.Common.{◌≡◌, ◌+◌, ◌≤◌, length, drop}
use Rattle.mc_queue.specs.Queue.{first_that}
use Rattle.mc_queue.specs.Blocks.{flat}
use Rattle.mc_queue.specs.Wants.{wanted}
use Rattle.mc_queue.proofs.wants.first_from.Given as goal

abbrev pub invariant-loop-at : goal.invariant-loop-at
invariant-loop-at g l = record {
  first : first_that (wanted l.want) (flat (drop l.from l.blocks.blocks)) ≡ first_that (wanted l.want) (flat (drop l.at l.blocks.blocks));
  within : l.at ≤ length l.blocks.blocks + l.from;
  cost : l.steps + l.from ≤ l.fn.steps + l.at;
}
