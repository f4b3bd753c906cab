use Rattle.std.proofs.Common.{◌≡◌, ◌+◌, ◌≤◌, length, drop, false}
use Rattle.std.specs.List.{list_any}
use Rattle.mc_queue.specs.Blocks.{flat}
use Rattle.mc_queue.specs.Wants.{wanted}
use Rattle.mc_queue.proofs.wants.any_of.Given as goal

abbrev pub invariant-loop-at : goal.invariant-loop-at
invariant-loop-at g l = record {
  within : l.at ≤ length l.blocks.blocks;
  none : list_any (wanted l.want) (flat (drop l.at l.blocks.blocks)) ≡ false;
  cost : l.steps + l.at ≤ l.fn.steps + length l.blocks.blocks;
}

abbrev pub decreases-loop-at : goal.decreases-loop-at
decreases-loop-at g l = l.at
