use Rattle.std.proofs.Common.{◌≡◌, ◌+◌, ◌-◌, ◌≤◌, drop}
use Rattle.mc_queue.specs.Places.{weights}
use Rattle.mc_queue.proofs.looking.weight_between.Given as goal

abbrev pub invariant-loop-at : goal.invariant-loop-at
invariant-loop-at g l = record {
  order : l.at ≤ l.to;
  sum : l.weight + weights (drop l.at l.blocks.packets) ≡ weights (drop l.from l.blocks.packets);
}

abbrev pub decreases-loop-at : goal.decreases-loop-at
decreases-loop-at g l = l.to - l.at
