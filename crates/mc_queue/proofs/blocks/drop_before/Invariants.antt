use Rattle.std.proofs.Common.{◌≡◌, ◌+◌, ◌≤◌, length}
use Rattle.mc_journal.specs.Films.{rank}
use Rattle.mc_queue.specs.Places.{behind, weights}
use Rattle.mc_queue.proofs.blocks.drop_before.Given as goal

abbrev pub invariant-loop-weight : goal.invariant-loop-weight
invariant-loop-weight l = record {
  left : behind (rank l.cut) l.blocks.packets ≡ behind (rank l.cut) l.fn.blocks.packets;
  weight : l.dropped + weights l.blocks.packets ≡ weights l.fn.blocks.packets;
  roomier : l.fn.blocks.spare ≤ l.blocks.spare;
}

abbrev pub decreases-loop-weight : goal.decreases-loop-weight
decreases-loop-weight l = length l.blocks.packets
