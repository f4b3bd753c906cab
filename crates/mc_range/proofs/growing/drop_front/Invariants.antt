use Rattle.std.proofs.Common.{◌≡◌, length}
use Rattle.mc_journal.specs.Films.{rank}
use Rattle.mc_queue.specs.Places.{behind}
use Rattle.mc_range.proofs.growing.drop_front.Given as goal

abbrev pub invariant-loop-cut : goal.invariant-loop-cut
invariant-loop-cut l = behind (rank l.cut) l.packets ≡ behind (rank l.cut) l.fn.packets

abbrev pub decreases-loop-cut : goal.decreases-loop-cut
decreases-loop-cut l = length l.packets
