use Rattle.std.proofs.Common.{length}
use Rattle.mc_ipc.proofs.Cuts.{IsSoFar}
use Rattle.mc_ipc.proofs.cutting.cut.Given as goal

abbrev pub invariant-loop-end : goal.invariant-loop-end
invariant-loop-end l = IsSoFar l.held l.piece l.lines l.front l.rest

abbrev pub decreases-loop-end : goal.decreases-loop-end
decreases-loop-end l = length l.rest
