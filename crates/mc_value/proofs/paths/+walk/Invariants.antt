use Rattle.std.proofs.Common.{length}
use Rattle.mc_value.proofs.paths.+walk.Given as goal

abbrev pub decreases-walk : goal.decreases-walk
decreases-walk l = length l.path.now
