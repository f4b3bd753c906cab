use Rattle.std.proofs.Common.{length}
use Rattle.mc_props.proofs.values.+file_part.Given as goal

abbrev pub decreases-file_part : goal.decreases-file_part
decreases-file_part l = length l.path.now
