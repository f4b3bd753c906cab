use Rattle.std.proofs.Common.{◌≡◌, take}
use Rattle.mc_play.specs.Summing.{sums_in}
use Rattle.mc_play.proofs.summing.sums.Given as goal

abbrev pub invariant-loop-entry : goal.invariant-loop-entry
invariant-loop-entry l = l.found ≡ sums_in (take l.entry-index l.hd)
