use Rattle.std.proofs.Common.{◌≡◌, [], take, drop}
use Rattle.std.specs.Prelude.{reverse}
use Rattle.mc_tracks.specs.Selection.{first_twin}
use Rattle.mc_tracks.proofs.selection.first_twin.Given as goal

-- what is seen stands in the other order
abbrev pub invariant-loop-i : goal.invariant-loop-i
invariant-loop-i l = first_twin l.list (reverse (take l.i l.numbers)) (drop l.i l.numbers) ≡ first_twin l.list [] l.numbers
