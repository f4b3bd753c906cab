use Rattle.std.proofs.Common.{◌≡◌, ◌-◌, ◌++◌}
use Rattle.mc_gen.specs.Rounds.{pictures_text}
use Rattle.mc_gen.proofs.pictures.push_pictures.Given as goal

abbrev pub invariant-loop-i : goal.invariant-loop-i
invariant-loop-i l = l.out.items ≡ l.initial.out.items ++ pictures_text l.first (l.i - l.first)
