use Rattle.std.proofs.Common.{◌≡◌, ◌++◌, List, ℕ}
use Rattle.mc_command.specs.Lines.{resumed, words_from}
use Rattle.mc_command.specs.declared.scan.Place.TheVariants.{Gap}
use Rattle.mc_command.proofs.line.scan_line.Given as goal

abbrev pub invariant-loop-c : goal.invariant-loop-c
invariant-loop-c l = (more : List ℕ) → resumed l.scan more ≡ words_from Gap (l.yielded ++ more)
