use Rattle.std.proofs.Common.{take, drop}
use Rattle.mc_turn.specs.declared.view.Stage.TheVariants.{Out}
use Rattle.mc_turn.specs.Rule.{view_of}
use Rattle.mc_turn.proofs.turn.Turn.split.Given as goal

abbrev pub ghosts-cut : goal.ghosts-cut
ghosts-cut g a = record { left = λ v. view_of v.callers v.seen (take a.keep v.numbers) Out; right = λ v. view_of v.callers v.seen (drop a.keep v.numbers) Out }
