use Rattle.std.proofs.Common.{take}
use Rattle.std.specs.List.{All}
use Rattle.mc_client.specs.Watches.{IsSettled, present}
use Rattle.mc_client.proofs.watches.first_changed.Given as goal

abbrev pub invariant-loop-place : goal.invariant-loop-place
invariant-loop-place g l = All (IsSettled (present g.M.Meaning.value l.facts)) (take l.place l.watches)
