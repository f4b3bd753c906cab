use Rattle.std.proofs.Common.{◌≡◌, ◌++◌, drop, take}
use Rattle.std.specs.Prelude.{map}
use Rattle.mc_client.specs.Watches.{cleared}
use Rattle.mc_client.proofs.watches.clear_flags.Given as goal

abbrev pub invariant-loop-watch : goal.invariant-loop-watch
invariant-loop-watch l = l.watches ≡ map cleared (take l.watch-index l.initial.watches) ++ drop l.watch-index l.initial.watches
