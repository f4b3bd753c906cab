use Rattle.std.proofs.Common.{◌≡◌, ◌++◌, drop, take}
use Rattle.std.specs.Prelude.{All, map}
use Rattle.mc_client.specs.Watches.{IsPlaced, flagged_for}
use Rattle.mc_client.proofs.watches.flag_watches.Given as goal

abbrev pub invariant-loop-watch : goal.invariant-loop-watch
invariant-loop-watch g l = record {
  placed : All (IsPlaced l.table) l.watches;
  flagged : l.watches ≡ map (flagged_for l.table l.mask) (take l.watch-index l.initial.watches) ++ drop l.watch-index l.initial.watches;
}
