use Rattle.std.proofs.Common.{◌≡◌, ◌<◌, ◌+◌, ◌++◌, length, map, take, drop, get_or, subst, arith}
use Rattle.std.proofs.Math.ListN.{set}
use Rattle.std.proofs.lemmas.List.Edits.{map_over_more}
use Rattle.mc_client.specs.declared.watch.Watch.{Watch}
use Rattle.mc_client.specs.Watches.{cleared}
use Rattle.mc_client.proofs.watches.clear_flags.Goals as goal

pub loop-watch-preserved : goal.loop-watch-preserved
loop-watch-preserved c =
    let xs = c.args.watches.now in
    let ws = c.loop-watch.watches in
    let i = c.loop-watch.watch-index in
    let w = c.watch-item.result in
    let e : w ≡ get_or ws i w = c.watch-item.is in
    let within : i < length xs = omega arith in
    subst (λ (x : Watch). set ws i (cleared x) ≡ map cleared (take (i + 1) xs) ++ drop (i + 1) xs) e
    (map_over_more cleared xs ws i w within c.loop-watch.invariant e)
