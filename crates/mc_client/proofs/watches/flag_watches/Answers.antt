use Rattle.std.proofs.Common.{◌≡◌, ◌<◌, ◌+◌, ◌++◌, length, map, take, drop, get_or, subst, sym, arith}
use Rattle.std.proofs.Math.ListN.{set}
use Rattle.std.proofs.lemmas.List.Edits.{map_over_more}
use Rattle.std.proofs.lemmas.List.Elements.{All-get_or, All-set}
use Rattle.mc_client.specs.declared.watch.Watch.{Watch}
use Rattle.mc_client.specs.Watches.{IsPlaced, flagged_for}
use Rattle.mc_client.proofs.watches.flag_watches.Goals as goal

pub loop-watch-preserved : goal.loop-watch-preserved
loop-watch-preserved g c =
    let xs = c.args.watches.now in
    let ws = c.loop-watch.watches in
    let i = c.loop-watch.watch-index in
    let w = c.watch-item.result in
    let table = c.args.table.now in
    let flagged : Watch → Watch = flagged_for table c.args.mask in
    let e : w ≡ get_or ws i w = c.watch-item.is in
    let within : i < length xs = omega arith in
    let there : i < length ws = omega arith in
    let is : c.flag_watch.new.watch ≡ flagged (get_or ws i w) = c.flag_watch.ensures in
    let placed : IsPlaced table (get_or ws i w) = All-get_or (IsPlaced table) ws i w there c.loop-watch.invariant.placed in
    let kept : IsPlaced table c.flag_watch.new.watch = subst (IsPlaced table) (sym is) placed in
    let one : set ws i (flagged w) ≡ map flagged (take (i + 1) xs) ++ drop (i + 1) xs = map_over_more flagged xs ws i w within c.loop-watch.invariant.flagged e in
    let here : set ws i (flagged (get_or ws i w)) ≡ map flagged (take (i + 1) xs) ++ drop (i + 1) xs =
    subst (λ (x : Watch). set ws i (flagged x) ≡ map flagged (take (i + 1) xs) ++ drop (i + 1) xs) e one in
    record {
      placed = All-set (IsPlaced table) ws i c.flag_watch.new.watch kept c.loop-watch.invariant.placed;
      flagged = subst (λ (x : Watch). set ws i x ≡ map flagged (take (i + 1) xs) ++ drop (i + 1) xs) (sym is) here;
    }
