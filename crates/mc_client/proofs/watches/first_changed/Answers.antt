use Rattle.std.proofs.Common.{◌≤◌, length, take, take_all, sym, subst, arith}
use Rattle.std.proofs.lemmas.List.Elements.{All-more, All-same}
use Rattle.mc_client.specs.Watches.{IsSettled, present}
use Rattle.mc_client.proofs.watches.first_changed.Goals as goal

pub loop-place-preserved : goal.loop-place-preserved
loop-place-preserved g c =
    let now = present g.M.Meaning.value c.args.facts.now in
    let w = c.index-watches-place.result in
    let s : IsSettled now w = rw c.in_default.is at c.in_ok-shown.ensures in
    All-more (IsSettled now) c.args.watches.now c.loop-place.place w (omega arith) c.loop-place.invariant (subst (IsSettled now) c.index-watches-place.is s)

pub returns : goal.returns
returns g c =
    let now = present g.M.Meaning.value c.args.facts.now in
    let ws = c.args.watches.now in
    let n = c.loop-place.place in
    let e : length ws ≤ n = omega arith in
    All-same (IsSettled now) ws (take n ws) (sym (take_all n ws e)) c.loop-place.invariant
