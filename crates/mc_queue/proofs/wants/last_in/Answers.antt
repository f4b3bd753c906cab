use Rattle.std.proofs.Common.{rules, ◌<◌, ◌≤◌, length, sym, ◌∙◌}
use Rattle.mc_queue.specs.Wants.{wanted}
use Rattle.mc_queue.proofs.Wanted.{back_hit}
use Rattle.mc_queue.proofs.wants.last_in.Goals as goal

pub returns-then-wanted-clause-value : goal.returns-then-wanted-clause-value
returns-then-wanted-clause-value g c =
    let l : c.loop-at.at ≤ length c.args.block.now = search rules in
    let z : 0 < c.loop-at.at = search rules in
    back_hit (wanted c.args.want) c.args.block.now c.loop-at.at c.packet-packet.result.now l z c.loop-at.invariant.none c.packet-packet.ensures.value (sym c.wanted.ensures ∙ c.if-wanted.true)
