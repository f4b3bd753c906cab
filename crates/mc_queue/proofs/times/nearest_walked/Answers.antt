use Rattle.std.proofs.Common.{rules, ◌<◌, false, length, take, ap, sym, ◌∙◌}
use Rattle.mc_packet.specs.declared.packet.Packet.{Packet}
use Rattle.mc_queue.specs.Times.{is_wanted}
use Rattle.mc_queue.specs.Blocks.{extreme, first_two, time_if}
use Rattle.mc_queue.proofs.Extremes.{one_more}
use Rattle.mc_queue.proofs.times.nearest_walked.Goals as goal

pub loop-i-preserved : goal.loop-i-preserved
loop-i-preserved g c =
    let l : c.loop-i.i < length c.args.block.now = search rules in
    c.first_two-best.ensures
    ∙ ap (λ o. first_two c.args.dir c.loop-i.best o) (c.time_if-time.ensures ∙ ap (λ b. time_if b c.packet-packet.result.now.time) c.is_wanted.ensures)
    ∙ ap (λ o. first_two c.args.dir o (time_if (is_wanted c.args.dir false c.args.past c.packet-packet.result.now) c.packet-packet.result.now.time)) c.loop-i.invariant
    ∙ ap (λ (p : Packet). first_two c.args.dir (extreme c.args.dir (is_wanted c.args.dir false c.args.past) (take c.loop-i.i c.args.block.now)) (time_if (is_wanted c.args.dir false c.args.past p) p.time)) c.packet-packet.ensures.value
    ∙ sym (one_more c.args.dir (is_wanted c.args.dir false c.args.past) c.args.block.now c.loop-i.i c.packet-packet.result.now l)
