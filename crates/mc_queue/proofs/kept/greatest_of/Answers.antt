use Rattle.std.proofs.Common.{rules, ◌<◌, length, true, take, ap, sym, ◌∙◌}
use Rattle.mc_packet.specs.declared.packet.Packet.{Packet}
use Rattle.mc_packet.specs.declared.choice.Dir.TheVariants.{Back}
use Rattle.mc_queue.specs.Blocks.{any_packet, extreme, first_two, time_if}
use Rattle.mc_queue.proofs.Extremes.{one_more}
use Rattle.mc_queue.proofs.kept.greatest_of.Goals as goal

pub loop-i-preserved : goal.loop-i-preserved
loop-i-preserved c =
    let l : c.loop-i.i < length c.args.packets.now.items = search rules in
    c.first_two-best.ensures
    ∙ ap (λ o. first_two Back c.loop-i.best o) c.time_if.ensures
    ∙ ap (λ o. first_two Back o (time_if true c.index.result.now.time)) c.loop-i.invariant
    ∙ ap (λ (p : Packet). first_two Back (extreme Back any_packet (take c.loop-i.i c.args.packets.now.items)) (time_if true p.time)) c.index.ensures
    ∙ sym (one_more Back any_packet c.args.packets.now.items c.loop-i.i c.index.result.now l)
