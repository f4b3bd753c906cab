use Rattle.std.proofs.Common.{rules, ◌<◌, length, take, ap, sym, ◌∙◌}
use Rattle.mc_packet.specs.declared.packet.Packet.{Packet}
use Rattle.mc_queue.specs.Queue.{is_sync}
use Rattle.mc_queue.specs.Blocks.{extreme, first_two, time_if}
use Rattle.mc_queue.proofs.Extremes.{one_more}
use Rattle.mc_queue.proofs.kept.sync_extreme.Goals as goal

pub loop-i-preserved : goal.loop-i-preserved
loop-i-preserved c =
    let l : c.loop-i.i < length c.args.packets.now.items = search rules in
    c.first_two-best.ensures
    ∙ ap (λ o. first_two c.args.dir c.loop-i.best o) c.time_if.ensures
    ∙ ap (λ o. first_two c.args.dir o (time_if c.index-packet.result.now.sync c.index-packet.result.now.time)) c.loop-i.invariant
    ∙ ap (λ (p : Packet). first_two c.args.dir (extreme c.args.dir is_sync (take c.loop-i.i c.args.packets.now.items)) (time_if p.sync p.time)) c.index-packet.ensures
    ∙ sym (one_more c.args.dir is_sync c.args.packets.now.items c.loop-i.i c.index-packet.result.now l)
