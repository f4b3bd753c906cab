use Rattle.std.proofs.Common.{rules, ◌<◌, drop, length, ap, sym, ◌∙◌}
use Rattle.mc_packet.specs.declared.packet.Pos.{Pos}
use Rattle.std.specs.Prelude.{Option}
use Rattle.mc_packet.specs.Choices.{or_else}
use Rattle.mc_queue.specs.Queue.{first_that, is_sync}
use Rattle.mc_queue.specs.Blocks.{flat}
use Rattle.mc_queue.proofs.NextSync.{next_in}
use Rattle.mc_queue.proofs.wants.next_sync.Goals as goal

pub returns-in-Some : goal.returns-in-Some
returns-in-Some g c =
    let v = c.count.ensures.value in
    let f = c.if-count-eq0.false in
    let l : 0 < length c.args.blocks.now.blocks = search rules in
    sym (next_in c.args.blocks.now c.block-first.result c.count.ensures.blocks l c.block-first.ensures ∙ ap (λ (o : Option Pos). or_else o (first_that is_sync (flat (drop 1 c.args.blocks.now.blocks)))) (sym c.in-Some.ensures.value))

pub returns-in-None : goal.returns-in-None
returns-in-None g c =
    let v = c.count.ensures.value in
    let f = c.if-count-eq0.false in
    let l : 0 < length c.args.blocks.now.blocks = search rules in
    c.first_from.ensures.value
    ∙ sym (next_in c.args.blocks.now c.block-first.result c.count.ensures.blocks l c.block-first.ensures ∙ ap (λ (o : Option Pos). or_else o (first_that is_sync (flat (drop 1 c.args.blocks.now.blocks)))) (sym c.in-None.ensures.value))
