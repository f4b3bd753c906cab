use Rattle.std.proofs.Common.{arith, length, ap, sym, ◌∙◌}
use Rattle.mc_queue.specs.Blocks.{BlocksState, block_at}
use Rattle.mc_queue.proofs.Packing.{block_is, kept_is, kept_few, many, in_kept}
use Rattle.mc_queue.proofs.blocks.Blocks.block.Goals as goal

pub begin-start-requires-clause-within : goal.begin-start-requires-clause-within
begin-start-requires-clause-within c =
    let m = many c.self.inside.kept.items c.self.inside.packets.items c.self.invariant.0 in
    let e = ap (λ (b : BlocksState). length b.blocks) c.self.view_is in
    let r = c.requires in
    omega arith

pub index-requires : goal.index-requires
index-requires c =
    let m = many c.self.inside.kept.items c.self.inside.packets.items c.self.invariant.0 in
    let e = ap (λ (b : BlocksState). length b.blocks) c.self.view_is in
    let r = c.requires in
    let l = c.self.inside.kept.ok.0 in
    omega arith

pub new-requires-clause-is : goal.new-requires-clause-is
new-requires-clause-is c = kept_is c.args.at c.begin-start.result c.index.result.now c.self.inside.kept.items c.self.inside.packets.items c.self.invariant.0 (in_kept c.args.at (length c.args.self.now.blocks) c.self.inside.kept.items c.self.inside.packets.items c.self.invariant.0 (sym (ap (λ (b : BlocksState). length b.blocks) c.self.view_is)) c.requires) c.begin-start.ensures c.index.ensures

pub new-requires-clause-few : goal.new-requires-clause-few
new-requires-clause-few c = kept_few c.args.at c.index.result.now c.self.inside.kept.items c.self.inside.packets.items c.self.invariant.0 (in_kept c.args.at (length c.args.self.now.blocks) c.self.inside.kept.items c.self.inside.packets.items c.self.invariant.0 (sym (ap (λ (b : BlocksState). length b.blocks) c.self.view_is)) c.requires) c.index.ensures

pub returns : goal.returns
returns c =
    c.new.ensures
    ∙ block_is c.args.at c.begin-start.result c.index.result.now c.self.inside.kept.items c.self.inside.packets.items c.self.invariant.0 (in_kept c.args.at (length c.args.self.now.blocks) c.self.inside.kept.items c.self.inside.packets.items c.self.invariant.0 (sym (ap (λ (b : BlocksState). length b.blocks) c.self.view_is)) c.requires) c.begin-start.ensures c.index.ensures
    ∙ ap (λ (b : BlocksState). block_at c.args.at b.blocks) c.self.view_is
