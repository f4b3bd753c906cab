use Rattle.std.proofs.Common.{arith, rules, ◌<◌}
use Rattle.mc_queue.proofs.Packing.{begins, front_within}
use Rattle.mc_queue.proofs.blocks.begin.Goals as goal

pub overflow_mul-result : goal.overflow_mul-result
overflow_mul-result c =
    let z : 0 < c.args.at = search rules in
    let b = begins c.args.at c.index.result.now c.args.kept.now.items c.args.packets.now.items c.requires.stands z c.requires.within c.index.ensures in
    let f = front_within c.args.at c.args.kept.now.items c.args.packets.now.items c.requires.stands in
    let l = c.args.packets.now.ok.0 in
    let s = c.args.packets.now.small.0 in
    let t = c.args.packets.now.small.1 in
    omega arith

pub overflow_add-result : goal.overflow_add-result
overflow_add-result c =
    let z : 0 < c.args.at = search rules in
    let b = begins c.args.at c.index.result.now c.args.kept.now.items c.args.packets.now.items c.requires.stands z c.requires.within c.index.ensures in
    let f = front_within c.args.at c.args.kept.now.items c.args.packets.now.items c.requires.stands in
    let l = c.args.packets.now.ok.0 in
    let s = c.args.packets.now.small.0 in
    let t = c.args.packets.now.small.1 in
    omega arith
