use Rattle.std.proofs.Common.{arith, ◌+◌, drop, ap}
use Rattle.mc_queue.specs.Places.{weights}
use Rattle.mc_queue.specs.Blocks.{BlocksState}
use Rattle.mc_queue.proofs.Packing.{stride_is}
use Rattle.mc_queue.proofs.blocks.Blocks.stride.Goals as goal

pub returns-then-kept-to-clause-on : goal.returns-then-kept-to-clause-on
returns-then-kept-to-clause-on g c =
    let b = c.in-Some.ensures in
    let s = stride_is c.in-Some.block c.args.at c.index-kept.result.now c.self.inside.kept.items c.self.inside.packets.items c.self.invariant.0 b.0 b.1 c.index-kept.ensures in
    let z = s.0 in
    let t = c.if-kept-to.true in
    let o = c.requires.order in
    (omega arith, omega arith)

pub returns-then-kept-to-clause-value : goal.returns-then-kept-to-clause-value
returns-then-kept-to-clause-value g c =
    let b = c.in-Some.ensures in
    let s = stride_is c.in-Some.block c.args.at c.index-kept.result.now c.self.inside.kept.items c.self.inside.packets.items c.self.invariant.0 b.0 b.1 c.index-kept.ensures in
    let u = ap (λ (q : BlocksState). weights (drop (c.args.at + c.index-kept.result.now.count) q.packets)) c.self.view_is in
    let v = ap (λ (q : BlocksState). weights (drop c.args.at q.packets)) c.self.view_is in
    let w = s.1 in
    omega arith
