use Rattle.std.proofs.Common.{arith}
use Rattle.mc_queue.proofs.Moving.{moved}
use Rattle.mc_queue.proofs.parts.move_rear.Goals as goal

pub returns-clause-left : goal.returns-clause-left
returns-clause-left c =
    let t = c.loop-from-test.false in
    let a = c.len.ensures in
    let i = c.loop-from.invariant in
    let o = c.loop-from.from.ok.0 in
    let f = c.args.from.now.ok.0 in
    let r = c.requires.some in
    (moved c.args.from.now.items c.args.into.now.items c.loop-from.from.items c.loop-from.into.items c.args.keep i.joined (omega arith) (omega arith)).0

pub returns-clause-moved : goal.returns-clause-moved
returns-clause-moved c =
    let t = c.loop-from-test.false in
    let a = c.len.ensures in
    let i = c.loop-from.invariant in
    let o = c.loop-from.from.ok.0 in
    let f = c.args.from.now.ok.0 in
    let r = c.requires.some in
    (moved c.args.from.now.items c.args.into.now.items c.loop-from.from.items c.loop-from.into.items c.args.keep i.joined (omega arith) (omega arith)).1
