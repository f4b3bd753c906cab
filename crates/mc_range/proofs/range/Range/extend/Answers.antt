use Rattle.std.proofs.Common.{subst}
use Rattle.mc_packet.specs.declared.packet.Pos.{Pos}
use Rattle.mc_range.specs.Growing.{ExtendsAll}
use Rattle.mc_range.proofs.Owners.{still_range}
use Rattle.mc_range.proofs.Shapes.{shape_rises}
use Rattle.mc_range.proofs.range.Range.extend.Goals as goal

-- src/range.rt:128:21
pub extend-requires-clause-rise : goal.extend-requires-clause-rise
extend-requires-clause-rise c = rw c.place_at.ensures (shape_rises c.args.chunk.from.pos c.args.chunk.to.pos c.args.chunk.packets c.requires.shape)

-- src/range.rt:112:5
pub invariant_of-self-2 : goal.invariant_of-self-2
invariant_of-self-2 c =
    let x = subst (λ (u : Pos). ExtendsAll u c.args.chunk.packets c.self.inside.queues c.extend.new.queues) c.place_at.ensures c.in_ok-taken.ensures.ok in
    still_range c.self.inside.set c.self.inside.mark c.args.chunk.to c.self.inside.ending c.later_ending-self-inside.result c.args.chunk.packets
    c.self.inside.queues c.extend.new.queues c.self.invariant x c.in_ok-taken.ensures.sound

-- src/range.rt:112:5
pub returns-clause-range : goal.returns-clause-range
returns-clause-range c =
    let x = subst (λ (u : Pos). ExtendsAll u c.args.chunk.packets c.self.inside.queues c.extend.new.queues) c.place_at.ensures c.in_ok-taken.ensures.ok in
    still_range c.self.inside.set c.self.inside.mark c.args.chunk.to c.self.inside.ending c.later_ending-self-inside.result c.args.chunk.packets
    c.self.inside.queues c.extend.new.queues c.self.invariant x c.in_ok-taken.ensures.sound
