use Rattle.std.proofs.Common.{Bool, subst, sym}
use Rattle.mc_packet.specs.declared.choice.Dir.TheVariants.{Back}
use Rattle.mc_queue.specs.Times.{IsNearest}
use Rattle.mc_range.specs.Bounds.{is_last, serves_time}
use Rattle.mc_range.proofs.bounding.last_time.Goals as goal

pub returns-then-ended : goal.returns-then-ended
returns-then-ended c =
    subst (λ (b : Bool). IsNearest Back (is_last b (serves_time c.args.queues.now c.args.ended c.args.set)) c.args.queue.now.packets c.greatest_time.result) (sym c.if-ended.true) c.greatest_time.ensures

pub returns-else-ended : goal.returns-else-ended
returns-else-ended c =
    subst (λ (b : Bool). IsNearest Back (is_last b (serves_time c.args.queues.now c.args.ended c.args.set)) c.args.queue.now.packets c.first_served.result) (sym c.if-ended.false) c.first_served.ensures
