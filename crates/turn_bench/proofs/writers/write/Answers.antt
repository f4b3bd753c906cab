use Rattle.std.proofs.Common.{rules}
use Rattle.mc_turn.specs.Laws.{may_leave, worked_turn}
use Rattle.turn_bench.proofs.Items.{adds_from}
use Rattle.turn_bench.proofs.writers.write.Goals as goal

pub leave-requires-clause-extends : goal.leave-requires-clause-extends
leave-requires-clause-extends g c = may_leave _ _ _ _ _ _ _ _ c.loop-item.invariant c.requires.ready.2 c.enter-log.ensures.pass
    (adds_from c.add-added.result c.args.first c.args.last c.args.caller c.loop-item.item c.enter-log.result c.add-added.new.self c.add-added.ensures.added (search rules) (search rules))

pub loop-item-preserved : goal.loop-item-preserved
loop-item-preserved g c = worked_turn _ _ _ _ _ _ _ _ c.loop-item.invariant c.requires.ready.2 c.enter-log.ensures.pass
    (adds_from c.add-added.result c.args.first c.args.last c.args.caller c.loop-item.item c.enter-log.result c.add-added.new.self c.add-added.ensures.added (search rules) (search rules))
    _ c.enter-log.ensures.seen c.leave.ensures.pass
