use Rattle.mc_turn.specs.Laws.{may_leave, worked_turn}
use Rattle.turn_bench.proofs.demux_cell.work.Goals as goal

pub leave-requires-clause-extends : goal.leave-requires-clause-extends
leave-requires-clause-extends g c = may_leave _ _ _ _ _ _ _ _ c.loop-item.invariant c.requires.ready.2 c.enter-cell.ensures.pass c.seek-sought.ensures.grows

pub loop-item-preserved : goal.loop-item-preserved
loop-item-preserved g c = worked_turn _ _ _ _ _ _ _ _ c.loop-item.invariant c.requires.ready.2 c.enter-cell.ensures.pass c.seek-sought.ensures.grows
    _ c.enter-cell.ensures.seen c.leave.ensures.pass
