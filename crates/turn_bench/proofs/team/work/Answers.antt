use Rattle.std.proofs.Common.{rules, ap, ◌∙◌}
use Rattle.mc_turn.specs.Laws.{may_leave, worked_turn}
use Rattle.turn_bench.proofs.Items.{makes_item}
use Rattle.turn_bench.proofs.team.work.Goals as goal

pub leave-requires-clause-extends : goal.leave-requires-clause-extends
leave-requires-clause-extends g c = may_leave _ _ _ _ _ _ _ _ c.loop-item.invariant.worked c.requires.ready.2 c.enter-log.ensures.pass c.add-done.ensures.grows

pub loop-item-preserved : goal.loop-item-preserved
loop-item-preserved g c = record {
  worked = worked_turn _ _ _ _ _ _ _ _ c.loop-item.invariant.worked c.requires.ready.2 c.enter-log.ensures.pass c.add-done.ensures.grows _ c.enter-log.ensures.seen c.leave.ensures.pass;
  made = makes_item c.args.number c.loop-item.item c.add-done.result c.args.pass.seen c.loop-item.pass c.enter-log.result c.add-done.new.self c.leave.new.pass.seen (search rules)
      c.loop-item.invariant.made (c.loop-item.invariant.worked.numbers ∙ c.requires.ready.2) c.enter-log.ensures.seen c.add-done.ensures.added (ap (λ k. k.seen) c.leave.ensures.pass);
}
