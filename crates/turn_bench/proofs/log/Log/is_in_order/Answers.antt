use Rattle.std.proofs.Common.{ap, sym, ◌∙◌, arith}
use Rattle.turn_bench.specs.Work.{numbered}
use Rattle.turn_bench.proofs.Items.{next_item, others_item}
use Rattle.turn_bench.proofs.log.Log.is_in_order.Goals.{then-entry-caller+else-entry-next, else-entry-caller}
use Rattle.turn_bench.proofs.log.Log.is_in_order.Goals as goal

pub loop-entry-preserved : goal.loop-entry-preserved
loop-entry-preserved c = let few = c.loop-entry.invariant.few in let so_far = c.loop-entry.invariant.ordered in elim c.if-entry-caller.branch [
  | then-entry-caller+else-entry-next w ↦ record {
    few = omega (arith, w.next-is, few);
    ordered = next_item c.deref-entry-items.result.now c.loop-entry.entry-index c.args.caller c.loop-entry.next c.loop-entry-test.true so_far w.if-entry-caller.true w.if-entry-next.false ∙ ap (numbered c.args.caller) (sym w.next-is);
  }
  | else-entry-caller w ↦ record {
    few = omega (arith, w.next-is, few);
    ordered = others_item c.deref-entry-items.result.now c.loop-entry.entry-index c.args.caller (numbered c.args.caller c.loop-entry.next) c.loop-entry-test.true so_far w.if-entry-caller.false ∙ ap (numbered c.args.caller) (sym w.next-is);
  }
]
