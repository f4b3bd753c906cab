use Rattle.mc_state.specs.Growth.{is_push}
use Rattle.mc_state.proofs.Growing.{adds_then}
use Rattle.mc_state.proofs.Telling.{within_more}
use Rattle.mc_core.proofs.pushing.push_all.Goals as goal

pub loop-i-preserved : goal.loop-i-preserved
loop-i-preserved g c = record {
  due = ((c.loop-i.invariant.due).0, c.push_next.ensures.ahead (c.loop-i.invariant.due).0 (c.loop-i.invariant.due).1);
  ahead = λ later comes. c.push_next.ensures.ahead later (c.loop-i.invariant.ahead later comes);
  adds = adds_then is_push c.args.by _ _ _ c.loop-i.invariant.adds c.push_next.ensures.adds;
  within = within_more c.loop-i.i _ _ _ c.loop-i.invariant.within c.push_next.ensures.within;
}
