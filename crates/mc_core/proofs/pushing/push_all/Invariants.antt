use Rattle.std.proofs.Common.{List, drop, reverse}
use Rattle.mc_player.specs.Effects.{Effect}
use Rattle.mc_state.specs.Growth.{Adds, is_push}
use Rattle.mc_state.specs.Pushing.{ComesWith, IsToPush, Within}
use Rattle.mc_deeds.specs.Signals.{event_of}
use Rattle.mc_core.proofs.pushing.push_all.Given as goal

abbrev pub invariant-loop-i : goal.invariant-loop-i
invariant-loop-i g l = record {
  due : IsToPush g.M.Meaning.value (event_of l.signal) (drop l.i l.state.order) l.state;
  ahead : (later : List Effect) → ComesWith g.M.Meaning.value (event_of l.signal) l.fn.state.order later l.fn.state
      → ComesWith g.M.Meaning.value (event_of l.signal) (drop l.i l.state.order) later l.state;
  adds : Adds is_push l.by (reverse l.fn.state.journal) (reverse l.state.journal);
  within : Within l.i l.fn.state l.state;
}
