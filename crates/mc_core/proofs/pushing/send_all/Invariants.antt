use Rattle.std.proofs.Common.{◌≡◌, ◌+◌, List, drop, length, reverse}
use Rattle.std.specs.List.{AllByRecursion}
use Rattle.mc_ring.specs.declared.event.Event.TheVariants as event
use Rattle.mc_player.specs.Effects.{Effect}
use Rattle.mc_deeds.specs.Follow.{IsTwice}
use Rattle.mc_state.specs.Growth.{Adds, is_push}
use Rattle.mc_state.specs.Pushing.{ComesWith, IsToPush, Within}
use Rattle.mc_core.proofs.pushing.send_all.Given as goal

abbrev pub invariant-loop-twice : goal.invariant-loop-twice
invariant-loop-twice g l = record {
  left : length l.twice-iterator.rest.items + l.i ≡ length l.state.order;
  all : AllByRecursion (IsTwice (event.Message l.words)) l.twice-iterator.rest.items;
  due : IsToPush g.M.Meaning.value (event.Message l.words) (drop l.i l.state.order) l.state;
  ahead : (later : List Effect) → ComesWith g.M.Meaning.value (event.Message l.words) l.fn.state.order later l.fn.state
      → ComesWith g.M.Meaning.value (event.Message l.words) (drop l.i l.state.order) later l.state;
  adds : Adds is_push l.by (reverse l.fn.state.journal) (reverse l.state.journal);
  within : Within l.i l.fn.state l.state;
}
