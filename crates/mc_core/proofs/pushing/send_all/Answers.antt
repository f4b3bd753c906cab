use Rattle.std.proofs.Common.{rules, arith, ◌≡◌, ◌+◌, ◌∷◌, List, length, ap, subst}
use Rattle.std.specs.List.{AllByRecursion}
use Rattle.mc_ring.specs.declared.event.Event.TheVariants as event
use Rattle.mc_deeds.specs.Follow.{IsTwice}
use Rattle.mc_state.specs.Growth.{is_push}
use Rattle.mc_state.proofs.Growing.{adds_then}
use Rattle.mc_state.proofs.Telling.{same_order, within_more}
use Rattle.mc_core.proofs.pushing.send_all.Goals as goal

pub loop-twice-preserved : goal.loop-twice-preserved
loop-twice-preserved g c =
    let e : c.loop-twice.twice-iterator.rest.items ≡ c.in-Some.twice ∷ c.next.new.self.rest.items = search rules in
    let long : length c.loop-twice.twice-iterator.rest.items ≡ length c.next.new.self.rest.items + 1 = rw e (omega arith) in
    let order : length c.send_next.new.state.order ≡ length c.loop-twice.state.order =
    ap (λ (xs : List _). length xs) (same_order 1 c.loop-twice.state c.send_next.new.state c.send_next.ensures.within) in
    let before = c.loop-twice.invariant.left in
    record {
      left = omega (arith, long, order, before);
      all = (subst (AllByRecursion (IsTwice (event.Message c.args.words.now))) e c.loop-twice.invariant.all).1;
      due = ((c.loop-twice.invariant.due).0, c.send_next.ensures.ahead (c.loop-twice.invariant.due).0 (c.loop-twice.invariant.due).1);
      ahead = λ later comes. c.send_next.ensures.ahead later (c.loop-twice.invariant.ahead later comes);
      adds = adds_then is_push c.args.by _ _ _ c.loop-twice.invariant.adds c.send_next.ensures.adds;
      within = within_more c.loop-twice.i _ _ _ c.loop-twice.invariant.within c.send_next.ensures.within;
    }
