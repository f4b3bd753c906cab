use Rattle.std.proofs.Common.{rules, ap, ◌∙◌, None, subst, sym}
use Rattle.mc_turn.specs.Callers.{Extends}
use Rattle.mc_turn.specs.Passes.{Known}
use Rattle.mc_turn.proofs.Leaves.{leaves_as}
use Rattle.mc_turn.proofs.Rest.{rests_inside, stands_first}
use Rattle.mc_turn.proofs.turn.Turn.leave.Goals as goal

pub exchange-requires : goal.exchange-requires
exchange-requires g c = let r = rests_inside _ _ _ c.pass.invariant.1 (ap (λ k. k.inside) c.pass.view_is ∙ c.requires.inside) in (search rules, (None, stands_first _ _ _ r.2))

pub store-requires : goal.store-requires
store-requires g c = let r = rests_inside _ _ _ c.pass.invariant.1 (ap (λ k. k.inside) c.pass.view_is ∙ c.requires.inside) in (
  search rules,
  search rules,
  leaves_as _ _ _ _ _ c.exchange.new.seat.me c.pass.inside.seat.me.0 c.args.value c.pass.inside.seat.me.1 c.exchange.ensures.3 r.2 r.0
      (subst (λ (k : Known _). Extends g.T.Kept.caller k.numbers k.seen (g.T.Kept.kept c.args.value)) (sym c.pass.view_is) c.requires.extends),
)
