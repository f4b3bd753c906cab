use Rattle.std.proofs.Common.{ap, ◌∙◌, sym, subst, reverse}
use Rattle.mc_player.specs.Rules.{MayOrder}
use Rattle.mc_state.specs.Stands.{CoreState, table_of}
use Rattle.mc_state.proofs.Taken.{ordered_next}
use Rattle.mc_state.proofs.state.State.ordered.Goals as goal

pub invariant_of-self : goal.invariant_of-self
invariant_of-self g c =
    ordered_next g.M.Meaning.value _ c.args.by c.args.order _ _ _ c.self.invariant (ap (λ (d : CoreState). d.out) c.self.view_is ∙ c.requires.none_out)
    (subst (λ (d : CoreState). MayOrder (table_of g.M.Meaning.value d) (reverse d.journal) c.args.order) (sym c.self.view_is) c.requires.may)
    c.loads-self-inside.ensures c.push_reserved.ensures.items
