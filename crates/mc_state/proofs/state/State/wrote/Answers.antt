use Rattle.std.proofs.Common.{◌≡◌, Some, ap, ◌∙◌, sym, subst}
use Rattle.std.specs.Prelude.{slice_get}
use Rattle.mc_player.specs.Effects.{Write}
use Rattle.mc_state.specs.Pushing.{coming}
use Rattle.mc_state.specs.Stands.{CoreState}
use Rattle.mc_state.proofs.Changed.{wrote_next}
use Rattle.mc_state.proofs.state.State.wrote.Goals as goal

pub invariant_of-self : goal.invariant_of-self
invariant_of-self g c =
    let due = subst (λ (d : CoreState). slice_get (coming g.M.Meaning.value d) 0 ≡ Some (Write c.args.mask)) (sym c.self.view_is) c.requires.due in
    let facts : c.args.facts ≡ c.self.inside.facts = c.requires.facts ∙ ap (λ (d : CoreState). d.facts) (sym c.self.view_is) in
    wrote_next g.M.Meaning.value _ c.args.by c.args.mask c.args.facts _ _ c.self.invariant due facts c.push_reserved.ensures.items
