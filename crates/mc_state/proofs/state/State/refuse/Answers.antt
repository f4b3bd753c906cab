use Rattle.std.proofs.Common.{◌≡◌, ◌∙◌, ap, subst, sym, None, [], ◌∷◌, ◌++◌, w32}
use Rattle.std.specs.Prelude.{ℤ}
use Rattle.std.proofs.lemmas.Int.{to_z-of_z}
use Rattle.mc_player.specs.declared.record.Answer.TheVariants as answer
use Rattle.mc_player.specs.declared.record.CoreRecord.TheVariants.{Called}
use Rattle.std.specs.Bool.{MatchBool}
use Rattle.mc_player.specs.Deeds.{invalid_parameter, queue_full}
use Rattle.mc_player.specs.Rules.{is_bad}
use Rattle.mc_deeds.specs.Clients.{IsFullAt}
use Rattle.mc_state.specs.Stands.{CoreState}
use Rattle.mc_state.proofs.Asking.{refused_next}
use Rattle.mc_state.proofs.Steps.{lives_in, quiet_in}
use Rattle.mc_state.proofs.state.State.refuse.Goals as goal

pub invariant_of-self : goal.invariant_of-self
invariant_of-self g c =
    let js : c.push_reserved.new.self.items ≡ c.self.inside.journal.items ++ Called c.args.by c.args.c None c.args.call (answer.Refused c.args.error) ∷ [] =
    c.push_reserved.ensures.items
    ∙ ap (λ (z : ℤ). c.self.inside.journal.items ++ Called c.args.by c.args.c None c.args.call (answer.Refused z) ∷ []) (to_z-of_z w32 c.args.error c.ranges.error) in
    refused_next g.M.Meaning.value _ c.args.by c.args.c c.args.call c.args.error _ _ c.self.invariant
    (quiet_in g.M.Meaning.value _ _ c.self.view_is c.requires.quiet) (lives_in _ _ _ c.self.view_is c.requires.lives) c.requires.asks
    (subst (λ (d : CoreState). MatchBool (is_bad c.args.call) (c.args.error ≡ invalid_parameter) (IsFullAt d.clients c.args.c.0 × (c.args.error ≡ queue_full)))
    (sym c.self.view_is) c.requires.error)
    js
