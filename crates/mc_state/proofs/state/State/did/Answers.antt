use Rattle.std.proofs.Common.{ℕ, List, ◌∙◌, ap, sym, subst, [], ◌∷◌, ◌++◌}
use Rattle.std.specs.Prelude.{IsSomeAnd}
use Rattle.mc_dispatch.specs.declared.request.ClientNo.{ClientNo}
use Rattle.mc_player.specs.Rules.{IsOutcome}
use Rattle.mc_player.specs.declared.record.Outcome.{Outcome}
use Rattle.mc_player.specs.declared.record.CoreRecord.TheVariants.{Did}
use Rattle.mc_deeds.specs.Changes.{outcome_mask}
use Rattle.mc_deeds.specs.Flags.{AreFlagged}
use Rattle.mc_state.specs.Stands.{CoreState}
use Rattle.mc_state.proofs.Steps.{quiet_in}
use Rattle.mc_state.proofs.Taken.{did_next}
use Rattle.mc_state.proofs.state.State.did.Goals as goal

pub invariant_of-self : goal.invariant_of-self
invariant_of-self g c =
    let flagged : AreFlagged g.M.Meaning.value c.self.inside.table c.self.inside.facts (outcome_mask c.args.outcome) c.self.inside.order.items c.self.inside.clients c.flag_all.new.clients =
    subst (λ (m : ℕ). AreFlagged g.M.Meaning.value c.self.inside.table c.self.inside.facts m c.self.inside.order.items c.self.inside.clients c.flag_all.new.clients) c.outcome_mask-mask.ensures
    (subst (λ (xs : List ClientNo). AreFlagged g.M.Meaning.value c.self.inside.table c.self.inside.facts c.outcome_mask-mask.result xs c.self.inside.clients c.flag_all.new.clients) c.deref.ensures.value
    c.flag_all.ensures.flagged) in
    did_next g.M.Meaning.value _ c.args.by c.args.outcome c.flag_all.new.clients _ _ _ _ _ c.self.invariant
    (quiet_in g.M.Meaning.value _ _ c.self.view_is c.requires.quiet)
    (subst (λ (d : CoreState). IsSomeAnd d.out (λ o. IsOutcome o c.args.outcome)) (sym c.self.view_is) c.requires.outcome) flagged
    c.apply_outcome.ensures c.restart_after-self-inside.ensures c.is_refusal-self-inside.ensures
    (c.push_reserved.ensures.items ∙ ap (λ (x : Outcome). c.self.inside.journal.items ++ Did c.args.by x ∷ []) c.requires.same)
