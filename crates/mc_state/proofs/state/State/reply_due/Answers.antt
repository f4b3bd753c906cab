use Rattle.std.proofs.Common.{◌≡◌, Some, [], ◌∷◌, ◌++◌, ◌∙◌, ap, sym, subst, reverse}
use Rattle.std.specs.Prelude.{slice_get}
use Rattle.mc_value.specs.declared.value.Value.TheVariants as values
use Rattle.mc_client.specs.Client.{ClientState, after_reply_of}
use Rattle.slab.specs.Slab.{get}
use Rattle.mc_ring.specs.declared.event.Event.{Event}
use Rattle.mc_player.specs.Deeds.{generic_error, reply_of}
use Rattle.mc_player.specs.Journals.{due}
use Rattle.mc_player.specs.declared.record.CoreRecord.TheVariants.{Replied}
use Rattle.mc_state.specs.Stands.{CoreState}
use Rattle.mc_state.proofs.Replied.{due_next, due_place}
use Rattle.mc_state.proofs.state.State.reply_due.Goals as goal

pub reply_at-requires-clause-place : goal.reply_at-requires-clause-place
reply_at-requires-clause-place g c =
    let at = subst (λ (d : CoreState). slice_get (due (reverse d.journal)) 0 ≡ Some c.args.request.now) (sym c.self.view_is) c.requires.due in
    due_place g.M.Meaning.value _ c.args.request.now c.self.invariant at

pub invariant_of-self : goal.invariant_of-self
invariant_of-self g c =
    let at = subst (λ (d : CoreState). slice_get (due (reverse d.journal)) 0 ≡ Some c.args.request.now) (sym c.self.view_is) c.requires.due in
    let e : Event = reply_of c.args.request.now.call generic_error values.None in
    let here : (k : ClientState) → get c.self.inside.clients c.args.request.now.client.0 ≡ Some k → get c.reply_at.new.clients c.args.request.now.client.0 ≡ Some (after_reply_of k e) =
    λ k is. c.reply_at.ensures.here k is ∙ ap (λ (x : Event). Some (after_reply_of k x)) c.reply_of-reply.ensures.value in
    let js : c.push_reserved.new.self.items ≡ c.self.inside.journal.items ++ Replied c.args.by c.args.request.now.client c.args.request.now.ticket e ∷ [] =
    c.push_reserved.ensures.items ∙ ap (λ (x : Event). c.self.inside.journal.items ++ Replied c.args.by c.args.request.now.client c.args.request.now.ticket x ∷ []) c.reply_of.ensures.value in
    due_next g.M.Meaning.value _ c.args.by c.args.request.now c.reply_at.new.clients _ _ c.self.invariant at here c.reply_at.ensures.others js
