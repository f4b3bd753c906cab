use Rattle.std.proofs.Common.{rules, ◌≡◌, ℕ, length, Some, [], ◌∷◌, ◌++◌, ◌∙◌, ap, sym, subst}
use Rattle.mc_dispatch.specs.Queue.{after_enqueue}
use Rattle.mc_dispatch.specs.declared.call.Call.{Call}
use Rattle.mc_player.specs.Journals.{id_of}
use Rattle.mc_player.specs.declared.record.Answer.TheVariants as answer
use Rattle.mc_player.specs.declared.record.CoreRecord.TheVariants.{Called}
use Rattle.mc_deeds.specs.Clients.{IsFreeAt}
use Rattle.mc_state.specs.Stands.{CoreState}
use Rattle.mc_state.proofs.Asking.{accepted_next}
use Rattle.mc_state.proofs.Steps.{lives_in, quiet_in}
use Rattle.mc_state.proofs.state.State.accept.Goals as goal

pub invariant_of-self : goal.invariant_of-self
invariant_of-self g c =
    let long : c.len-ticket.result ≡ length c.self.inside.journal.items = search rules in
    let qs : c.enqueue_reserved.new.self ≡ after_enqueue c.self.inside.queue (record { client = c.args.c; ticket = length c.self.inside.journal.items; id = id_of c.args.call; call = c.args.call }) =
    c.enqueue_reserved.ensures.after
    ∙ ap (λ (n : ℕ). after_enqueue c.self.inside.queue (record { client = c.args.c; ticket = n; id = c.id_of-id.result; call = c.args.call })) long
    ∙ ap (λ (n : ℕ). after_enqueue c.self.inside.queue (record { client = c.args.c; ticket = length c.self.inside.journal.items; id = n; call = c.args.call })) c.id_of-id.ensures in
    let js : c.push_reserved.new.self.items ≡ c.self.inside.journal.items ++ Called c.args.by c.args.c (Some (length c.self.inside.journal.items)) c.args.call answer.Ok ∷ [] =
    c.push_reserved.ensures.items
    ∙ ap (λ (n : ℕ). c.self.inside.journal.items ++ Called c.args.by c.args.c (Some n) c.args.told answer.Ok ∷ []) long
    ∙ ap (λ (x : Call). c.self.inside.journal.items ++ Called c.args.by c.args.c (Some (length c.self.inside.journal.items)) x answer.Ok ∷ []) c.requires.same in
    accepted_next g.M.Meaning.value _ c.args.by c.args.c c.args.call c.place_at.result c.place_at.new.clients c.enqueue_reserved.new.self _ _ c.self.invariant
    (quiet_in g.M.Meaning.value _ _ c.self.view_is c.requires.quiet) (lives_in _ _ _ c.self.view_is c.requires.lives) c.requires.asks c.requires.fits
    (subst (λ (d : CoreState). IsFreeAt d.clients c.args.c.0) (sym c.self.view_is) c.requires.free)
    c.place_at.ensures.here c.place_at.ensures.others qs js
