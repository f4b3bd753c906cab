use Rattle.std.proofs.Common.{◌≡◌, ap, ◌∙◌}
use Rattle.mc_dispatch.specs.Queue.{is_of}
use Rattle.mc_player.specs.Journals.{unless}
use Rattle.mc_state.proofs.Coming.{destroyed_next}
use Rattle.mc_state.proofs.Steps.{lives_in, quiet_in}
use Rattle.mc_state.proofs.state.State.take_out.Goals as goal

pub invariant_of-self : goal.invariant_of-self
invariant_of-self g c =
    let ws : c.unless_of.result ≡ unless (is_of c.args.c) c.self.inside.work = c.unless_of.ensures ∙ ap (unless (is_of c.args.c)) c.take.ensures.value in
    destroyed_next g.M.Meaning.value _ c.args.by c.args.c c.try_remove.new.self c.without.new.order.items c.drop_client.new.self c.unless_of.result _ _
    c.self.invariant (quiet_in g.M.Meaning.value _ _ c.self.view_is c.requires.quiet) (lives_in _ _ _ c.self.view_is c.requires.lives)
    c.try_remove.ensures.updates c.without.ensures c.drop_client.ensures.after ws c.push_reserved.ensures.items
