use Rattle.std.proofs.Common.{◌∙◌, ap, None, [], ◌∷◌, ◌++◌}
use Rattle.mc_dispatch.specs.declared.call.Call.TheVariants as call
use Rattle.mc_player.specs.declared.record.Answer.{Answer}
use Rattle.mc_player.specs.declared.record.CoreRecord.TheVariants.{Called}
use Rattle.mc_state.proofs.Answered.{switched_next}
use Rattle.mc_state.proofs.Steps.{lives_in, quiet_in}
use Rattle.mc_state.proofs.state.State.switch.Goals as goal

pub invariant_of-self-2 : goal.invariant_of-self-2
invariant_of-self-2 g c =
    switched_next g.M.Meaning.value _ c.args.by c.args.c c.args.number c.args.on c.in_ok-done.done c.switch_at.new.clients _ _ c.self.invariant
    (quiet_in g.M.Meaning.value _ _ c.self.view_is c.requires.quiet) (lives_in _ _ _ c.self.view_is c.requires.lives)
    c.in_ok-done.ensures.here c.switch_at.ensures.others
    (c.push_reserved.ensures.items ∙ ap (λ (a : Answer). c.self.inside.journal.items ++ Called c.args.by c.args.c None (call.Event c.args.number c.args.on) a ∷ []) c.done_if.ensures)
