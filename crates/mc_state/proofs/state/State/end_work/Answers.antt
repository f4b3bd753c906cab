use Rattle.std.proofs.Common.{◌∷◌, ◌++◌, [], ◌∙◌, ap, sym, subst}
use Rattle.mc_ring.specs.declared.event.Event.{Event}
use Rattle.mc_player.specs.declared.record.CoreRecord.TheVariants.{Replied}
use Rattle.mc_state.specs.Replying.{IsEnd}
use Rattle.mc_state.proofs.Replied.{end_may, end_next, end_quiet, place_for}
use Rattle.mc_state.proofs.state.State.end_work.Goals as goal

pub reply_at-requires-clause-place : goal.reply_at-requires-clause-place
reply_at-requires-clause-place g c =
    let end = subst (IsEnd g.M.Meaning.value c.args.c c.args.ticket c.args.reply) (sym c.self.view_is) c.requires.end in
    place_for g.M.Meaning.value _ c.args.c c.args.ticket c.args.reply c.self.invariant
    (end_may g.M.Meaning.value _ c.args.c c.args.ticket c.args.reply c.self.invariant end)

pub invariant_of-self : goal.invariant_of-self
invariant_of-self g c =
    let end = subst (IsEnd g.M.Meaning.value c.args.c c.args.ticket c.args.reply) (sym c.self.view_is) c.requires.end in
    end_next g.M.Meaning.value _ c.args.by c.args.c c.args.ticket c.args.reply c.reply_at.new.clients _ _ c.self.invariant end
    c.reply_at.ensures.here c.reply_at.ensures.others
    (c.push_reserved.ensures.items ∙ ap (λ (e : Event). c.self.inside.journal.items ++ Replied c.args.by c.args.c c.args.ticket e ∷ []) c.requires.same)

pub returns-clause-quiet : goal.returns-clause-quiet
returns-clause-quiet g c =
    let q = end_quiet g.M.Meaning.value _ c.args.self.now c.args.by c.args.c c.args.ticket c.args.reply c.push_reserved.new.self.items c.self.view_is c.requires.end
    (c.push_reserved.ensures.items ∙ ap (λ (e : Event). c.self.inside.journal.items ++ Replied c.args.by c.args.c c.args.ticket e ∷ []) c.requires.same) in
    record { due = q.0; rest = q.1; reply = q.2 }
