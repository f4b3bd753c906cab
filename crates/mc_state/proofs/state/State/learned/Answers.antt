use Rattle.std.proofs.Common.{List, [], ◌∷◌, ◌++◌, ◌∙◌, ap, refl, subst}
use Rattle.mc_packet.specs.declared.cache.CacheView.{CacheView}
use Rattle.mc_dispatch.specs.declared.request.ClientNo.{ClientNo}
use Rattle.mc_player.specs.declared.record.CoreRecord.TheVariants.{Learned}
use Rattle.mc_deeds.specs.Flags.{AreFlagged}
use Rattle.mc_state.proofs.Changed.{learned_next}
use Rattle.mc_state.proofs.Steps.{quiet_in}
use Rattle.mc_state.proofs.state.State.learned.Goals as goal

pub invariant_of-self : goal.invariant_of-self
invariant_of-self g c =
    let flagged : AreFlagged g.M.Meaning.value c.self.inside.table c.self.inside.facts 16 c.self.inside.order.items c.self.inside.clients c.flag_all.new.clients =
    subst (λ (xs : List ClientNo). AreFlagged g.M.Meaning.value c.self.inside.table c.self.inside.facts 16 xs c.self.inside.clients c.flag_all.new.clients) c.deref.ensures.value
    c.flag_all.ensures.flagged in
    learned_next g.M.Meaning.value _ c.args.by c.args.view c.flag_all.new.clients _ _ _ _
    c.self.invariant (quiet_in g.M.Meaning.value _ _ c.self.view_is c.requires.quiet) flagged refl c.still_due-self-inside.ensures
    (c.push_reserved.ensures.items ∙ ap (λ (v : CacheView). c.self.inside.journal.items ++ Learned c.args.by v ∷ []) c.requires.same)
