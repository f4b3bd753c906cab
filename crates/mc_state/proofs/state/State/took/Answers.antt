use Rattle.std.proofs.Common.{ℕ, List, sym, subst}
use Rattle.mc_dispatch.specs.declared.request.ClientNo.{ClientNo}
use Rattle.mc_deeds.specs.Changes.{deed_mask}
use Rattle.mc_deeds.specs.Flags.{AreFlagged}
use Rattle.mc_state.specs.Taking.{IsNext}
use Rattle.mc_state.proofs.Taken.{took_next}
use Rattle.mc_state.proofs.state.State.took.Goals as goal

pub invariant_of-self : goal.invariant_of-self
invariant_of-self g c =
    let flagged : AreFlagged g.M.Meaning.value c.self.inside.table c.self.inside.facts (deed_mask c.args.deed) c.self.inside.order.items c.self.inside.clients c.flag_all.new.clients =
    subst (λ (m : ℕ). AreFlagged g.M.Meaning.value c.self.inside.table c.self.inside.facts m c.self.inside.order.items c.self.inside.clients c.flag_all.new.clients) c.deed_mask-mask.ensures
    (subst (λ (xs : List ClientNo). AreFlagged g.M.Meaning.value c.self.inside.table c.self.inside.facts c.deed_mask-mask.result xs c.self.inside.clients c.flag_all.new.clients) c.deref.ensures.value
    c.flag_all.ensures.flagged) in
    took_next g.M.Meaning.value _ c.args.by c.args.c c.args.ticket c.args.id c.args.deed c.flag_all.new.clients _ _ _ _ _ _ c.self.invariant
    (subst (IsNext g.M.Meaning.value c.args.c c.args.ticket c.args.id c.args.deed) (sym c.self.view_is) c.requires.next) flagged
    c.apply.ensures c.take.ensures.after c.take.ensures.value c.quits-self-inside.ensures c.push_reserved.ensures.items
