use Rattle.std.proofs.Common.{ℕ, Option, length, ap, subst}
use Rattle.mc_deeds.specs.Closes.{Ends, IsAfter}
use Rattle.mc_dispatch.specs.declared.request.Request.{Request}
use Rattle.mc_player.specs.declared.deed.Deed.{Deed}
use Rattle.mc_props.specs.declared.facts.Facts.{Facts}
use Rattle.mc_state.specs.Stands.{CoreState}
use Rattle.mc_core.proofs.Done.{after_due, done_adds, done_due, ends_now}
use Rattle.mc_core.proofs.doing.done.Goals as goal

pub follow-requires-clause-due : goal.follow-requires-clause-due
follow-requires-clause-due g c =
    after_due g.M.Meaning.value c.args.by c.args.outcome c.in_ok-effects.effects c.make_room_for_all.new.self c.did.new.self c.stands.ensures
    (subst (λ (f : Facts). IsAfter f (length c.make_room_for_all.new.self.order) c.args.outcome c.in_ok-effects.effects) c.facts.ensures
    (subst (λ (n : ℕ). IsAfter c.facts.result.now n c.args.outcome c.in_ok-effects.effects) c.count.ensures c.in_ok-effects.ensures))
    c.did.ensures.wrote c.did.ensures.order

pub finish-requires-clause-ends : goal.finish-requires-clause-ends
finish-requires-clause-ends g c =
    ends_now g.M.Meaning.value c.args.by c.args.outcome c.args.state.now c.make_room_for_all.new.self c.did.new.self c.follow.new.state c.in_ok-end.end c.requires.quiet
    (record { begun = ap (λ (s : CoreState). s.journal) c.make_room_for_all.ensures.same; did = c.did.ensures.wrote; work = c.did.ensures.work; none = c.did.ensures.none; news = c.follow.ensures.adds; same = c.follow.ensures.within.same })
    (subst (λ (w : Option Request). Ends c.args.outcome w c.make_room_for_all.new.self.deed c.in_ok-end.end) c.work.ensures
    (subst (λ (d : Deed). Ends c.args.outcome c.work.result.now d c.in_ok-end.end) c.deed.ensures c.in_ok-end.ensures))
    c.follow.ensures.none

pub finish-requires-clause-due : goal.finish-requires-clause-due
finish-requires-clause-due g c =
    done_due g.M.Meaning.value c.args.by c.args.outcome c.args.state.now c.make_room_for_all.new.self c.did.new.self c.follow.new.state c.requires.quiet
    (record { begun = ap (λ (s : CoreState). s.journal) c.make_room_for_all.ensures.same; did = c.did.ensures.wrote; work = c.did.ensures.work; none = c.did.ensures.none; news = c.follow.ensures.adds; same = c.follow.ensures.within.same })

pub returns-clause-adds : goal.returns-clause-adds
returns-clause-adds g c =
    done_adds c.args.by c.args.outcome c.args.state.now c.make_room_for_all.new.self c.did.new.self c.follow.new.state c.finish.new.state
    (record { begun = ap (λ (s : CoreState). s.journal) c.make_room_for_all.ensures.same; did = c.did.ensures.wrote; work = c.did.ensures.work; none = c.did.ensures.none; news = c.follow.ensures.adds; same = c.follow.ensures.within.same })
    c.finish.ensures.adds
