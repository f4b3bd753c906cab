use Rattle.std.proofs.Common.{rules, arith, vec_len, ◌≡◌, ◌+◌, ◌-◌, ◌≤◌, length, ap, None}
use Rattle.std.specs.Vec.{vec_capacity}
use Rattle.mc_ring.specs.declared.event.Event.{Event}
use Rattle.mc_dispatch.specs.declared.call.Call.TheVariants as call
use Rattle.mc_player.specs.declared.record.Answer.TheVariants as answer
use Rattle.mc_player.specs.declared.record.CoreRecord.TheVariants.{Called}
use Rattle.mc_state.proofs.Answered.{polled_next, same_event}
use Rattle.mc_state.proofs.Steps.{lives_in, quiet_in, wrote_here}
use Rattle.mc_state.proofs.state.State.poll.Goals as goal

pub invariant_of-self-2 : goal.invariant_of-self-2
invariant_of-self-2 g c =
    polled_next g.M.Meaning.value _ c.args.by c.args.c c.poll_at.new.clients c.in_ok-told.told c.in_ok-event.event _ _ c.self.invariant
    (quiet_in g.M.Meaning.value _ _ c.self.view_is c.requires.quiet) (lives_in _ _ _ c.self.view_is c.requires.lives)
    (record { next = c.in_ok-told.ensures; here = c.in_ok-event.ensures.here; fresh = c.poll_at.ensures.fresh; others = c.poll_at.ensures.others })
    c.push_reserved.ensures.items

pub returns-clause-ok : goal.returns-clause-ok
returns-clause-ok g c =
    let room : vec_capacity c.self.inside.journal - length c.self.inside.journal.items ≤ vec_capacity c.push_reserved.new.self - length c.push_reserved.new.self.items + 1 =
    let long : vec_len c.self.inside.journal ≡ length c.self.inside.journal.items = search rules in
    let longer : vec_len c.push_reserved.new.self ≡ length c.push_reserved.new.self.items = search rules in
    let len = c.push_reserved.ensures.len in
    let capacity = c.push_reserved.ensures.capacity in
    omega arith in
    wrote_here c.args.self.now _ c.poll_at.new.clients (Called c.args.by c.args.c None call.Poll (answer.Event c.in_ok-told.told)) (Called c.args.by c.args.c None call.Poll (answer.Event c.in_ok-event.event)) _ _
    c.self.view_is
    (ap (λ (e : Event). Called c.args.by c.args.c None call.Poll (answer.Event e)) (same_event g.M.Meaning.value c.self.inside.table c.self.inside.facts c.self.inside.clients c.poll_at.new.clients c.args.c.0 c.in_ok-told.told c.in_ok-event.event
    (lives_in _ _ _ c.self.view_is c.requires.lives)
    (record { next = c.in_ok-told.ensures; here = c.in_ok-event.ensures.here; fresh = c.poll_at.ensures.fresh; others = c.poll_at.ensures.others })))
    c.push_reserved.ensures.items room
