use Rattle.std.proofs.Common.{rules, arith, vec_len, ◌+◌, ◌-◌, ◌≤◌, ◌≡◌, List, length, sym, subst, ap, ◌∙◌}
use Rattle.std.specs.Vec.{vec_capacity}
use Rattle.mc_dispatch.specs.declared.request.Request.{Request}
use Rattle.mc_state.specs.Stands.{CoreState}
use Rattle.mc_state.proofs.Replied.{aborted_drained, aborted_next}
use Rattle.mc_state.proofs.Steps.{lives_in, quiet_in}
use Rattle.mc_state.proofs.state.State.aborted.Goals as goal

pub invariant_of-self-2 : goal.invariant_of-self-2
invariant_of-self-2 g c =
    aborted_next g.M.Meaning.value _ c.args.by c.args.c c.args.id c.len.result c.abort.new.self _ _ c.self.invariant
    (quiet_in g.M.Meaning.value _ _ c.self.view_is c.requires.quiet) (lives_in _ _ _ c.self.view_is c.requires.lives)
    (c.len.ensures ∙ ap (λ (qs : List Request). length qs) c.in_ok-removed.ensures.removed) c.in_ok-removed.ensures.after c.push_reserved.ensures.items

pub returns-clause-drained : goal.returns-clause-drained
returns-clause-drained g c =
    let room = subst (λ (d : CoreState). length d.queue.requests + 1 ≤ d.spare) (sym c.self.view_is) c.requires.room in
    let spare : vec_capacity c.self.inside.journal - length c.self.inside.journal.items ≤ vec_capacity c.push_reserved.new.self - length c.push_reserved.new.self.items + 1 =
    let long : vec_len c.self.inside.journal ≡ length c.self.inside.journal.items = search rules in
    let longer : vec_len c.push_reserved.new.self ≡ length c.push_reserved.new.self.items = search rules in
    let len = c.push_reserved.ensures.len in
    let capacity = c.push_reserved.ensures.capacity in
    omega arith in
    aborted_drained g.M.Meaning.value _ c.args.by c.args.c c.args.id c.len.result c.in_ok-removed.removed c.abort.new.self c.push_reserved.new.self.items (vec_capacity c.push_reserved.new.self - length c.push_reserved.new.self.items)
    c.self.invariant (quiet_in g.M.Meaning.value _ _ c.self.view_is c.requires.quiet) c.in_ok-removed.ensures.removed c.push_reserved.ensures.items room spare
