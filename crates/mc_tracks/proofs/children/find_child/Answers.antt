use Rattle.std.proofs.Common.{rules, ◌+◌, ◌-◌, length, sym, ap, ◌∙◌, arith}
use Rattle.mc_tracks.specs.Children.{Children, children, first}
use Rattle.mc_tracks.proofs.Walk.{goes_on, breaks, ends, is_done, begins, first_here, first_later}
use Rattle.mc_tracks.proofs.children.find_child.Goals as goal

pub loop-init : goal.loop-init
loop-init c = record {
  within = omega arith;
  joined = ap (λ (cs : Children). first c.args.id cs.whole) (begins c.args.master c.args.body.now);
}

pub returns-then-place-body-clause-value : goal.returns-then-place-body-clause-value
returns-then-place-body-clause-value c =
    sym (ap (λ (cs : Children). first c.args.id cs.whole) (ends (length c.args.body.now) c.loop.counter c.loop.place c.args.master c.args.body.now c.if-place-body.true))
    ∙ c.loop.invariant.joined

pub returns-in_err-child-clause-value : goal.returns-in_err-child-clause-value
returns-in_err-child-clause-value c =
    let step = breaks (length c.args.body.now) c.loop.counter c.loop.place c.args.master c.args.body.now c.loop-test.true c.if-place-body.false (search rules) in
    search rules

pub returns-then-child-id-clause-value : goal.returns-then-child-id-clause-value
returns-then-child-id-clause-value c =
    let behind = children (length c.args.body.now - (c.loop.counter + 1)) c.args.master c.args.body.now c.in_ok-child.child.stop in
    let step = goes_on (length c.args.body.now) c.loop.counter c.loop.place c.args.master c.args.body.now c.in_ok-child.child c.loop-test.true c.if-place-body.false c.in_ok-child.ensures.value in
    sym (ap (λ (cs : Children). first c.args.id cs.whole) step ∙ first_here c.args.id c.in_ok-child.child behind.whole c.if-child-id.true)
    ∙ c.loop.invariant.joined

pub loop-preserved : goal.loop-preserved
loop-preserved c = record {
  within = omega (arith, c.in_ok-child.ensures.lies);
  joined =
      let behind = children (length c.args.body.now - (c.loop.counter + 1)) c.args.master c.args.body.now c.in_ok-child.child.stop in
      let step = goes_on (length c.args.body.now) c.loop.counter c.loop.place c.args.master c.args.body.now c.in_ok-child.child c.loop-test.true c.if-place-body.false c.in_ok-child.ensures.value in
      sym (ap (λ (cs : Children). first c.args.id cs.whole) step ∙ first_later c.args.id c.in_ok-child.child behind.whole c.if-child-id.false)
      ∙ c.loop.invariant.joined;
}

pub returns-clause-value : goal.returns-clause-value
returns-clause-value c =
    sym (ap (λ (cs : Children). first c.args.id cs.whole) (is_done (length c.args.body.now) c.loop.counter c.loop.place c.args.master c.args.body.now c.loop-test.false))
    ∙ c.loop.invariant.joined
