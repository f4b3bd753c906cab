use Rattle.std.proofs.Common.{length, sym, ap, ◌∙◌, arith}
use Rattle.mc_tracks.specs.Children.{Children}
use Rattle.mc_tracks.proofs.Walk.{goes_on, breaks, ends, is_done, begins}
use Rattle.mc_tracks.proofs.children.find_broken.Goals as goal

pub loop-init : goal.loop-init
loop-init c = record {
  within = omega arith;
  joined = ap (λ (cs : Children). cs.broken) (begins c.args.master c.args.body.now);
}

pub returns-then-place-body-clause-value : goal.returns-then-place-body-clause-value
returns-then-place-body-clause-value c =
    sym (ap (λ (cs : Children). cs.broken) (ends (length c.args.body.now) c.loop.counter c.loop.place c.args.master c.args.body.now c.if-place-body.true))
    ∙ c.loop.invariant.joined

pub returns-in_default-clause-value : goal.returns-in_default-clause-value
returns-in_default-clause-value c =
    sym (ap (λ (cs : Children). cs.broken) (breaks (length c.args.body.now) c.loop.counter c.loop.place c.args.master c.args.body.now c.loop-test.true c.if-place-body.false (sym c.in_default.is ∙ c.read_child.ensures.value)))
    ∙ c.loop.invariant.joined

pub loop-preserved : goal.loop-preserved
loop-preserved c = record {
  within = omega (arith, c.in-Some.ensures.lies);
  joined = sym (ap (λ (cs : Children). cs.broken) (goes_on (length c.args.body.now) c.loop.counter c.loop.place c.args.master c.args.body.now c.in-Some.child c.loop-test.true c.if-place-body.false c.in-Some.ensures.value))
      ∙ c.loop.invariant.joined;
}

pub returns-clause-value : goal.returns-clause-value
returns-clause-value c =
    sym (ap (λ (cs : Children). cs.broken) (is_done (length c.args.body.now) c.loop.counter c.loop.place c.args.master c.args.body.now c.loop-test.false))
    ∙ c.loop.invariant.joined
