use Rattle.std.proofs.Common.{length}
use Rattle.mc_film.proofs.Searching.{no_child, found_child, other_child, no_more}
use Rattle.mc_film.proofs.opening.find_first.Goals as goal

pub returns-in_err-child-clause-value : goal.returns-in_err-child-clause-value
returns-in_err-child-clause-value c =
    rw c.from_residual.ensures (no_child (length c.args.octets.now) c.loop.counter c.args.octets.now c.args.segment.end c.loop.place c.args.id _ c.loop-test.true c.in_err-child.ensures.value c.loop.invariant.1)

pub returns-then-child-id-clause-value : goal.returns-then-child-id-clause-value
returns-then-child-id-clause-value c =
    found_child (length c.args.octets.now) c.loop.counter c.args.octets.now c.args.segment.end c.loop.place c.args.id c.in_ok-child.child _ c.loop-test.true c.in_ok-child.ensures.value c.if-child-id.true c.loop.invariant.1

pub loop-preserved : goal.loop-preserved
loop-preserved c = (
  c.in_ok-child.ensures.lies.2,
  other_child (length c.args.octets.now) c.loop.counter c.args.octets.now c.args.segment.end c.loop.place c.args.id c.in_ok-child.child _ c.loop-test.true c.in_ok-child.ensures.value c.if-child-id.false c.loop.invariant.1,
)

pub returns-clause-value : goal.returns-clause-value
returns-clause-value c = no_more (length c.args.octets.now) c.loop.counter c.args.octets.now c.args.segment.end c.loop.place c.args.id _ c.loop-test.false c.loop.invariant.1
