use Rattle.std.proofs.Common.{length}
use Rattle.mc_film.proofs.Searching.{no_head, found, not_whole, goes_on, is_done}
use Rattle.mc_film.proofs.opening.find_segment.Goals as goal

pub returns-in_default-clause-value : goal.returns-in_default-clause-value
returns-in_default-clause-value c =
    no_head (length c.args.octets.now) c.loop.counter c.args.octets.now c.loop.place c.in_default.field-0 _ c.loop-test.true c.in_default.ensures.value c.loop.invariant.1

pub returns-then-head-eq-SEGMENT-clause-value : goal.returns-then-head-eq-SEGMENT-clause-value
returns-then-head-eq-SEGMENT-clause-value c =
    rw c.body_end.ensures (found (length c.args.octets.now) c.loop.counter c.args.octets.now c.loop.place c.in-Ok.head _ c.loop-test.true c.in-Ok.ensures.value c.if-head-eq-SEGMENT.true c.loop.invariant.1)

pub returns-in-None-clause-value : goal.returns-in-None-clause-value
returns-in-None-clause-value c =
    not_whole (length c.args.octets.now) c.loop.counter c.args.octets.now c.loop.place c.in-Ok.head _ c.loop-test.true c.in-Ok.ensures.value c.if-head-eq-SEGMENT.false c.in-None.ensures.value c.loop.invariant.1

pub loop-preserved : goal.loop-preserved
loop-preserved c = (
  c.in-Some.ensures.lies.2,
  goes_on (length c.args.octets.now) c.loop.counter c.args.octets.now c.loop.place c.in-Ok.head c.in-Some.element _ c.loop-test.true c.in-Ok.ensures.value c.if-head-eq-SEGMENT.false c.in-Some.ensures.value c.loop.invariant.1,
)

pub returns-clause-value : goal.returns-clause-value
returns-clause-value c = is_done (length c.args.octets.now) c.loop.counter c.args.octets.now c.loop.place _ c.loop-test.false c.loop.invariant.1
