use Rattle.std.proofs.Common.{arith, ◌∙◌, length}
use Rattle.mc_block.proofs.Found.{begins, goes_on, breaks, ends, is_done, kept}
use Rattle.mc_block.proofs.group.read_children.Goals as goal

pub loop-init : goal.loop-init
loop-init c = record {
  within = omega arith;
  lies = rw c.new-found.ensures tt;
  joined = rw c.new-found.ensures (begins c.args.octets.now);
}

pub returns-then-at-octets-clause-value : goal.returns-then-at-octets-clause-value
returns-then-at-octets-clause-value c = ends c.loop.found (length c.args.octets.now) c.loop.counter c.loop.at c.args.octets.now _ c.if-at-octets.true c.loop.invariant.joined

pub returns-in_err-child-clause-value : goal.returns-in_err-child-clause-value
returns-in_err-child-clause-value c =
    c.from_residual.ensures
    ∙ breaks c.loop.found (length c.args.octets.now) c.loop.counter c.loop.at c.args.octets.now _ c.loop-test.true c.if-at-octets.false
    c.in_err-child.ensures.value c.loop.invariant.joined

pub loop-preserved : goal.loop-preserved
loop-preserved c =
    let found = c.with-found.ensures in
    let child = c.in_ok-child.child in
    let lies = c.in_ok-child.ensures.lies in
    record {
      within = omega (arith, lies);
      lies = rw found (kept c.loop.found child (length c.args.octets.now) c.loop.invariant.lies (omega (arith, lies)) (omega (arith, lies)));
      joined = rw found (goes_on c.loop.found (length c.args.octets.now) c.loop.counter c.loop.at c.args.octets.now child _ c.loop-test.true
          c.if-at-octets.false c.in_ok-child.ensures.value c.loop.invariant.joined);
    }

pub returns-clause-value : goal.returns-clause-value
returns-clause-value c = is_done c.loop.found (length c.args.octets.now) c.loop.counter c.loop.at c.args.octets.now _ c.loop-test.false c.loop.invariant.joined
