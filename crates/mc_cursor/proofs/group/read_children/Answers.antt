use Rattle.std.proofs.Common.{◌<◌, ◌≤◌, sym, ◌∙◌, arith}
use Rattle.mc_block.proofs.Found.{kept}
use Rattle.mc_cursor.proofs.Spans.{reads_none, reads_more, told_after}
use Rattle.mc_cursor.proofs.Groups.{group_begins, group_goes_on, group_breaks, group_ends, group_is_done}
use Rattle.mc_cursor.proofs.group.read_children.Goals as goal

pub loop-init : goal.loop-init
loop-init g c = record {
  later = omega arith;
  kept = reads_none _ _ _ _;
  within = omega arith;
  lies = rw c.new-found.ensures tt;
  told = λ octets told within. rw c.new-found.ensures (group_begins octets c.args.at c.args.len within);
}

pub returns-then-next-len-clause-value : goal.returns-then-next-len-clause-value
returns-then-next-len-clause-value g c = λ octets told within.
    group_ends octets c.args.at c.args.len c.loop.counter c.loop.next c.loop.found within c.if-next-len.true (c.loop.invariant.told octets told within)

pub returns-in_default-clause-value : goal.returns-in_default-clause-value
returns-in_default-clause-value g c = λ octets told within.
    let told' = told_after _ _ _ _ _ _ _ c.args.file.0 octets c.loop.invariant.kept told in
    group_breaks octets c.args.at c.args.len c.loop.counter c.loop.next c.loop.found within c.loop-test.true c.if-next-len.false
    (sym c.in_default.is ∙ c.in_ok-child.ensures.value octets told' within) (c.loop.invariant.told octets told within)

pub loop-preserved : goal.loop-preserved
loop-preserved g c =
    let inv = c.loop.invariant in
    let child = c.in-Some.child in
    let lies : (c.loop.next < child.at) × (child.at ≤ child.stop) × (child.stop ≤ c.args.len) = rw c.in-Some.is at c.in_ok-child.ensures.lies in
    record {
      later = omega (arith, inv.later, c.read_child.ensures.cause.later);
      kept = reads_more _ _ _ _ _ _ _ _ _ _ _ inv.kept c.read_child.ensures.kept (omega arith);
      within = omega (arith, lies);
      lies = rw c.with-found.ensures (kept c.loop.found child c.args.len inv.lies (omega (arith, lies)) (omega (arith, lies)));
      told = λ octets told within.
          let told' = told_after _ _ _ _ _ _ _ c.args.file.0 octets inv.kept told in
          rw c.with-found.ensures (group_goes_on octets c.args.at c.args.len c.loop.counter c.loop.next c.loop.found child within c.loop-test.true c.if-next-len.false
          (sym c.in-Some.is ∙ c.in_ok-child.ensures.value octets told' within) (inv.told octets told within));
    }

pub returns-clause-value : goal.returns-clause-value
returns-clause-value g c = λ octets told within.
    group_is_done octets c.args.at c.args.len c.loop.counter c.loop.next c.loop.found c.loop-test.false (c.loop.invariant.told octets told within)
