use Rattle.std.proofs.Common.{◌≡◌, ◌+◌, ◌<◌, ◌≤◌, max, ◌∙◌, sym, arith}
use Rattle.mc_cursor.proofs.Chunks.{keeps_more, told_later}
use Rattle.mc_cursor.proofs.Finding.{no_child, is_child, next_child}
use Rattle.mc_cursor.proofs.opening.find_first.Goals as goal

pub returns-in_default-clause-value : goal.returns-in_default-clause-value
returns-in_default-clause-value g c = λ octets told within.
    let inv = c.loop-child.invariant.told octets told within in
    let told' = told_later _ _ _ _ _ _ c.args.file.0 octets c.loop-child.invariant.kept told in
    let one = sym c.in_default.is ∙ c.in_ok-child.ensures.value octets told' inv.0 in
    sym (no_child octets c.args.segment.end c.loop-child.place c.args.id inv.0 one) ∙ inv.1

pub returns-then-child-id-clause-value : goal.returns-then-child-id-clause-value
returns-then-child-id-clause-value g c = λ octets told within.
    let inv = c.loop-child.invariant.told octets told within in
    let told' = told_later _ _ _ _ _ _ c.args.file.0 octets c.loop-child.invariant.kept told in
    let one = sym c.in-Some.is ∙ c.in_ok-child.ensures.value octets told' inv.0 in
    sym (is_child octets c.args.segment.end c.loop-child.place c.args.id c.in-Some.child inv.0 one c.if-child-id.true) ∙ inv.1

pub loop-child-preserved : goal.loop-child-preserved
loop-child-preserved g c =
    let order : (c.in-Some.child.place ≡ c.loop-child.place) × (c.loop-child.place < c.in-Some.child.at) × (c.in-Some.child.at ≤ c.in-Some.child.stop) =
    rw c.in-Some.is at c.in_ok-child.ensures.order in
    let near : g.S.Shelf.reach c.read_segment_child.new.shelf ≤ max (g.S.Shelf.reach c.loop-child.shelf) (c.in-Some.child.stop + 12) =
    rw c.in-Some.is at c.in_ok-child.ensures.near in
    record {
      later = omega (arith, c.read_segment_child.ensures.cause.later);
      kept = keeps_more _ _ _ _ _ _ _ _ _ c.loop-child.invariant.kept c.read_segment_child.ensures.kept;
      onward = omega (arith, c.loop-child.invariant.onward, order.1, order.2);
      near = omega (arith, c.loop-child.invariant.near, near, order.1, order.2);
      told = λ octets told within.
          let inv = c.loop-child.invariant.told octets told within in
          let told' = told_later _ _ _ _ _ _ c.args.file.0 octets c.loop-child.invariant.kept told in
          let one = sym c.in-Some.is ∙ c.in_ok-child.ensures.value octets told' inv.0 in
          let on = next_child octets c.args.segment.end c.loop-child.place c.args.id c.in-Some.child inv.0 one c.if-child-id.false in
          (on.0, sym on.1 ∙ inv.1);
    }
