use Rattle.std.proofs.Common.{◌≡◌, ◌<◌, ◌≤◌, max, ◌∙◌, sym, arith}
use Rattle.mc_cursor.proofs.Chunks.{keeps_more, keeps_read, told_later}
use Rattle.mc_cursor.proofs.Stepping.{content_kept}
use Rattle.mc_cursor.proofs.Finding.{none_found, segment_found, segment_within, cut_found, skipped_found, found_in_film}
use Rattle.mc_cursor.proofs.opening.find_segment.Goals as goal

pub returns-in_default-clause-value : goal.returns-in_default-clause-value
returns-in_default-clause-value g c = λ octets told from_le.
    let inv = c.loop-found.invariant.told octets told from_le in
    let told' = told_later _ _ _ _ _ _ c.args.file.0 octets c.loop-found.invariant.kept told in
    let is = c.in_ok-found.ensures.value octets told' inv.0 in
    sym inv.1 ∙ none_found octets c.loop-found.place c.in_ok-found.found is (sym c.in_default.is ∙ c.head_found.ensures)

pub returns-then-head-eq-SEGMENT-clause-value : goal.returns-then-head-eq-SEGMENT-clause-value
returns-then-head-eq-SEGMENT-clause-value g c = λ octets told from_le.
    let inv = c.loop-found.invariant.told octets told from_le in
    let told' = told_later _ _ _ _ _ _ c.args.file.0 octets c.loop-found.invariant.kept told in
    let is = c.in_ok-found.ensures.value octets told' inv.0 in
    rw c.body_end.ensures (sym inv.1 ∙ segment_found octets c.loop-found.place c.in_ok-found.found c.in-Some.head is (sym c.in-Some.is ∙ c.head_found.ensures) inv.0 c.if-head-eq-SEGMENT.true)

pub returns-in-None-clause-value : goal.returns-in-None-clause-value
returns-in-None-clause-value g c = λ octets told from_le.
    let inv = c.loop-found.invariant.told octets told from_le in
    let told' = told_later _ _ _ _ _ _ c.args.file.0 octets c.loop-found.invariant.kept told in
    let is = c.in_ok-found.ensures.value octets told' inv.0 in
    let told'' = content_kept _ _ _ _ _ _ _ c.args.file.0 c.read_found.ensures.kept ∙ told' in
    let one = sym c.in-None.is ∙ c.in_ok-element.ensures.value octets told'' (found_in_film octets c.loop-found.place c.in_ok-found.found is inv.0) in
    sym inv.1 ∙ cut_found octets c.loop-found.place c.in_ok-found.found c.in-Some.head is (sym c.in-Some.is ∙ c.head_found.ensures) inv.0 c.if-head-eq-SEGMENT.false one

pub loop-found-preserved : goal.loop-found-preserved
loop-found-preserved g c =
    let order : (c.in-Some-2.element.place ≡ c.loop-found.place) × (c.loop-found.place < c.in-Some-2.element.at) × (c.in-Some-2.element.at ≤ c.in-Some-2.element.stop) =
    rw c.in-Some-2.is at c.in_ok-element.ensures.order in
    let near : g.S.Shelf.reach c.read_element_at.new.shelf ≤ max (g.S.Shelf.reach c.read_found.new.shelf) c.in-Some-2.element.stop =
    rw c.in-Some-2.is at c.in_ok-element.ensures.near in
    record {
      later = omega (arith, c.read_found.ensures.cause.later, c.read_element_at.ensures.cause.later);
      kept = keeps_more _ _ _ _ _ _ _ _ _ c.loop-found.invariant.kept (keeps_more _ _ _ _ _ _ _ _ _ (keeps_read _ _ _ _ _ _ _ c.read_found.ensures.kept) c.read_element_at.ensures.kept);
      onward = omega (arith, c.loop-found.invariant.onward, order.1, order.2);
      near = omega (arith, c.loop-found.invariant.near, c.read_found.ensures.kept.within, near, order.1, order.2);
      told = λ octets told from_le.
          let inv = c.loop-found.invariant.told octets told from_le in
          let told' = told_later _ _ _ _ _ _ c.args.file.0 octets c.loop-found.invariant.kept told in
          let is = c.in_ok-found.ensures.value octets told' inv.0 in
          let told'' = content_kept _ _ _ _ _ _ _ c.args.file.0 c.read_found.ensures.kept ∙ told' in
          let one = sym c.in-Some-2.is ∙ c.in_ok-element.ensures.value octets told'' (found_in_film octets c.loop-found.place c.in_ok-found.found is inv.0) in
          let on = skipped_found octets c.loop-found.place c.in_ok-found.found c.in-Some.head c.in-Some-2.element is (sym c.in-Some.is ∙ c.head_found.ensures) inv.0 c.if-head-eq-SEGMENT.false one in
          (on.0, sym on.1 ∙ inv.1);
    }

pub returns-then-head-eq-SEGMENT-clause-within : goal.returns-then-head-eq-SEGMENT-clause-within
returns-then-head-eq-SEGMENT-clause-within g c = λ octets told from_le.
    let inv = c.loop-found.invariant.told octets told from_le in
    let told' = told_later _ _ _ _ _ _ c.args.file.0 octets c.loop-found.invariant.kept told in
    let is = c.in_ok-found.ensures.value octets told' inv.0 in
    segment_within octets c.loop-found.place c.in_ok-found.found c.in-Some.head is (sym c.in-Some.is ∙ c.head_found.ensures) inv.0
