use Rattle.std.proofs.Common.{◌≡◌, ◌+◌, ◌-◌, ◌≤◌, sym, ◌∙◌, arith}
use Rattle.mc_cursor.proofs.Spans.{told_after, in_film, group_bad, group_none, group_some}
use Rattle.mc_cursor.proofs.cursor.Cursor.find_in_group.Goals as goal

pub returns-in_default-clause-value : goal.returns-in_default-clause-value
returns-in_default-clause-value g c = λ octets told within.
    let group = c.args.group in
    let whole = sym (c.in_ok-read_ends_before.ensures.value octets told within) ∙ c.if-branch.false in
    let told' = told_after _ _ _ _ _ _ _ c.args.self.now.file.0 octets c.read_ends_before.ensures.kept told in
    let end : group.at + (group.stop - group.at) ≡ group.stop = omega (arith, c.requires.order) in
    let read = rw end at (c.in_ok-found.ensures.value octets told' (omega (arith, end, in_film octets group.stop whole))) in
    group_bad octets c.args.self.now c.args.place group c.requires.role c.requires.order.1 whole (sym c.in_default.is ∙ read)

pub returns-in_default-block-clause-value : goal.returns-in_default-block-clause-value
returns-in_default-block-clause-value g c = λ octets told within.
    let group = c.args.group in
    let whole = sym (c.in_ok-read_ends_before.ensures.value octets told within) ∙ c.if-branch.false in
    let told' = told_after _ _ _ _ _ _ _ c.args.self.now.file.0 octets c.read_ends_before.ensures.kept told in
    let end : group.at + (group.stop - group.at) ≡ group.stop = omega (arith, c.requires.order) in
    let read = rw end at (c.in_ok-found.ensures.value octets told' (omega (arith, end, in_film octets group.stop whole))) in
    group_none octets c.args.self.now c.args.place group c.in-Some.found c.requires.role c.requires.order.1 whole (sym c.in-Some.is ∙ read) c.in_default-block.is

pub returns-clause-value : goal.returns-clause-value
returns-clause-value g c = λ octets told within.
    let group = c.args.group in
    let block = c.in-Some-block.block in
    let whole = sym (c.in_ok-read_ends_before.ensures.value octets told within) ∙ c.if-branch.false in
    let told' = told_after _ _ _ _ _ _ _ c.args.self.now.file.0 octets c.read_ends_before.ensures.kept told in
    let end : group.at + (group.stop - group.at) ≡ group.stop = omega (arith, c.requires.order) in
    let read = rw end at (c.in_ok-found.ensures.value octets told' (omega (arith, end, in_film octets group.stop whole))) in
    let lies : (block.at ≤ block.stop) × (block.stop ≤ group.stop - group.at) = rw (c.in-Some.is, c.in-Some-block.is) at c.in_ok-found.ensures.lies in (
      omega (arith, lies, in_film octets group.stop whole, c.requires.order),
      group_some octets c.args.self.now c.args.place group c.in-Some.found block c.requires.role c.requires.order.1 whole (sym c.in-Some.is ∙ read) c.in-Some-block.is c.requires.order.0 lies.0 lies.1,
    )
