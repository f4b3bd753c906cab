use Rattle.std.proofs.Common.{◌≡◌, ◌∙◌, sym, refl, false, arith}
use Rattle.mc_cursor.specs.Reads.{ends_before}
use Rattle.mc_cursor.proofs.Stepping.{content_kept}
use Rattle.mc_cursor.proofs.Blocks.{front_read, part_in_film}
use Rattle.mc_cursor.proofs.Spans.{glance_at}
use Rattle.mc_cursor.proofs.cursor.Cursor.read_glance.Goals as goal

pub returns-clause-value : goal.returns-clause-value
returns-clause-value g c = λ octets told within.
    let span = c.args.span in
    let front = c.read_whole.new.buf in
    let read = front_read octets front _ span.at c.min-size.result 12 c.in_ok-read_whole.field-0 c.if-not-branch.false refl (omega (arith, c.min-size.ensures)) (c.in_ok-read_whole.ensures.value octets told within) in
    let told' = content_kept _ _ _ _ _ _ _ c.args.self.now.file.0 c.read_whole.ensures.kept ∙ told in
    let whole : ends_before octets span.stop ≡ false = sym (c.in_ok-read_ends_before.ensures.value octets told' (part_in_film octets front span.at _ read)) ∙ c.if-branch.false in
    glance_at octets c.args.self.now c.args.place c.args.time span c.block_glance.result c.min-size.result front _ c.requires c.min-size.ensures read refl whole c.block_glance.ensures.law
