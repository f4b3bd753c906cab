use Rattle.std.proofs.Common.{◌+◌, refl, arith}
use Rattle.std.specs.Prelude.{slice_range}
use Rattle.mc_cursor.proofs.Blocks.{front_read}
use Rattle.mc_cursor.proofs.Spans.{seen_child}
use Rattle.mc_cursor.proofs.Groups.{long}
use Rattle.mc_cursor.proofs.group.read_child.Goals as goal

pub returns-clause-value : goal.returns-clause-value
returns-clause-value g c = λ octets told within.
    let front = c.read_whole.new.buf in
    let at = c.args.at in
    let len = c.args.len in
    let read = front_read octets front _ (at + c.args.next) c.min.result 12 c.in_ok-read_whole.field-0 c.if-not-branch.false refl (omega (arith, c.min.ensures))
    (c.in_ok-read_whole.ensures.value octets told (omega (arith, within, c.requires.0))) in
    c.child_by_head.ensures.law (slice_range octets at (at + len)) (long octets at len within) (seen_child octets front at c.args.next len c.min.result c.requires.0 c.min.ensures read)
