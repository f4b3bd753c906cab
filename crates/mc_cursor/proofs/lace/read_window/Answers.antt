use Rattle.std.proofs.Common.{refl, arith}
use Rattle.mc_cursor.proofs.Blocks.{front_read}
use Rattle.mc_cursor.proofs.Spans.{part_few, window_on}
use Rattle.mc_cursor.proofs.lace.read_window.Goals as goal

pub returns-in-Some-clause-value : goal.returns-in-Some-clause-value
returns-in-Some-clause-value g c = λ octets told within.
    let front = c.read_whole.new.buf in
    let read = front_read octets front _ c.args.at c.min-size.result 256 c.in_ok-read_whole.field-0 c.if-not-branch.false refl (omega (arith, c.min-size.ensures))
    (c.in_ok-read_whole.ensures.value octets told (omega (arith, within, c.requires.order))) in
    window_on octets front c.args.at c.min-size.result c.args.stop c.in-Some.taken c.args.lace c.in-Some.lace c.requires.order (omega (arith, c.min-size.ensures)) within read
    c.in-Some.ensures.law (omega (arith, c.in-Some.ensures.within, c.min-size.ensures, part_few octets front c.args.at c.min-size.result read))
