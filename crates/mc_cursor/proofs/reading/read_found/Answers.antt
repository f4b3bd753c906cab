use Rattle.std.proofs.Common.{◌≡◌, ◌∙◌, length, arith}
use Rattle.mc_cursor.proofs.Windows.{found_read}
use Rattle.mc_cursor.proofs.reading.read_found.Goals as goal

pub returns-clause-value : goal.returns-clause-value
returns-clause-value g c = λ octets told le.
    let full : length c.read_full.new.buf ≡ 12 = omega (arith, c.read_full.auto.buf) in
    c.found_in_front.ensures.value ∙ found_read _ octets c.read_full.new.buf c.args.place c.in_ok-count.count full told c.in_ok-count.ensures.octets le
