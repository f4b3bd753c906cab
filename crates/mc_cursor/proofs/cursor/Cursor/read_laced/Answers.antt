use Rattle.std.proofs.Common.{sym, ◌∙◌}
use Rattle.mc_walk.specs.Glances.{marked}
use Rattle.mc_cursor.specs.Spans.{octets_at, packets_at}
use Rattle.mc_cursor.proofs.Spans.{in_film, lace_long, laced_bad, laced_read}
use Rattle.mc_cursor.proofs.cursor.Cursor.read_laced.Goals as goal

pub returns-in_default-clause-value : goal.returns-in_default-clause-value
returns-in_default-clause-value g c = λ octets told time h.
    let span = c.args.span in
    let first = marked (packets_at octets c.args.self.now c.args.place time span) in
    laced_bad octets c.args.self.now c.args.place time span c.args.lace c.laced_mark.result h
    (c.in_default.ensures.law (octets_at octets span) first h.1 (lace_long octets span c.args.lace c.requires h.0)) c.laced_mark.ensures

pub returns-in-Some-2-clause-value : goal.returns-in-Some-2-clause-value
returns-in-Some-2-clause-value g c = λ octets told time h.
    let span = c.args.span in
    let first = marked (packets_at octets c.args.self.now c.args.place time span) in
    laced_read octets c.args.self.now c.args.place time span c.args.lace c.in-Some.sizes c.in-Some-2.good c.laced_mark-in-Some-2.result c.requires h
    (c.in-Some.ensures.law (octets_at octets span) first h.1 (lace_long octets span c.args.lace c.requires h.0))
    (sym c.in-Some-2.is ∙ c.in_ok-good.ensures.value octets told (in_film octets span.stop h.0)) c.laced_mark-in-Some-2.ensures
