use Rattle.std.proofs.Common.{rules, ◌≡◌, ◌-◌, ◌∷◌, true, false, drop, sym, ◌∙◌, arith}
use Rattle.std.specs.Prelude.{nat_lt}
use Rattle.std.proofs.lemmas.Bool.Decides.{nat_tests}
use Rattle.mc_block.proofs.Laced.{octet_read, octet_refused}
use Rattle.mc_block.proofs.lace_reader.LaceReader.read_octet.Goals as goal

pub returns-in_err-lace-clause-law : goal.returns-in_err-lace-clause-law
returns-in_err-lace-clause-law c = λ octets long cut.
    let first : c.args.front.now ≡ c.in_ok-octet.field-0.now ∷ drop 1 c.args.front.now = search rules in
    rw c.from_residual-in_err-lace.ensures (octet_refused c.args.self c.args.front.now octets c.in_ok-octet.field-0.now c.args.left c.requires.wanted c.requires.lacing first cut long
    (sym c.in_err-lace.was ∙ c.claim.ensures.value))

pub returns-then-octet-lt255-clause-law : goal.returns-then-octet-lt255-clause-law
returns-then-octet-lt255-clause-law c = λ octets long cut.
    let first : c.args.front.now ≡ c.in_ok-octet.field-0.now ∷ drop 1 c.args.front.now = search rules in
    let ends : nat_lt c.in_ok-octet.field-0.now 255 ≡ true = grind (arith, nat_tests, c.if-octet-lt255.true) in
    rw ends at (octet_read c.args.self c.in_ok-lace.lace c.args.front.now octets c.in_ok-octet.field-0.now (c.args.left - 1) c.requires.wanted c.requires.lacing first cut
    (sym c.in_ok-lace.was ∙ c.claim.ensures.value))

pub returns-else-octet-lt255-clause-law : goal.returns-else-octet-lt255-clause-law
returns-else-octet-lt255-clause-law c = λ octets long cut.
    let first : c.args.front.now ≡ c.in_ok-octet.field-0.now ∷ drop 1 c.args.front.now = search rules in
    let more : nat_lt c.in_ok-octet.field-0.now 255 ≡ false = grind (arith, nat_tests, c.if-octet-lt255.false) in
    rw more at (octet_read c.args.self c.in_ok-lace.lace c.args.front.now octets c.in_ok-octet.field-0.now (c.args.left - 1) c.requires.wanted c.requires.lacing first cut
    (sym c.in_ok-lace.was ∙ c.claim.ensures.value))
