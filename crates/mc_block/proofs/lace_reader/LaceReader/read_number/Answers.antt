use Rattle.std.proofs.Common.{◌≡◌, ◌≤◌, Some, None, min, length, drop, sym, ◌∙◌, ◌-◌, arith}
use Rattle.mc_block.specs.Frames.{next_size}
use Rattle.mc_block.proofs.Laced.{next_here, no_number, number_read, number_refused}
use Rattle.mc_block.proofs.lace_reader.LaceReader.read_number.Goals as goal

pub returns-in_err-size-clause-law : goal.returns-in_err-size-clause-law
returns-in_err-size-clause-law c = λ octets long cut.
    let lace = c.args.self in
    let enough : min 8 (length octets) ≤ length c.args.front.now = omega (arith, c.requires.front.1, long) in
    let none : None ≡ next_size lace.lacing lace.before octets =
    next_here None lace.lacing lace.before c.args.front.now octets c.requires.lacing cut enough tt c.in_err-size.ensures.value in
    rw c.from_residual.ensures (no_number lace.lacing lace.wanted lace.claimed octets lace.before c.requires.wanted none)

pub returns-in_err-lace-clause-law : goal.returns-in_err-lace-clause-law
returns-in_err-lace-clause-law c = λ octets long cut.
    let lace = c.args.self in
    let enough : min 8 (length octets) ≤ length c.args.front.now = omega (arith, c.requires.front.1, long) in
    let next : Some (c.in_ok-size.size, drop c.in_ok-size.taken octets) ≡ next_size lace.lacing lace.before octets =
    next_here (Some (c.in_ok-size.size, c.in_ok-size.taken)) lace.lacing lace.before c.args.front.now octets c.requires.lacing cut enough c.in_ok-size.ensures.bounds.1 c.in_ok-size.ensures.value in
    rw c.from_residual-in_err-lace.ensures (number_refused lace octets c.in_ok-size.size c.in_ok-size.taken c.args.left c.requires.wanted next long (sym c.in_err-lace.was ∙ c.claim.ensures.value))

pub returns-clause-law : goal.returns-clause-law
returns-clause-law c = λ octets long cut.
    let lace = c.args.self in
    let enough : min 8 (length octets) ≤ length c.args.front.now = omega (arith, c.requires.front.1, long) in
    let next : Some (c.in_ok-size.size, drop c.in_ok-size.taken octets) ≡ next_size lace.lacing lace.before octets =
    next_here (Some (c.in_ok-size.size, c.in_ok-size.taken)) lace.lacing lace.before c.args.front.now octets c.requires.lacing cut enough c.in_ok-size.ensures.bounds.1 c.in_ok-size.ensures.value in
    number_read lace c.in_ok-lace.lace octets c.in_ok-size.size c.in_ok-size.taken (c.args.left - c.in_ok-size.taken) c.requires.wanted next (sym c.in_ok-lace.was ∙ c.claim.ensures.value)
