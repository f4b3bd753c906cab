use Rattle.std.proofs.Common.{rules, ◌≡◌, sym, subst}
use Rattle.mc_value.specs.Seconds.{ReadsBack, seconds_text_of}
use Rattle.mc_value.proofs.SecondsLemmas.{seconds_read_back}
use Rattle.mc_value.proofs.seconds.seconds_text.Goals as goal

pub returns-clause-read_back : goal.returns-clause-read_back
returns-clause-read_back c =
    let written : c.from_string.result ≡ seconds_text_of c.args.time = search rules in
    subst (ReadsBack c.args.time) (sym written) (seconds_read_back c.args.time)
