use Rattle.std.proofs.Common.{◌∙◌, ◌==◌, length, ap}
use Rattle.std.specs.Prelude.{unwrap_or}
use Rattle.mc_ebml.proofs.Texts.{place_or_end}
use Rattle.mc_ebml.proofs.read.zero_place.Goals as goal

pub returns-clause-value : goal.returns-clause-value
returns-clause-value c = c.unwrap_or.ensures
    ∙ ap (λ place. unwrap_or place (length c.args.body.now)) c.first_zero.ensures
    ∙ place_or_end (λ b. b == 0) c.args.body.now
