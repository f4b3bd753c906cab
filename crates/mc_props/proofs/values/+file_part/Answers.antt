use Rattle.std.proofs.Common.{◌∙◌, ap}
use Rattle.mc_props.specs.Standard.{file_part}
use Rattle.mc_props.proofs.Slashes.{behind_slash, without_slash}
use Rattle.mc_props.proofs.values.+file_part.Goals as goal

pub returns-in-Some : goal.returns-in-Some
returns-in-Some t c = c.file_part.ensures ∙ ap file_part c.in-Some.ensures.cases.0 ∙ behind_slash c.args.path.now c.in-Some.ensures.cases.1

pub returns-in-None : goal.returns-in-None
returns-in-None t c = without_slash c.args.path.now c.in-None.ensures.cases
