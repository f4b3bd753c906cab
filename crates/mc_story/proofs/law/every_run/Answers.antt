use Rattle.mc_story.proofs.Running.{every_run}
use Rattle.mc_story.proofs.law.every_run.Goals as goal

pub returns : goal.returns
returns c = every_run
