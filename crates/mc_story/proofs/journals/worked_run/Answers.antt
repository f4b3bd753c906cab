use Rattle.mc_story.proofs.WorkedRun.{seek_run}
use Rattle.mc_story.proofs.journals.worked_run.Goals as goal

pub returns : goal.returns
returns c = seek_run
