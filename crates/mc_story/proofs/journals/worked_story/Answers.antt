use Rattle.mc_story.proofs.Worked.{one_story}
use Rattle.mc_story.proofs.journals.worked_story.Goals as goal

pub returns : goal.returns
returns c = one_story
