use Rattle.mc_story.proofs.WorkedSelect.{done_again_allowed, selections_story}
use Rattle.mc_story.proofs.journals.worked_selections.Goals as goal

pub returns-clause-allowed : goal.returns-clause-allowed
returns-clause-allowed c = done_again_allowed

pub returns-clause-story : goal.returns-clause-story
returns-clause-story c = selections_story
