use Rattle.mc_story.proofs.Running.{fresh_tied, tied_story}
use Rattle.mc_story.proofs.Stepping.{step_tied}
use Rattle.mc_story.proofs.law.tied_worlds.Goals as goal

pub returns-clause-fresh : goal.returns-clause-fresh
returns-clause-fresh c = fresh_tied

pub returns-clause-step : goal.returns-clause-step
returns-clause-step c = step_tied

pub returns-clause-story : goal.returns-clause-story
returns-clause-story c = tied_story
