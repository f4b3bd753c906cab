use Rattle.mc_world.proofs.Begun.{begins, tells}
use Rattle.mc_world.proofs.Stepped.{runs_keep, step_keeps}
use Rattle.mc_world.proofs.law.world_story.Goals as goal

pub returns-clause-begins : goal.returns-clause-begins
returns-clause-begins c = begins

pub returns-clause-step : goal.returns-clause-step
returns-clause-step c = step_keeps

pub returns-clause-runs : goal.returns-clause-runs
returns-clause-runs c = runs_keep

pub returns-clause-story : goal.returns-clause-story
returns-clause-story c = tells
