use Rattle.mc_world.proofs.Stepped.{every_run}
use Rattle.mc_world.proofs.law.every_run.Goals as goal

pub returns : goal.returns
returns c = every_run
