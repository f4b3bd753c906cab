use Rattle.mc_steps.proofs.Playing.{answers, creates, destroys, effects_add, news_adds, works}
use Rattle.mc_steps.proofs.law.core_steps.Goals as goal

pub returns-clause-learned : goal.returns-clause-learned
returns-clause-learned c = news_adds

pub returns-clause-done : goal.returns-clause-done
returns-clause-done c = effects_add

pub returns-clause-worked : goal.returns-clause-worked
returns-clause-worked c = works

pub returns-clause-created : goal.returns-clause-created
returns-clause-created c = creates

pub returns-clause-gone : goal.returns-clause-gone
returns-clause-gone c = destroys

pub returns-clause-called : goal.returns-clause-called
returns-clause-called c = answers
