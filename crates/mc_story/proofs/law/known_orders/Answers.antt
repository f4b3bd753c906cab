use Rattle.mc_story.proofs.Knowing.{known_order, selects_known}
use Rattle.mc_story.proofs.law.known_orders.Goals as goal

pub returns-clause-known : goal.returns-clause-known
returns-clause-known c = known_order

pub returns-clause-selected : goal.returns-clause-selected
returns-clause-selected c = selects_known
