use Rattle.mc_journal.proofs.Worked.{drained_forward-used, forward_to_last-used, forward_sent-used, forward_at-used}
use Rattle.mc_journal.proofs.journals.forward_journals.Goals as goal

pub returns-clause-past : goal.returns-clause-past
returns-clause-past c = drained_forward-used

pub returns-clause-to_last : goal.returns-clause-to_last
returns-clause-to_last c = forward_to_last-used

pub returns-clause-sent : goal.returns-clause-sent
returns-clause-sent c = forward_sent-used

pub returns-clause-at : goal.returns-clause-at
returns-clause-at c = forward_at-used
