use Rattle.mc_journal.proofs.Laws.{allowed-legal, allowed-gapless, used-allowed}
use Rattle.mc_journal.proofs.Appending.{used-appended}
use Rattle.mc_journal.proofs.law.allowed_journals.Goals as goal

pub returns-clause-legal : goal.returns-clause-legal
returns-clause-legal c = allowed-legal

pub returns-clause-gapless : goal.returns-clause-gapless
returns-clause-gapless c = allowed-gapless

pub returns-clause-used : goal.returns-clause-used
returns-clause-used c = used-allowed

pub returns-clause-onward : goal.returns-clause-onward
returns-clause-onward c = used-appended
