use Rattle.mc_journal.proofs.Crowded.{crowded-used, newest-unused}
use Rattle.mc_journal.proofs.journals.crowded_journals.Goals as goal

pub returns-clause-used : goal.returns-clause-used
returns-clause-used c = crowded-used

pub returns-clause-newest : goal.returns-clause-newest
returns-clause-newest c = newest-unused
