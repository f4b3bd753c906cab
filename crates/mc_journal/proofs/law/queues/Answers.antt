use Rattle.mc_journal.proofs.Splitting.{within-split, within-cut}
use Rattle.mc_journal.proofs.law.queues.Goals as goal

pub returns-clause-split : goal.returns-clause-split
returns-clause-split c = λ ps from mid to. within-split from mid to ps

pub returns-clause-cut : goal.returns-clause-cut
returns-clause-cut c = λ ps from place to. within-cut from place to ps
