use Rattle.mc_journal.proofs.Worked.{too_early-unused, too_late-unused, skips-unused, ends_early-unused, unjoined-unused, switched_to_same-unused}
use Rattle.mc_journal.proofs.journals.wrong_journals.Goals as goal

pub returns-clause-early : goal.returns-clause-early
returns-clause-early c = too_early-unused

pub returns-clause-late : goal.returns-clause-late
returns-clause-late c = too_late-unused

pub returns-clause-skips : goal.returns-clause-skips
returns-clause-skips c = skips-unused

pub returns-clause-ends : goal.returns-clause-ends
returns-clause-ends c = ends_early-unused

pub returns-clause-unjoined : goal.returns-clause-unjoined
returns-clause-unjoined c = unjoined-unused

pub returns-clause-same : goal.returns-clause-same
returns-clause-same c = switched_to_same-unused
