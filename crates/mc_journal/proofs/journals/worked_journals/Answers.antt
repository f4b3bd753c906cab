use Rattle.mc_journal.proofs.Worked.{drained-used, sent-used, joined-used, drained_twice-used, before_the_start-used, two_ranges-used, dropped-used, overfull-used, switched-used, failed_read-used, refused-used, waited-used, repeated-used, idle_then, idle_full, busy_before}
use Rattle.mc_journal.proofs.journals.worked_journals.Goals as goal

pub returns-clause-drained : goal.returns-clause-drained
returns-clause-drained c = drained-used

pub returns-clause-sent : goal.returns-clause-sent
returns-clause-sent c = sent-used

pub returns-clause-joined : goal.returns-clause-joined
returns-clause-joined c = joined-used

pub returns-clause-drained_twice : goal.returns-clause-drained_twice
returns-clause-drained_twice c = drained_twice-used

pub returns-clause-before_the_start : goal.returns-clause-before_the_start
returns-clause-before_the_start c = before_the_start-used

pub returns-clause-two_ranges : goal.returns-clause-two_ranges
returns-clause-two_ranges c = two_ranges-used

pub returns-clause-dropped : goal.returns-clause-dropped
returns-clause-dropped c = dropped-used

pub returns-clause-overfull : goal.returns-clause-overfull
returns-clause-overfull c = overfull-used

pub returns-clause-switched : goal.returns-clause-switched
returns-clause-switched c = switched-used

pub returns-clause-failed_read : goal.returns-clause-failed_read
returns-clause-failed_read c = failed_read-used

pub returns-clause-refused : goal.returns-clause-refused
returns-clause-refused c = refused-used

pub returns-clause-waited : goal.returns-clause-waited
returns-clause-waited c = waited-used

pub returns-clause-repeated : goal.returns-clause-repeated
returns-clause-repeated c = repeated-used

pub returns-clause-idle : goal.returns-clause-idle
returns-clause-idle c = idle_then

pub returns-clause-full : goal.returns-clause-full
returns-clause-full c = idle_full

pub returns-clause-busy : goal.returns-clause-busy
returns-clause-busy c = busy_before
