use Rattle.mc_script.proofs.PlaysLemmas.{drain_played, halves_played, reads_in_part, reads_played, refusals_played, stale_played}
use Rattle.mc_script.proofs.plays.worked_scripts.Goals as goal

pub returns-clause-stale : goal.returns-clause-stale
returns-clause-stale c = stale_played

pub returns-clause-halves : goal.returns-clause-halves
returns-clause-halves c = halves_played

pub returns-clause-reads : goal.returns-clause-reads
returns-clause-reads c = reads_played

pub returns-clause-refusals : goal.returns-clause-refusals
returns-clause-refusals c = refusals_played

pub returns-clause-in_part : goal.returns-clause-in_part
returns-clause-in_part c = reads_in_part

pub returns-clause-drained : goal.returns-clause-drained
returns-clause-drained c = drain_played
