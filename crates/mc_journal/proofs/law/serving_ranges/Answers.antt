use Rattle.std.proofs.Common.{ap}
use Rattle.mc_journal.specs.Films.{first_lane}
use Rattle.mc_journal.proofs.Starting.{serves-is-start}
use Rattle.mc_journal.proofs.Ahead.{serves-ahead}
use Rattle.mc_journal.proofs.law.serving_ranges.Goals as goal

pub returns-clause-starts : goal.returns-clause-starts
returns-clause-starts c = λ ps known r set dir t is regular whole fits h track. ap first_lane (serves-is-start ps r set dir t known is.rising regular whole fits h track)

pub returns-clause-ahead : goal.returns-clause-ahead
returns-clause-ahead c = λ ps r set dir t is h track has_it. serves-ahead ps r set dir t is.lanes h track has_it
