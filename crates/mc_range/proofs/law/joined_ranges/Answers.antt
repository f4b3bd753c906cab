use Rattle.mc_range.proofs.Joined as joined
use Rattle.mc_range.proofs.law.joined_ranges.Goals as goal

pub returns-clause-range : goal.returns-clause-range
returns-clause-range c = joined.joined_ranges

pub returns-clause-film : goal.returns-clause-film
returns-clause-film c = joined.joined_film

pub returns-clause-agree : goal.returns-clause-agree
returns-clause-agree c = joined.none_told

pub returns-clause-memory : goal.returns-clause-memory
returns-clause-memory c = joined.only_memory
