use Rattle.mc_range.proofs.Weighed as weighed
use Rattle.mc_range.proofs.law.shown_ranges.Goals as goal

pub returns-clause-spans : goal.returns-clause-spans
returns-clause-spans c = weighed.film_spans

pub returns-clause-weight : goal.returns-clause-weight
returns-clause-weight c = weighed.film_weight

pub returns-clause-ahead : goal.returns-clause-ahead
returns-clause-ahead c = weighed.film_ahead

pub returns-clause-bounds : goal.returns-clause-bounds
returns-clause-bounds c = weighed.film_bounds
