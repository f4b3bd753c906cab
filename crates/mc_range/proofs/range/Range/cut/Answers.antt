use Rattle.mc_range.proofs.Dropping.{cut_range}
use Rattle.mc_range.proofs.range.Range.cut.Goals as goal

pub invariant_of-self : goal.invariant_of-self
invariant_of-self c = cut_range _ (record { set = c.self.inside.set; queues = c.self.inside.queues; mark = c.self.inside.mark; ending = c.self.inside.ending }) _ _ _ c.self.invariant c.drop_next.ensures.value c.drop_next.ensures.sound

pub returns-clause-range : goal.returns-clause-range
returns-clause-range c = invariant_of-self c
