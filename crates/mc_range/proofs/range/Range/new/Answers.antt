use Rattle.mc_range.proofs.Beginning.{begun_range}
use Rattle.mc_range.proofs.range.Range.new.Goals as goal

-- src/range.rt:34:5
pub invariant_of-result : goal.invariant_of-result
invariant_of-result c =
    begun_range c.args.set c.args.starts.now (record { video = c.start_queue.result; audio = c.start_queue-2.result; sub = c.start_queue-3.result })
    c.requires.distinct c.requires.at_mark.video c.requires.at_mark.audio c.requires.at_mark.sub c.start_queue.ensures c.start_queue-2.ensures c.start_queue-3.ensures

-- src/range.rt:34:5
pub returns-clause-range : goal.returns-clause-range
returns-clause-range c =
    begun_range c.args.set c.args.starts.now (record { video = c.start_queue.result; audio = c.start_queue-2.result; sub = c.start_queue-3.result })
    c.requires.distinct c.requires.at_mark.video c.requires.at_mark.audio c.requires.at_mark.sub c.start_queue.ensures c.start_queue-2.ensures c.start_queue-3.ensures
