use Rattle.mc_walk.proofs.Shaped.{are_between}
use Rattle.mc_walk.proofs.element.timed_packets.Goals as goal

pub returns-clause-law : goal.returns-clause-law
returns-clause-law c = λ n track positive small short.
    are_between _ c.args.body.now c.in_ok-block_packets.field-0 n c.in_ok-block_packets.ensures.value c.in_ok-block_packets.ensures.law c.in_ok-block_packets.ensures.few track positive small short
