use Rattle.mc_block.specs.Block.{packets_of, AreOfBlock}
use Rattle.mc_block.proofs.Given.{given}
use Rattle.mc_block.proofs.Laws.{packets_are_of_block}
use Rattle.mc_block.proofs.packets.block_packets.Goals as goal

pub returns-clause-law : goal.returns-clause-law
returns-clause-law c =
    let body = c.args.body.now in
    let place = c.args.place in
    given (AreOfBlock place body.octets) c.read_packets.result (packets_of place body) c.read_packets.ensures.value (packets_are_of_block place body)
