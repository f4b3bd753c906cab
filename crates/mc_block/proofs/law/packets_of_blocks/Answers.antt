use Rattle.mc_block.proofs.Laws.{packets_are_of_block, track_small}
use Rattle.mc_block.proofs.law.packets_of_blocks.Goals as goal

pub returns : goal.returns
returns c = record { packets = packets_are_of_block; numbers = track_small }
