use Rattle.std.proofs.Common.{◌+◌, length}
use Rattle.mc_packet.specs.declared.walk.Level.TheVariants as levels
use Rattle.mc_walk.proofs.Again.{walk_again}
use Rattle.mc_walk.proofs.law.walked_packets.Goals as goal

pub returns : goal.returns
returns c = λ plan. let law = c.packets_of_blocks.ensures in
    walk_again law.packets law.numbers (length plan.octets + 1) plan plan.opening levels.Segment
