use Rattle.std.proofs.Common.{◌≡◌, take}
use Rattle.mc_packet.proofs.packet.copy_packets.Given as goal

abbrev pub invariant-loop-packet : goal.invariant-loop-packet
invariant-loop-packet l = l.copied ≡ take l.packet-index l.packets
