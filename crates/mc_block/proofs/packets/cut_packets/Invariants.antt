use Rattle.std.proofs.Common.{◌≡◌, drop, length}
use Rattle.mc_block.specs.Block.{packets_from}
use Rattle.mc_block.proofs.Payloads.{packets_in_front}
use Rattle.mc_block.proofs.packets.cut_packets.Given as goal

abbrev pub invariant-loop-lane : goal.invariant-loop-lane
invariant-loop-lane l = record {
  count : length l.packets ≡ l.lane;
  joined : packets_in_front l.packets (packets_from l.place l.head l.key l.rest l.lane (drop l.lane l.spans)) ≡ packets_from l.place l.head l.key l.rest 0 l.spans;
}
