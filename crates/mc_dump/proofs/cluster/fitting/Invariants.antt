use Rattle.std.proofs.Common.{◌≡◌, ◌+◌, drop}
use Rattle.std.specs.List.{prefix_len}
use Rattle.mc_packet.specs.declared.packet.Packet.{Packet}
use Rattle.mc_dump.specs.Clustered.{units, fits_in}
use Rattle.mc_dump.proofs.cluster.fitting.Given as goal

abbrev pub invariant-loop-packet : goal.invariant-loop-packet
invariant-loop-packet l = record {
  counted : l.taken ≡ l.packet-index;
  so_far : prefix_len (λ (p : Packet). fits_in l.time (units l.scale p)) l.packets ≡ l.taken + prefix_len (λ (p : Packet). fits_in l.time (units l.scale p)) (drop l.packet-index l.packets);
}
