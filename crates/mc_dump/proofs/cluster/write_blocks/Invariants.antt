use Rattle.std.proofs.Common.{◌≤◌, take}
use Rattle.mc_outside.specs.Sink.{Grows}
use Rattle.mc_written.specs.Clusters.{blocks_text}
use Rattle.mc_dump.specs.Clustered.{blocks_with}
use Rattle.mc_dump.proofs.cluster.write_blocks.Given as goal

abbrev pub invariant-loop-packet : goal.invariant-loop-packet
invariant-loop-packet g l = record {
  grown : Grows (g.K.Sink.text l.initial.out) (g.K.Sink.text l.out) (blocks_text (blocks_with l.scale l.time (take l.packet-index l.packets)));
  later : g.K.Sink.faults l.initial.out ≤ g.K.Sink.faults l.out;
}
