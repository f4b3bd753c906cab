use Rattle.std.proofs.Common.{◌≡◌, ◌*◌, ◌≤◌, ℕ, take, length}
use Rattle.mc_written.specs.Clusters.{blocks_text}
use Rattle.mc_dump.specs.Clustered.{blocks_with}
use Rattle.mc_dump.proofs.cluster.blocks_len.Given as goal

abbrev pub invariant-loop-packet : goal.invariant-loop-packet
invariant-loop-packet l = record {
  counted : (scale time : ℕ) → l.len ≡ length (blocks_text (blocks_with scale time (take l.packet-index l.packets)));
  small : l.len ≤ l.packet-index * 67108891;
}
