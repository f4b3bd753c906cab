use Rattle.std.proofs.Common.{◌≡◌, ◌-◌, ◌≤◌, ◌++◌, List, ℕ, All}
use Rattle.mc_outside.specs.Sink.{Grows}
use Rattle.mc_written.specs.Clusters.{clusters_text}
use Rattle.mc_dump.specs.Clustered.{clusters_from, clusters_of, CanBeBlock}
use Rattle.mc_dump.proofs.cluster.write_clusters.Given as goal

-- what was written, and the Clusters that are left, are all of them
abbrev pub invariant-loop : goal.invariant-loop
invariant-loop g l = record {
  each : All CanBeBlock l.rest;
  written : (done : List ℕ) × Grows (g.K.Sink.text l.initial.out) (g.K.Sink.text l.out) done
      × (done ++ clusters_text (clusters_from (l.end - l.counter) l.scale l.rest) ≡ clusters_text (clusters_of l.scale l.packets));
  later : g.K.Sink.faults l.initial.out ≤ g.K.Sink.faults l.out;
}
