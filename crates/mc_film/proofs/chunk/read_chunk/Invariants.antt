use Rattle.std.proofs.Common.{◌≡◌, ◌-◌, ◌≤◌, length}
use Rattle.mc_walk.specs.Walk.{steps}
use Rattle.mc_walk.specs.Parts.{chunk_at}
use Rattle.mc_film.proofs.Chunking.{chunk_by}
use Rattle.mc_film.proofs.chunk.read_chunk.Given as goal

-- the part from here on ends as the part from the mark does
abbrev pub invariant-loop : goal.invariant-loop
invariant-loop l = record {
  within : l.place ≤ length l.plan.octets;
  budget : l.budget ≡ steps l.plan;
  same : chunk_by l.mark (l.budget - l.counter) l.plan l.place l.level ≡ chunk_at l.plan l.mark;
}
