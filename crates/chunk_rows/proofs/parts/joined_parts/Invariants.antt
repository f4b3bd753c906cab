use Rattle.mc_film.specs.Chunks.{IsMarkIn}
use Rattle.chunk_rows.proofs.parts.joined_parts.Given as goal

-- each part begins at a mark of the film
abbrev pub invariant-loop : goal.invariant-loop
invariant-loop l = IsMarkIn l.octets l.mark
