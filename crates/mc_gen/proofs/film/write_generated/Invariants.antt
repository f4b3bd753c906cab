use Rattle.std.proofs.Common.{◌≤◌}
use Rattle.mc_gen.specs.Generated.{generated}
use Rattle.mc_gen.proofs.Pieces.{Gathered, left_text}
use Rattle.mc_gen.proofs.film.write_generated.Given as goal

abbrev pub invariant-loop-k : goal.invariant-loop-k
invariant-loop-k g l = record {
  gathered : Gathered (g.K.Sink.text l.initial.out) (g.K.Sink.text l.out) l.piece.items (left_text l.n l.k) (generated l.n);
  later : g.K.Sink.faults l.initial.out ≤ g.K.Sink.faults l.out;
}
