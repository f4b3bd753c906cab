use Rattle.mc_turn.specs.Workers.{Worked}
use Rattle.turn_bench.specs.Work.{IsFrom, caller_of}
use Rattle.turn_bench.proofs.writers.write.Given as goal

abbrev pub invariant-loop-item : goal.invariant-loop-item
invariant-loop-item g l = Worked caller_of (IsFrom l.first l.last) l.caller l.initial.pass l.pass
