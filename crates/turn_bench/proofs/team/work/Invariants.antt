use Rattle.mc_turn.specs.Callers.{Makes}
use Rattle.mc_turn.specs.Workers.{Worked}
use Rattle.turn_bench.specs.Work.{caller_of, numbered}
use Rattle.turn_bench.proofs.team.work.Given as goal

abbrev pub invariant-loop-item : goal.invariant-loop-item
invariant-loop-item g l = record {
  worked : Worked caller_of (λ _. Unit {0}) l.number l.initial.pass l.pass;
  made : Makes caller_of l.number (numbered l.number l.item) l.initial.pass.seen l.pass.seen;
}
