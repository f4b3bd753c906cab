use Rattle.mc_journal.specs.Callers.{by_of}
use Rattle.mc_turn.specs.Workers.{Worked}
use Rattle.turn_bench.specs.Demuxes.{Any}
use Rattle.turn_bench.proofs.demux_cell.work.Given as goal

abbrev pub invariant-loop-item : goal.invariant-loop-item
invariant-loop-item g l = Worked by_of Any l.by l.initial.pass l.pass
