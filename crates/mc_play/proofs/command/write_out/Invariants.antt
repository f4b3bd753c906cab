use Rattle.std.proofs.Common.{◌≡◌, ◌≤◌, List, ℕ, ◌++◌, length}
use Rattle.mc_outside.specs.Sink.{Grows}
use Rattle.mc_script.specs.Transcript.{lines_from, transcript}
use Rattle.mc_play.proofs.command.write_out.Given as goal

-- what was written, and the lines of the records that are left, are the transcript
abbrev pub invariant-loop-rest : goal.invariant-loop-rest
invariant-loop-rest g l = (done : List ℕ) × Grows (g.K.Sink.text l.initial.out) (g.K.Sink.text l.out) done
    × (done ++ lines_from l.selected l.rest ≡ transcript l.hd) × (g.K.Sink.faults l.initial.out ≤ g.K.Sink.faults l.out)

abbrev pub decreases-loop-rest : goal.decreases-loop-rest
decreases-loop-rest g l = length l.rest
