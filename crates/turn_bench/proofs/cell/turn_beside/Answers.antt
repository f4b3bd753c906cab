use Rattle.std.proofs.Common.{rules}
use Rattle.mc_turn.specs.Laws.{may_leave, worked_none}
use Rattle.turn_bench.specs.Work.{caller_of}
use Rattle.turn_bench.proofs.cell.turn_beside.Goals as goal

pub leave-requires-clause-extends : goal.leave-requires-clause-extends
leave-requires-clause-extends g c = may_leave caller_of (λ _. Unit {0}) 0 c.in_ok-turn.pass c.in_ok-turn.pass c.enter-cell.new.pass c.enter-cell.result.log c.add-done.new.self.log
    (worked_none caller_of (λ _. Unit {0}) 0 c.in_ok-turn.pass (search rules)) (search rules) c.enter-cell.ensures.pass c.add-done.ensures.grows
