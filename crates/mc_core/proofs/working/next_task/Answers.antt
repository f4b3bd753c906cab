use Rattle.std.proofs.Common.{rules, ◌≡◌, None}
use Rattle.std.specs.Prelude.{slice_get}
use Rattle.mc_core.proofs.Worked.{none_waits}
use Rattle.mc_core.proofs.working.next_task.Goals as goal

pub returns-in_default-clause-none : goal.returns-in_default-clause-none
returns-in_default-clause-none g c = λ _.
    let empty : slice_get c.args.state.now.queue.requests 0 ≡ None = search rules in
    none_waits c.args.state.now.queue.requests empty
