use Rattle.std.proofs.Common.{subst}
use Rattle.std.specs.Prelude.{Option}
use Rattle.mc_calls.specs.declared.job.Job.{Job}
use Rattle.mc_lines.specs.Runs.{IsOut}
use Rattle.mc_lines.proofs.Playing.{given, given_grows}
use Rattle.mc_lines.proofs.play.give_line.Goals as goal

pub returns-in-Some-clause-line : goal.returns-in-Some-clause-line
returns-in-Some-clause-line g c octets rd told s taken h =
    let is_out = subst (λ (x : Option Job). IsOut rd x taken (g.M.Machine.journal c.args.machine.now) (g.M.Machine.jobs c.args.machine.now)) c.in-Some.is h in
    rw c.settled.ensures (given rd c.in-Some.job taken _ _ _ _ _ _ c.bring.result is_out c.bring.ensures.brings)

pub returns-in-Some-clause-grows : goal.returns-in-Some-clause-grows
returns-in-Some-clause-grows g c = given_grows c.in-Some.job _ _ _ _ _ _ c.bring.result c.bring.ensures.later c.bring.ensures.brings
