use Rattle.std.proofs.Common.{rules}
use Rattle.turn_bench.proofs.Teams.{filled_all}
use Rattle.turn_bench.proofs.team.fill.Goals as goal

pub returns : goal.returns
returns g c = record { filled = filled_all c.args.count _ c.work_all-pass.result.1 c.in_ok-turn.pass c.work_all-pass.result.0 c.close.result (search rules) (search rules) (search rules) (search rules) (search rules) }
