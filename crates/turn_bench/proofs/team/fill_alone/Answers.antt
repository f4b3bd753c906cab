use Rattle.std.proofs.Common.{rules}
use Rattle.turn_bench.proofs.Teams.{filled_all, filled_alone}
use Rattle.turn_bench.proofs.team.fill_alone.Goals as goal

pub returns : goal.returns
returns g c = record {
  alone = filled_alone c.args.count c.work-pass.result.1 c.close.result
      (filled_all c.args.count 1 c.work-pass.result.1 c.in_ok-turn.pass c.work-pass.result.0 c.close.result (search rules) (search rules) (search rules) (search rules) (search rules));
}
