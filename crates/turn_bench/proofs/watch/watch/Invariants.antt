use Rattle.std.proofs.Common.{◌≡◌}
use Rattle.mc_board.specs.Statuses.{Has, NotNewer}
use Rattle.turn_bench.proofs.watch.watch.Given as goal

abbrev pub invariant-loop-round : goal.invariant-loop-round
invariant-loop-round g l = record { board : l.pass.board ≡ l.fn.pass.board; seen : Has l.pass.seen l.last; latest : NotNewer l.pass.seen l.last }
