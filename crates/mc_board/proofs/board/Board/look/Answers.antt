use Rattle.std.proofs.Common.{rules, ap}
use Rattle.mc_board.proofs.Keeps.{sees}
use Rattle.mc_board.proofs.board.Board.look.Goals as goal

pub load_as-requires : goal.load_as-requires
load_as-requires g c = (search rules, (search rules, (search rules, sees _ _ (ap (λ v. v.role) c.pass.invariant))))
