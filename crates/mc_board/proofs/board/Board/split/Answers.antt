use Rattle.std.proofs.Common.{rules, ap, ◌∙◌, sym}
use Rattle.mc_board.proofs.Keeps.{copies, looks_fresh}
use Rattle.mc_board.proofs.board.Board.split.Goals as goal

pub split_pass-requires : goal.split_pass-requires
split_pass-requires c = (search rules, (search rules, (search rules, copies _ _ (λ h. looks_fresh (sym (ap (λ v. v.role) c.pass.invariant) ∙ h)))))
