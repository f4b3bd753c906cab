use Rattle.std.proofs.Common.{rules, ap, ◌∙◌, sym}
use Rattle.mc_board.proofs.Keeps.{copies, merges, learns, looks_fresh}
use Rattle.mc_board.proofs.board.Board.join.Goals as goal

pub split_pass-moved-requires : goal.split_pass-moved-requires
split_pass-moved-requires g c = (search rules, (search rules, (search rules, copies _ _ (λ h. looks_fresh (sym (ap (λ v. v.role) c.pass.invariant) ∙ h)))))

pub join_pass-requires : goal.join_pass-requires
join_pass-requires g c = (search rules, (search rules, (search rules, merges _ _ _ _ (ap (λ v. v.role) c.poster.invariant.0) (ap (λ v. v.role) c.split_pass-moved.ensures.given.1))))

pub load_as-requires : goal.load_as-requires
load_as-requires g c = (search rules, (search rules, (search rules, learns _ _ (ap (λ v. v.role) c.join_pass.ensures.1 ∙ ap (λ v. v.role) c.poster.invariant.0))))
