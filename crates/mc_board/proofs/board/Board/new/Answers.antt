use Rattle.std.proofs.Common.{◌≡◌, rules, ap, ◌∙◌, sym}
use Rattle.crossbeam_utils.specs.Seq.{cell_view}
use Rattle.mc_board.specs.Rule.{fresh}
use Rattle.mc_board.proofs.Keeps.{begins, copies, posts_fresh}
use Rattle.mc_board.proofs.board.Board.new.Goals as goal

pub swap_as-requires : goal.swap_as-requires
swap_as-requires g c = let new : cell_view c.in_ok-cell.pass ≡ fresh = search rules in (search rules, (search rules, (search rules, begins _ _ _ (ap (λ v. v.role) new))))

pub split_pass-looks-requires : goal.split_pass-looks-requires
split_pass-looks-requires g c = (search rules, (search rules, (search rules, copies _ _ (λ h. posts_fresh (sym (ap (λ v. v.role) c.swap_as.ensures.rule) ∙ h)))))
