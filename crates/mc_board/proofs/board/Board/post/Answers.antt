use Rattle.std.proofs.Common.{rules, ap, subst, sym}
use Rattle.mc_board.specs.Statuses.{Posting, MayFollow}
use Rattle.mc_board.proofs.Keeps.{adds}
use Rattle.mc_board.proofs.board.Board.post.Goals as goal

pub swap_as-requires : goal.swap_as-requires
swap_as-requires g c = (search rules, (search rules, (search rules, adds _ _ _ (ap (λ v. v.role) c.poster.invariant.0) (subst (λ (d : Posting). MayFollow d.posted c.args.status) (sym c.poster.view_is) c.requires.later))))
