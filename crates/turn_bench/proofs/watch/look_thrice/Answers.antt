use Rattle.std.proofs.Common.{refl, inl, sym, subst}
use Rattle.mc_board.specs.Statuses.{Has, Looking}
use Rattle.turn_bench.proofs.watch.look_thrice.Goals as goal

pub returns : goal.returns
returns g c = record { later = c.look.ensures.later c.look-one.result (subst (λ (p : Looking). Has p.seen c.look-one.result) (sym c.look-one.ensures.seen) (inl refl)) }
