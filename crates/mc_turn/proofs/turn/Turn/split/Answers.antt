use Rattle.std.proofs.Common.{ap}
use Rattle.mc_turn.proofs.Numbers.{has_parts, cut_from}
use Rattle.mc_turn.proofs.turn.Turn.split.Goals as goal

pub returns-clause-parts : goal.returns-clause-parts
returns-clause-parts g c n h = has_parts _ _ _ _ _ n (ap (λ k. k.numbers) c.pass.view_is) (ap (λ m. m.0.numbers) c.cut-seat.ensures.kept) (ap (λ m. m.0.numbers) c.cut-seat.ensures.given) h

pub returns-clause-ranges : goal.returns-clause-ranges
returns-clause-ranges g c first size is = cut_from _ _ _ _ _ _ first size c.pass.invariant.0 c.requires.fewer.1 (ap (λ k. k.numbers) c.pass.view_is) is (ap (λ m. m.0.numbers) c.cut-seat.ensures.kept) (ap (λ m. m.0.numbers) c.cut-seat.ensures.given)
