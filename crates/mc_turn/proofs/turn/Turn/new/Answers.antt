use Rattle.std.proofs.Common.{◌≡◌, ℕ, List, [], ap, sym, subst, rules}
use Rattle.mc_turn.proofs.Passes.{opens}
use Rattle.mc_turn.specs.Callers.{Has}
use Rattle.mc_turn.specs.Laws.{first_has}
use Rattle.mc_turn.proofs.Rest.{begins}
use Rattle.mc_turn.proofs.turn.Turn.new.Goals as goal

pub new-requires : goal.new-requires
new-requires g c = let empty : c.in_ok-slots.slots.items ≡ [] = search rules in rw (c.push_reserved.ensures.items, empty, c.of.ensures) (opens _ _ _ _ (search rules) c.requires.within)

pub invariant_of-result-in-Ok : goal.invariant_of-result-in-Ok
invariant_of-result-in-Ok g c = begins _ _ _ c.in-Ok.ensures.ok.4

pub returns-in-Ok-clause-has : goal.returns-in-Ok-clause-has
returns-in-Ok-clause-has g c n lt = subst (λ (l : List ℕ). Has l n) (sym (ap (λ m. m.0.numbers) c.in-Ok.ensures.ok.4)) (first_has _ n lt)
