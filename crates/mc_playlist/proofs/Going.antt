-- The list's place becomes another one, or the step is refused.
use Rattle.std.proofs.Common.{◌≡◌, ◌∙◌, ℕ, Option, Some, None, Result, Ok, Err, ap, sym, subst}
use Rattle.mc_playlist.specs.Steps.{GoesTo, Steps, placed, stepped}
use Rattle.mc_playlist.specs.declared.facts.ListFacts.{ListFacts}
use Rattle.mc_playlist.specs.declared.steps.ListStep.{ListStep}
use Rattle.mc_playlist.specs.declared.steps.ListError.{ListError}

pub goes : (step : ListStep) (place : Option ℕ) (wanted : ℕ) (f f' : ListFacts) (answer : Result (Unit {0}) ListError)
    → stepped step f ≡ placed place wanted f → GoesTo place wanted f f' answer → Steps step f f' answer
goes step None wanted f f' answer e g = subst (Steps step f f') (sym g.0) (e, g.1)
goes step (Some p) wanted f f' answer e g = subst (Steps step f f') (sym g.0) (e ∙ ap (λ (x : ListFacts). Ok x) (sym g.1))
