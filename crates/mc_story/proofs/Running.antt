-- Every list of steps keeps the tie, and a tied world's journals tell one story.
use Rattle.std.proofs.Common.{ℕ, List, [], ◌∷◌, refl, subst}
use Rattle.std.specs.List.{AllByRecursion}
use Rattle.mc_packet.specs.declared.choice.Choice.{Choice}
use Rattle.mc_journal.specs.Films.{Film}
use Rattle.mc_player.specs.Lives.{Table}
use Rattle.mc_player.specs.Rules.{IsAllowed}
use Rattle.mc_player.proofs.Loading.{loads_once}
use Rattle.mc_player.specs.Orders.{Opening}
use Rattle.mc_story.specs.Runs.{IsUnder, Runs, Step}
use Rattle.mc_story.specs.Steps.{Both}
use Rattle.mc_story.specs.Story.{OneStory}
use Rattle.mc_story.specs.Tie.{IsTied, fresh_world}
use Rattle.mc_story.proofs.Stepping.{step_tied, story_of}

run_tied : (n : ℕ) (film : Film) (w : Opening) (t : Table) (steps : List Step) (s s' : Both)
    → AllByRecursion (IsUnder n) steps → Runs film w t steps s s' → IsTied n film w s → IsTied n film w s'
run_tied n film w t [] s s' u p i = subst (λ (k : Both). IsTied n film w k) p i
run_tied n film w t (step ∷ steps) s s' u p i = run_tied n film w t steps p.0 s' u.1 p.2 (step_tied n film w t step s p.0 u.0 p.1 i)

pub fresh_tied : (n by : ℕ) (film : Film) (w : Opening) (set : Choice) → IsTied n film w (fresh_world by set)
fresh_tied n by film w set = record { asked = refl; learned = tt; loads = tt; order_is = refl; carried_is = tt }

-- each record of the player was allowed
run_allowed : (film : Film) (w : Opening) (t : Table) (steps : List Step) (s s' : Both) → Runs film w t steps s s' → IsAllowed t s.hc → IsAllowed t s'.hc
run_allowed film w t [] s s' p a = subst (λ (k : Both). IsAllowed t k.hc) p a
run_allowed film w t (step ∷ steps) s s' p a = run_allowed film w t steps p.0 s' p.2 p.1.allowed

-- a tied world's journals tell one story
pub tied_story : (n : ℕ) (film : Film) (w : Opening) (t : Table) (s : Both) → IsAllowed t s.hc → IsTied n film w s → OneStory n film w s.hd s.hc
tied_story n film w t s a i = record { asked = story_of n film w s i; learned = i.learned; loaded = ((loads_once t s.hc a).1 w i.loads).0 }

-- from a new world, whatever it does
pub every_run : (n by : ℕ) (film : Film) (w : Opening) (t : Table) (set : Choice) (steps : List Step) (s : Both)
    → AllByRecursion (IsUnder n) steps → Runs film w t steps (fresh_world by set) s → OneStory n film w s.hd s.hc
every_run n by film w t set steps s u p =
    tied_story n film w t s (run_allowed film w t steps (fresh_world by set) s p tt) (run_tied n film w t steps (fresh_world by set) s u p (fresh_tied n by film w set))
