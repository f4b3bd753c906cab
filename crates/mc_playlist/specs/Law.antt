-- The law over every list of steps, and what a step keeps.
use Rattle.std.specs.Prelude.{◌≡◌, ℕ, Bool, true, false, not, List, [], ◌∷◌, map, filter, fold, slice_get, Option, Some, None, Result, Ok, Err}
use Rattle.mc_playlist.specs.Records.{left_by}
use Rattle.mc_playlist.specs.Steps.{IsList, Steps, stepped}
use Rattle.mc_playlist.specs.declared.facts.ListFacts.{ListFacts}
use Rattle.mc_playlist.specs.declared.steps.ListStep.{ListStep}
use Rattle.mc_playlist.specs.declared.steps.ListStep.TheVariants.{Add, Remove, Move, Clear, Next, Prev, Jump, Played}
use Rattle.mc_playlist.specs.declared.steps.ListError.{ListError}
use Rattle.mc_playlist.specs.declared.steps.ListError.TheVariants.{NoMemory}

-- a step with its answer
abbrev pub Done : Type 0
Done = ListStep × Result (Unit {0}) ListError

-- each step was done where the others before it had left the list, and was answered so
abbrev pub Runs : ListFacts → List Done → ListFacts → Type 0
Runs f [] f' = f' ≡ f
Runs f (d ∷ ds) f' = (g : ListFacts) × Steps d.0 f g d.1 × Runs g ds f'

-- a step that wanted memory was not done
abbrev pub was_done : Result (Unit {0}) ListError → Bool
was_done (Err NoMemory) = false
was_done answer = true

abbrev pub steps_of : List Done → List ListStep
steps_of ds = map (λ (d : Done). d.0) (filter (λ (d : Done). was_done d.1) ds)

-- what a step makes of a list: nothing changes where it is refused
abbrev pub after : ListFacts → ListStep → ListFacts
after f step = left_by (stepped step f) f

-- whatever steps follow: they leave what each in turn makes of the list, without those that wanted
-- memory, and that is a list
abbrev pub KeepsLaw : ListFacts → Type 0
KeepsLaw f = (ds : List Done) (f' : ListFacts) → Runs f ds f'
    → (f' ≡ fold after f (steps_of ds)) × IsList f'

-- ---- the entry of the list's place

abbrev pub entry_at : Option ℕ → List (List ℕ) → Option (List ℕ)
entry_at None names = None
entry_at (Some p) names = slice_get names p

abbrev pub entry_now : ListFacts → Option (List ℕ)
entry_now f = entry_at f.pos f.names

-- a step that changes the names leaves the list's place with its entry, unless that is taken out;
-- any other step changes no name
abbrev pub KeepsEntry : ListStep → ListFacts → ListFacts → Type 0
KeepsEntry (Add name) f f' = entry_now f' ≡ entry_now f
KeepsEntry (Remove i) f f' = (f.pos ≡ Some i → ⊥) → entry_now f' ≡ entry_now f
KeepsEntry (Move i j) f f' = entry_now f' ≡ entry_now f
KeepsEntry Clear f f' = entry_now f' ≡ entry_now f
KeepsEntry Next f f' = f'.names ≡ f.names
KeepsEntry Prev f f' = f'.names ≡ f.names
KeepsEntry (Jump i) f f' = f'.names ≡ f.names
KeepsEntry Played f f' = f'.names ≡ f.names
