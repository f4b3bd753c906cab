-- A list's script that is read line by line.
use Rattle.std.specs.Prelude.{◌≡◌, ℕ, ◌+◌, List, ◌∷◌, ◌++◌, Option, Some, None, Result, Ok, Err, ⊤}
use Rattle.mc_playlist.specs.Lines.{acts_from}
use Rattle.mc_playlist.specs.declared.acts.ListAct.{ListAct}
use Rattle.mc_playlist.specs.declared.script.Reading.{Reading}
use Rattle.mc_playlist.specs.declared.steps.ListError.{ListError}
use Rattle.mc_playlist.specs.declared.steps.ListError.TheVariants.{BadLine, NoMemory}

-- acts in front of others
abbrev pub behind_acts : List (ℕ × ListAct) → Result (List (ℕ × ListAct)) ListError
    → Result (List (ℕ × ListAct)) ListError
behind_acts acts (Ok more) = Ok (acts ++ more)
behind_acts acts (Err e) = Err e

-- the acts that were read, and those of the lines still to come
abbrev pub resumed : Reading → List (List ℕ) → Result (List (ℕ × ListAct)) ListError
resumed r lines = behind_acts r.script (acts_from (r.number + 1) lines)

-- a reading that took a line more gives the same, or the line is refused
abbrev pub Takes : Reading → Reading → List ℕ → Result (Unit {0}) ListError → Type 0
Takes r r' line (Ok done) = (more : List (List ℕ)) → resumed r' more ≡ resumed r (line ∷ more)
Takes r r' line (Err NoMemory) = ⊤
Takes r r' line (Err e) = (more : List (List ℕ)) → resumed r (line ∷ more) ≡ Err e

-- what the line of this number asks for, or that it is outside the grammar
abbrev pub MeansAt : {T : Type 0} → ℕ → Result T ListError → Option T → Type 0
MeansAt n (Ok act) said = said ≡ Some act
MeansAt n (Err NoMemory) said = ⊤
MeansAt n (Err e) said = (e ≡ BadLine n) × (said ≡ None)
