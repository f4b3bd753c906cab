-- A script that is read line by line.
use Rattle.std.specs.Prelude.{◌≡◌, ℕ, ◌+◌, List, ◌∷◌, ◌++◌, Result, Ok, Err, ⊤}
use Rattle.mc_script.specs.declared.acts.Act.{Act}
use Rattle.mc_script.specs.declared.acts.ScriptWhy.{ScriptWhy}
use Rattle.mc_script.specs.declared.acts.ScriptError.{ScriptError}
use Rattle.mc_script.specs.declared.acts.ScriptError.TheVariants as failures
use Rattle.mc_script.specs.declared.script.Reading.{Reading}
use Rattle.mc_script.specs.Script.{acts_from}

-- acts in front of others
abbrev pub behind_acts : List (ℕ × Act) → Result (List (ℕ × Act)) (ℕ × ScriptWhy) → Result (List (ℕ × Act)) (ℕ × ScriptWhy)
behind_acts acts (Ok more) = Ok (acts ++ more)
behind_acts acts (Err refusal) = Err refusal

-- the acts that were read, and those of the lines still to come
abbrev pub resumed : Reading → List (List ℕ) → Result (List (ℕ × Act)) (ℕ × ScriptWhy)
resumed r lines = behind_acts r.script (acts_from (r.number + 1) r.is_out lines)

-- a reading that took a line more gives the same, or the line is refused
abbrev pub Takes : Reading → Reading → List ℕ → Result (Unit {0}) ScriptError → Type 0
Takes r r' line (Ok done) = (more : List (List ℕ)) → resumed r' more ≡ resumed r (line ∷ more)
Takes r r' line (Err (failures.Refused n why)) = (more : List (List ℕ)) → resumed r (line ∷ more) ≡ Err (n, why)
Takes r r' line (Err failures.NoMemory) = ⊤
