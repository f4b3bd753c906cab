-- What a line's reader answers.
use Rattle.std.specs.Prelude.{◌≡◌, Result, Ok, Err, ⊤}
use Rattle.mc_script.specs.declared.acts.ScriptWhy.{ScriptWhy}
use Rattle.mc_script.specs.declared.lines.LineError.{LineError}
use Rattle.mc_script.specs.declared.lines.LineError.TheVariants as failures

-- an answer, or the refusal; want of memory says nothing
abbrev pub Means : {X : Type 0} → Result X LineError → Result X ScriptWhy → Type 0
Means (Ok x) said = said ≡ Ok x
Means (Err (failures.Refused why)) said = said ≡ Err why
Means (Err failures.NoMemory) said = ⊤
