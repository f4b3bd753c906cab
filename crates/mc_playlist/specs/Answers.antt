-- What a call answers.
use Rattle.std.specs.Prelude.{◌≡◌, Result, Ok, Err, ⊤}
use Rattle.mc_playlist.specs.declared.steps.ListError.{ListError}
use Rattle.mc_playlist.specs.declared.steps.ListError.TheVariants.{NoMemory}

-- a call's answer is this one; want of memory says nothing
abbrev pub Answers : {T : Type 0} → Result T ListError → Result T ListError → Type 0
Answers (Ok given) wanted = Ok given ≡ wanted
Answers (Err NoMemory) wanted = ⊤
Answers (Err e) wanted = Err e ≡ wanted
