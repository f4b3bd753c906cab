-- What reading a file's text keeps.
use Rattle.std.specs.Prelude.{◌≡◌, ℕ, ◌≤◌, Option, Result, IsErrOf}
use Rattle.mc_outside.specs.Causes.{Rose}
use Rattle.mc_outside.specs.Shelf.{Files, Opened}
use Rattle.mc_play.specs.declared.text.TextError.{TextError}
use Rattle.mc_play.specs.declared.text.TextError.TheVariants.{ReadFault}

-- the shelf's files are as before, and a fault comes only where its count rose
pub record ReadsText {T : Type 0} (files files' : Option Files) (opened opened' : Opened) (before now : ℕ) (result : Result T TextError) : Type 0 where
  pub same_files : files' ≡ files
  pub same_opened : opened' ≡ opened
  pub later : before ≤ now
  pub failed : IsErrOf result ReadFault → Rose before now
