-- Why a call of a cursor gave nothing.
use Rattle.std.specs.Prelude.{◌≡◌, ℕ, ◌≤◌, Option, Result, IsErrOf}
use Rattle.mc_outside.specs.Causes.{Rose}
use Rattle.mc_outside.specs.Shelf.{Files, Opened}
use Rattle.mc_cursor.specs.declared.error.CursorError.{CursorError}
use Rattle.mc_cursor.specs.declared.error.CursorError.TheVariants.{ReadFault}

-- A count never falls, and a read fault comes only where it rose or stands at its last value.
pub record ReadCause {T : Type 0} (before now : ℕ) (result : Result T CursorError) : Type 0 where
  pub later : before ≤ now
  pub failed : IsErrOf result ReadFault → Rose before now

-- Nothing but the reach changes, and that only grows.
pub record Keeps (files files' : Option Files) (opened opened' : Opened) (reach reach' : ℕ) : Type 0 where
  pub same_files : files' ≡ files
  pub same_opened : opened' ≡ opened
  pub further : reach ≤ reach'

-- A shelf, whose members are named once, was only read.
abbrev pub OnlyReads : {S : Type 0} → (S → Option Files) → (S → Opened) → (S → ℕ) → S → S → Type 0
OnlyReads files opened reach old new = Keeps (files old) (files new) (opened old) (opened new) (reach old) (reach new)
