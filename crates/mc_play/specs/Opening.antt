-- What was opened, and why not.
use Rattle.std.specs.Prelude.{◌≡◌, ℕ, List, Option, Some, None, Ok, Err, ⊤}
use Rattle.mc_outside.specs.Causes.{Rose}
use Rattle.mc_outside.specs.Shelf.{Files, Opened, Lacks, content}
use Rattle.mc_script.specs.declared.exit.Exit.{Exit}
use Rattle.mc_script.specs.declared.exit.Exit.TheVariants as exits
use Rattle.mc_script.specs.declared.exit.ShelfCause.TheVariants as causes
use Rattle.mc_script.specs.declared.acts.Act.{Act}
use Rattle.mc_script.specs.Script.{script_of}
use Rattle.mc_walk.specs.Opening.{opened_film}
use Rattle.mc_walk.specs.Parts.{opening_mark}
use Rattle.mc_cursor.specs.declared.cursor.Cursor.{Cursor}
use Rattle.mc_cursor.specs.Reads.{Told}
use Rattle.mc_cursor.specs.Standing.{StandsFor}
use Rattle.mc_play.specs.Asked.{FileIs, ScriptIsRefused, name_at}

-- ---- a file

-- an opened number stands for the told file of a name
abbrev pub OpensFile : Option Files → Opened → List ℕ → ℕ → Type 0
OpensFile None opened name file = ⊤
OpensFile (Some files) opened name file = (octets : List ℕ) × (files name ≡ Some octets) × (content (Some files) opened file ≡ Some octets)

-- why the file that is the word of a number was not opened
abbrev pub FileStops : Option Files → List (List ℕ) → ℕ → ℕ → ℕ → Exit → Type 0
FileStops files words n before now exits.NoMemory = ⊤
FileStops files words n before now (exits.Shelf (causes.Rose b a)) = (b ≡ before) × (a ≡ now) × Rose before now
FileStops files words n before now (exits.Shelf (causes.NoFile w)) = (w ≡ n) × Lacks files (name_at words n)
FileStops files words n before now _ = ⊥

-- ---- the script

-- why there is none to be played
abbrev pub ScriptStops : Option Files → List (List ℕ) → Option ℕ → ℕ → ℕ → Exit → Type 0
ScriptStops files words o before now exits.NoMemory = ⊤
ScriptStops files words o before now (exits.Shelf (causes.Rose b a)) = (b ≡ before) × (a ≡ now) × Rose before now
ScriptStops files words o before now (exits.Shelf (causes.NoFile w)) = (Some w ≡ o) × Lacks files (name_at words w)
ScriptStops files words o before now (exits.Script line why) = ScriptIsRefused files words o line why
ScriptStops files words o before now _ = ⊥

-- the lines that octets say, of which one more than a script may have are enough
abbrev pub ReadsScript : List (ℕ × Act) → List ℕ → Type 0
ReadsScript lines octets = script_of octets ≡ Ok lines

-- why an opened file gives none
abbrev pub LinesStop : Option (List ℕ) → ℕ → ℕ → Exit → Type 0
LinesStop told before now exits.NoMemory = ⊤
LinesStop told before now (exits.Shelf (causes.Rose b a)) = (b ≡ before) × (a ≡ now) × Rose before now
LinesStop told before now (exits.Script line why) = Told told (λ octets. script_of octets ≡ Err (line, why))
LinesStop told before now _ = ⊥

-- ---- the film

-- a cursor stands at the opening of the film that told octets are
pub record OpensFilm (octets : List ℕ) (c : Cursor) : Type 0 where
  pub stands : StandsFor octets c
  pub at : c.mark ≡ opening_mark

-- the film of a file
abbrev pub IsOpened : Option Files → Opened → List ℕ → Cursor → Type 0
IsOpened None opened name c = ⊤
IsOpened (Some files) opened name c = (octets : List ℕ) × (files name ≡ Some octets) × (content (Some files) opened c.file.0 ≡ Some octets) × OpensFilm octets c

-- why there is no film
abbrev pub FilmStops : Option Files → List (List ℕ) → ℕ → ℕ → ℕ → Exit → Type 0
FilmStops files words n before now exits.NoMemory = ⊤
FilmStops files words n before now (exits.Shelf (causes.Rose b a)) = (b ≡ before) × (a ≡ now) × Rose before now
FilmStops files words n before now (exits.Shelf (causes.NoFile w)) = (w ≡ n) × Lacks files (name_at words n)
FilmStops files words n before now (exits.File refused) = FileIs files (name_at words n) (λ octets. opened_film octets ≡ Err refused)
FilmStops files words n before now _ = ⊥

-- why an opened file is none
abbrev pub BeginStops : Option (List ℕ) → ℕ → ℕ → Exit → Type 0
BeginStops told before now exits.NoMemory = ⊤
BeginStops told before now (exits.Shelf (causes.Rose b a)) = (b ≡ before) × (a ≡ now) × Rose before now
BeginStops told before now (exits.File refused) = Told told (λ octets. opened_film octets ≡ Err refused)
BeginStops told before now _ = ⊥
