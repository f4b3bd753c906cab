-- What the words of a command ask for: a film, and a script that is played over it.
use Rattle.std.specs.Prelude.{◌≡◌, ◌⊎◌, ℕ, List, [], ◌∷◌, Option, Some, None, Ok, Err, slice_get, unwrap_or, ⊤}
use Rattle.mc_outside.specs.Causes.{Rose}
use Rattle.mc_outside.specs.Shelf.{Files, Lacks}
use Rattle.mc_script.specs.declared.acts.Act.{Act}
use Rattle.mc_script.specs.declared.acts.Act.TheVariants.{Drain}
use Rattle.mc_script.specs.declared.acts.ScriptWhy.{ScriptWhy}
use Rattle.mc_script.specs.declared.exit.Exit.{Exit}
use Rattle.mc_script.specs.declared.exit.Exit.TheVariants as exits
use Rattle.mc_script.specs.declared.exit.ShelfCause.{ShelfCause}
use Rattle.mc_script.specs.declared.exit.ShelfCause.TheVariants as causes
use Rattle.mc_script.specs.declared.options.RunLine.{RunLine}
use Rattle.mc_script.specs.Script.{script_of}
use Rattle.mc_walk.specs.Opening.{opened_film}

-- the word of this number
abbrev pub name_at : List (List ℕ) → ℕ → List ℕ
name_at words n = unwrap_or (slice_get words n) []

-- the octets of a file, where files are told
abbrev pub FileIs : Option Files → List ℕ → (List ℕ → Type 0) → Type 0
FileIs None name P = ⊤
FileIs (Some files) name P = (octets : List ℕ) × (files name ≡ Some octets) × P octets

-- without a script all selected tracks are read to their ends
abbrev pub drain_alone : List (ℕ × Act)
drain_alone = (1, Drain) ∷ []

-- the lines of the script that the words name
abbrev pub ScriptIs : Option Files → List (List ℕ) → Option ℕ → List (ℕ × Act) → Type 0
ScriptIs files words None lines = lines ≡ drain_alone
ScriptIs files words (Some n) lines = FileIs files (name_at words n) (λ octets. script_of octets ≡ Ok lines)

-- it is outside its grammar
abbrev pub ScriptIsRefused : Option Files → List (List ℕ) → Option ℕ → ℕ → ScriptWhy → Type 0
ScriptIsRefused files words None line why = ⊥
ScriptIsRefused files words (Some n) line why = FileIs files (name_at words n) (λ octets. script_of octets ≡ Err (line, why))

-- a shelf is the cause: its count rose, or it lacks a file that the words name
abbrev pub CausedBy : Option Files → List (List ℕ) → RunLine → ℕ → ℕ → ShelfCause → Type 0
CausedBy files words line before now (causes.Rose b n) = (b ≡ before) × (n ≡ now) × Rose before now
CausedBy files words line before now (causes.NoFile n) = ((n ≡ line.file) ⊎ (Some n ≡ line.script)) × Lacks files (name_at words n)

-- why nothing was done: the words, the shelf, the script, or what stands before the film's Clusters. Want of memory is free
abbrev pub Stopped : Option Files → List (List ℕ) → RunLine → ℕ → ℕ → Exit → Type 0
Stopped files words line before now exits.NoMemory = ⊤
Stopped files words line before now exits.Usage = ⊥
Stopped files words line before now (exits.Shelf cause) = CausedBy files words line before now cause
Stopped files words line before now (exits.Script n why) = ScriptIsRefused files words line.script n why
Stopped files words line before now (exits.File refused) =
    ((lines : List (ℕ × Act)) × ScriptIs files words line.script lines) × FileIs files (name_at words line.file) (λ octets. opened_film octets ≡ Err refused)
Stopped files words line before now exits.Done = ⊥
Stopped files words line before now exits.Sink = ⊥
Stopped files words line before now exits.JournalFull = ⊥
