-- The words `gen [--sum] N`, the text that they ask for, and how that ends.
use Rattle.std.specs.Prelude.{◌≡◌, ℕ, Bool, true, false, ◌&&◌, if◌then◌else◌, List, [], ◌∷◌, Option, Some, None, codes}
use Rattle.std.specs.Str.{bytes_eq}
use Rattle.mc_outside.specs.Causes.{Rose}
use Rattle.mc_outside.specs.Sink.{Grows, GrowsByFront}
use Rattle.mc_value.specs.Numbers.{number_of}
use Rattle.mc_gen.specs.Generated.{generated}
use Rattle.mc_gen.specs.Summary.{summary}
use Rattle.mc_script.specs.Options.{between}
use Rattle.mc_script.specs.declared.exit.Exit.{Exit}
use Rattle.mc_script.specs.declared.exit.Exit.TheVariants as exits
use Rattle.mc_play.specs.declared.generating.GenLine.{GenLine}
use Rattle.mc_play.specs.Run.{IsUsage}

-- ---- the words

-- a number of pictures is one or more digits, of 1 to 200000
abbrev pub pictures_of : List ℕ → Option ℕ
pictures_of w = between 1 200000 (number_of w)

abbrev pub asked_for : Bool → Option ℕ → Option GenLine
asked_for sum None = None
asked_for sum (Some n) = Some (record { pictures = n; sum = sum })

-- the line that words say
abbrev pub gen_line : List (List ℕ) → Option GenLine
gen_line (command ∷ n ∷ []) = if bytes_eq command (codes "gen") then asked_for false (pictures_of n) else None
gen_line (command ∷ option ∷ n ∷ []) =
    if bytes_eq command (codes "gen") && bytes_eq option (codes "--sum") then asked_for true (pictures_of n) else None
gen_line _ = None

-- ---- the text

-- the film, or the line of what a right reader finds in it
abbrev pub gen_text : GenLine → List ℕ
gen_text line = if line.sum then summary line.pictures else generated line.pictures

-- a told text grew by all of it, or by a front where memory was wanting or the sink failed; at `Usage` it is as it was
abbrev pub EndsGen : Option (List ℕ) → Option (List ℕ) → ℕ → ℕ → GenLine → Exit → Type 0
EndsGen old new before now line exits.Done = Grows old new (gen_text line)
EndsGen old new before now line exits.NoMemory = GrowsByFront old new (gen_text line)
EndsGen old new before now line exits.Sink = GrowsByFront old new (gen_text line) × Rose before now
EndsGen old new before now line _ = ⊥

-- the words are not in the grammar exactly at `Usage`
abbrev pub EndsLine : Option (List ℕ) → Option (List ℕ) → ℕ → ℕ → Option GenLine → Exit → Type 0
EndsLine old new before now None exit = IsUsage exit × (new ≡ old)
EndsLine old new before now (Some line) exit = EndsGen old new before now line exit

-- so `gen` ends, with these words
abbrev pub GenEnds : List (List ℕ) → Option (List ℕ) → Option (List ℕ) → ℕ → ℕ → Exit → Type 0
GenEnds words old new before now exit = EndsLine old new before now (gen_line words) exit
