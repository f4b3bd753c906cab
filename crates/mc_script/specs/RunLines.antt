-- The line grammar of `run` by what stands in it: the options' words, and FILE or FILE SCRIPT behind them.
use Rattle.std.specs.Prelude.{◌≡◌, ◌≤◌, ◌<◌, ◌≤ℤ◌, pos, ℕ, ◌+◌, List, [], ◌∷◌, ◌++◌, length, Some, IfSome, codes}
use Rattle.mc_packet.specs.declared.cache.Limits.{Limits}
use Rattle.mc_value.specs.Numbers.{number_of}
use Rattle.mc_script.specs.declared.options.RunLine.{RunLine}
use Rattle.mc_script.specs.declared.options.Setting.{Setting}
use Rattle.mc_script.specs.declared.options.Setting.TheVariants.{Forward, Back, Readahead}
use Rattle.mc_script.specs.declared.options.Chosen.{Chosen}
use Rattle.mc_script.specs.Options.{names_at, nanoseconds, nothing_chosen, set_in}

-- a word and what it sets: a name, and digits whose number is in the option's range
pub data Says : List ℕ → Setting → Type 0 where
  forward : (digits : List ℕ) (n : ℕ) → number_of digits ≡ Some n → 1 ≤ n → n ≤ 1073741824 → Says (codes "--forward=" ++ digits) (Forward n)
  back : (digits : List ℕ) (n : ℕ) → number_of digits ≡ Some n → n ≤ 1073741824 → Says (codes "--back=" ++ digits) (Back n)
  readahead : (digits : List ℕ) (n : ℕ) → number_of digits ≡ Some n → n ≤ 3600000 → Says (codes "--readahead=" ++ digits) (Readahead (nanoseconds n))

-- words that each set an option which was not set before, and what is chosen before and behind them
pub data Sets : Chosen → List (List ℕ) → Chosen → Type 0 where
  none : (chosen : Chosen) → Sets chosen [] chosen
  more : (w : List ℕ) (s : Setting) (ws : List (List ℕ)) (before first last : Chosen) → Says w s → set_in s before ≡ Some first → Sets first ws last → Sets before (w ∷ ws) last

-- words are a line: `run`, options, and the names behind them
pub record IsRunLine (words : List (List ℕ)) (line : RunLine) : Type 0 where
  pub options : List (List ℕ)
  pub names : List (List ℕ)
  pub chosen : Chosen
  pub order : words ≡ codes "run" ∷ options ++ names
  pub set : Sets nothing_chosen options chosen
  pub named : names_at chosen (1 + length options) names ≡ Some line

-- the names are words of so many
pub record IsWithin (count : ℕ) (line : RunLine) : Type 0 where
  pub file : line.file < count
  pub script : IfSome line.script (λ n. n < count)

-- limits within which a cache works
pub record AreLimits (limits : Limits) : Type 0 where
  pub forward : (1 ≤ limits.forward) × (limits.forward ≤ 1073741824)
  pub back : limits.back ≤ 1073741824
  pub readahead : (pos 0 ≤ℤ limits.readahead) × (limits.readahead ≤ℤ pos 3600000000000)
