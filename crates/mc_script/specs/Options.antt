-- The line grammar of `run`: run OPTIONS FILE [SCRIPT].
use Rattle.std.specs.Prelude.{ℕ, ℤ, pos, nat_le, ◌+◌, ◌*◌, ◌&&◌, if◌then◌else◌, List, [], ◌∷◌, take, drop, length, Option, Some, None, unwrap_or, option_and_then, codes}
use Rattle.std.specs.Option.{option_map}
use Rattle.std.specs.Str.{bytes_eq}
use Rattle.mc_packet.specs.declared.cache.Limits.{Limits}
use Rattle.mc_value.specs.Numbers.{number_of}
use Rattle.mc_script.specs.declared.options.RunLine.{RunLine}
use Rattle.mc_script.specs.declared.options.Setting.{Setting}
use Rattle.mc_script.specs.declared.options.Setting.TheVariants.{Forward, Back, Readahead}
use Rattle.mc_script.specs.declared.options.Chosen.{Chosen}
use Rattle.mc_script.specs.Words.{is_name}

-- the number whose digits stand behind a name
abbrev pub number_behind : List ℕ → List ℕ → Option ℕ
number_behind name w = if bytes_eq (take (length name) w) name then number_of (drop (length name) w) else None

-- a number from least to most
abbrev pub between : ℕ → ℕ → Option ℕ → Option ℕ
between least most None = None
between least most (Some n) = if nat_le least n && nat_le n most then Some n else None

-- nanoseconds of milliseconds
abbrev pub nanoseconds : ℕ → ℤ
nanoseconds n = pos (n * 1000000)

abbrev pub first_of_both : {A : Type 0} → Option A → Option A → Option A
first_of_both None other = other
first_of_both (Some x) other = Some x

-- what a word sets
abbrev pub setting_of : List ℕ → Option Setting
setting_of w = first_of_both (option_map Forward (between 1 1073741824 (number_behind (codes "--forward=") w))) (first_of_both (option_map Back (between 0 1073741824 (number_behind (codes "--back=") w))) (option_map (λ n. Readahead (nanoseconds n)) (between 0 3600000 (number_behind (codes "--readahead=") w))))

-- nothing is chosen
abbrev pub nothing_chosen : Chosen
nothing_chosen = record { forward = None; back = None; readahead = None }

-- a choice and a setting more, where that option was not set
abbrev pub unless_set : {A : Type 0} → Option A → Chosen → Option Chosen
unless_set None chosen = Some chosen
unless_set (Some x) chosen = None

abbrev pub set_in : Setting → Chosen → Option Chosen
set_in (Forward n) chosen = unless_set chosen.forward (record chosen { forward = Some n })
set_in (Back n) chosen = unless_set chosen.back (record chosen { back = Some n })
set_in (Readahead t) chosen = unless_set chosen.readahead (record chosen { readahead = Some t })

-- the limits of a choice: 150 MiB ahead, 50 MiB behind and a second are read where no option says so
abbrev pub limits_of : Chosen → Limits
limits_of chosen = record { forward = unwrap_or chosen.forward 157286400; back = unwrap_or chosen.back 52428800; readahead = unwrap_or chosen.readahead (pos 1000000000) }

-- behind the options: FILE or FILE SCRIPT, the first of them the word of this number
abbrev pub names_at : Chosen → ℕ → List (List ℕ) → Option RunLine
names_at chosen at [] = None
names_at chosen at (f ∷ []) = if is_name f then Some (record { limits = limits_of chosen; file = at; script = None }) else None
names_at chosen at (f ∷ s ∷ []) = if is_name f && is_name s then Some (record { limits = limits_of chosen; file = at; script = Some (at + 1) }) else None
names_at chosen at (f ∷ s ∷ x ∷ xs) = None

-- what a word sets and what follows it, or the names where it sets nothing
abbrev pub set_or_named : Option Setting → Chosen → (Chosen → Option RunLine) → Option RunLine → Option RunLine
set_or_named None chosen more names = names
set_or_named (Some s) chosen more names = option_and_then more (set_in s chosen)

abbrev pub options_at : Chosen → ℕ → List (List ℕ) → Option RunLine
options_at chosen at [] = None
options_at chosen at (w ∷ ws) = set_or_named (setting_of w) chosen (λ more. options_at more (at + 1) ws) (names_at chosen at (w ∷ ws))

-- the line that words say
abbrev pub run_line : List (List ℕ) → Option RunLine
run_line [] = None
run_line (command ∷ words) = if bytes_eq command (codes "run") then options_at nothing_chosen 1 words else None
