-- A value's JSON text.
use Rattle.std.specs.Prelude.{ℕ, ◌+◌, ◌/◌, ◌%◌, Bool, if◌then◌else◌, ◌==◌, ◌||◌, nat_lt, List, [], ◌∷◌, ◌++◌, map, flat_map, codes, encode_utf8}
use Rattle.std.specs.Fmt.{signed_decimal}
use Rattle.std.specs.Str.{chars}
use Rattle.mc_value.specs.declared.value.Value.{Value, fold-Value}
use Rattle.mc_value.specs.declared.value.Value.TheOpen.{Value-F}

-- a digit of a number in base 16, in lower case
abbrev pub hex_digit : ℕ → ℕ
hex_digit d = if nat_lt d 10 then 48 + d else 87 + d

-- a character in a JSON string: `"` and `\` stand behind a `\`, and one below U+0020 is `\u00xx`
abbrev pub escaped : ℕ → List ℕ
escaped c =
    if c == 34 || c == 92 then 92 ∷ c ∷ [] else
    if nat_lt c 32 then codes "\\u00" ++ (hex_digit (c / 16) ∷ hex_digit (c % 16) ∷ []) else
    encode_utf8 c

-- a text as a JSON string
abbrev pub json_string : List ℕ → List ℕ
json_string s = 34 ∷ flat_map escaped (chars s) ++ 34 ∷ []

-- texts with a comma between each two
abbrev pub with_commas : List (List ℕ) → List ℕ
with_commas [] = []
with_commas (x ∷ xs) = x ++ flat_map (λ y. 44 ∷ y) xs

abbrev pub json_flag : Bool → List ℕ
json_flag b = if b then codes "true" else codes "false"

-- a name and its value's text, in a map
abbrev pub json_pair : List ℕ × List ℕ → List ℕ
json_pair p = json_string p.0 ++ (58 ∷ p.1)

-- one level, with the text of each value inside
abbrev pub json_step : Value-F (List ℕ) → List ℕ
json_step Value-F.None = codes "null"
json_step (Value-F.Str s) = json_string s
json_step (Value-F.Flag b) = json_flag b
json_step (Value-F.Int n) = signed_decimal n
json_step (Value-F.Array parts) = 91 ∷ with_commas parts ++ 93 ∷ []
json_step (Value-F.Map parts) = 123 ∷ with_commas (map json_pair parts) ++ 125 ∷ []

-- the compact JSON text of a value, its names in the order given
abbrev pub json_of : Value → List ℕ
json_of = fold-Value (List ℕ) json_step
