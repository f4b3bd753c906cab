-- Paths into a value: names, places and `count`, between slashes.
use Rattle.std.specs.Prelude.{ℕ, pos, min, ◌-◌, ◌^◌, Bool, if◌then◌else◌, ◌==◌, List, [], ◌∷◌, length, codes, find, slice_get, Option, Some, None}
use Rattle.std.specs.Option.{option_map, option_and_then}
use Rattle.std.specs.Str.{bytes_eq}
use Rattle.mc_value.specs.Numbers.{place_of}
use Rattle.mc_value.specs.declared.value.Value.{Value, out-Value}
use Rattle.mc_value.specs.declared.value.Value.TheOpen.{Value-F}
use Rattle.mc_value.specs.declared.value.Value.TheVariants as value

-- a character in front of the first part
abbrev pub in_first : ℕ → List (List ℕ) → List (List ℕ)
in_first c [] = (c ∷ []) ∷ []
in_first c (s ∷ ss) = (c ∷ s) ∷ ss

-- the parts of a text between slashes
abbrev pub steps : List ℕ → List (List ℕ)
steps [] = [] ∷ []
steps (c ∷ cs) = if c == 47 then [] ∷ steps cs else in_first c (steps cs)

-- the value at a place, where the list has that place
abbrev pub item_at : List Value → Option ℕ → Option Value
item_at vs None = None
item_at vs (Some i) = slice_get vs i

-- a pair of this name
abbrev pub is_named : List ℕ → List ℕ × Value → Bool
is_named name p = bytes_eq p.0 name

-- the value to which a step leads: at a place of an array, or in a map's first pair of that name
abbrev pub inner_at : List ℕ → Value-F Value → Option Value
inner_at s (Value-F.Array vs) = item_at vs (place_of s)
inner_at s (Value-F.Map ps) = option_map (λ p. p.1) (find (is_named s) ps)
inner_at s _ = None

-- the last step's: `count` is an array's length, as far as an `i64` holds it
abbrev pub last_at : List ℕ → Value-F Value → Option Value
last_at s (Value-F.Array vs) =
    if bytes_eq s (codes "count") then Some (value.Int (pos (min (length vs) (2 ^ 63 - 1))))
    else inner_at s (Value-F.Array vs)
last_at s v = inner_at s v

-- the value to which steps lead, one inside the other
abbrev pub walked : Value → List (List ℕ) → Option Value
walked v [] = Some v
walked v (s ∷ []) = last_at s (out-Value v)
walked v (s ∷ t ∷ ss) = option_and_then (λ w. walked w (t ∷ ss)) (inner_at s (out-Value v))

-- the value at a path, where it leads to one; an empty path is the value itself
abbrev pub path_of : Value → List ℕ → Option Value
path_of v [] = Some v
path_of v (c ∷ cs) = walked v (steps (c ∷ cs))
