-- The properties of a list in these tests: three after mpv's manual, and one of a front end's own.
use Rattle.std.specs.Prelude.{ℕ, ℤ, pos, negsuc, ◌+◌, ◌-◌, ◌^◌, min, ◌==◌, Bool, false, if◌then◌else◌, List, [], ◌∷◌, codes, length, Option, Some, None}
use Rattle.mc_value.specs.declared.value.Value.{Value}
use Rattle.mc_value.specs.declared.value.Value.TheVariants as value
use Rattle.mc_props.specs.declared.entries.PropEntry.{PropEntry}
use Rattle.mc_props.specs.declared.reading.Reading.{Reading}
use Rattle.mc_props.specs.declared.reading.Reading.TheVariants.{Is, Unavailable}
use Rattle.mc_playlist.specs.declared.facts.ListFacts.{ListFacts}

-- a number as a value, as far as an `i64` holds it
abbrev pub number_value : ℕ → Value
number_value n = value.Int (pos (min n (2 ^ 63 - 1)))

-- the list's place, or -1
abbrev pub pos_value : Option ℕ → Value
pos_value None = value.Int (negsuc 0)
pos_value (Some p) = number_value p

abbrev pub is_at : Option ℕ → ℕ → Bool
is_at None k = false
is_at (Some p) k = p == k

-- an entry: its name, and whether the list's place is its own
abbrev pub entry_value : List ℕ → Bool → Value
entry_value name current = value.Map ((codes "filename", value.Str name)
    ∷ (codes "current", value.Flag current) ∷ [])

-- the entries from a place on
abbrev pub entry_values : ℕ → Option ℕ → List (List ℕ) → List Value
entry_values k p [] = []
entry_values k p (name ∷ names) =
    entry_value name (is_at p k) ∷ entry_values (k + 1) p names

-- how many entries stand behind the list's place; all where it has none
abbrev pub left_behind : Option ℕ → ℕ → ℕ
left_behind None n = n
left_behind (Some p) n = n - (p + 1)

-- the property at a place; no other place has one
abbrev pub own_of : ℕ → ListFacts → Reading
own_of place f =
    if place == 0 then Is (number_value (length f.names)) else
    if place == 1 then Is (pos_value f.pos) else
    if place == 2 then Is (value.Array (entry_values 0 f.pos f.names)) else
    if place == 3 then Is (number_value (left_behind f.pos (length f.names))) else Unavailable

abbrev pub entry_of : List ℕ → ℕ → PropEntry
entry_of name mask = record { name = name; mask = mask; writable = false }

-- their entries: fields 1 are the names, 2 the place
abbrev pub own_table : List PropEntry
own_table = entry_of (codes "playlist-count") 1 ∷ entry_of (codes "playlist-pos") 2
    ∷ entry_of (codes "playlist") 3 ∷ entry_of (codes "playlist-left") 3 ∷ []
