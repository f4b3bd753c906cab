-- Twenty properties of a list, each of which shows how many films there are.
use Rattle.std.specs.Prelude.{ℕ, pos, ◌-◌, ◌^◌, min, false, List, [], ◌∷◌, map, codes, length}
use Rattle.mc_value.specs.declared.value.Value.TheVariants.{Int}
use Rattle.mc_props.specs.declared.entries.PropEntry.{PropEntry}
use Rattle.mc_props.specs.declared.reading.Reading.{Reading}
use Rattle.mc_props.specs.declared.reading.Reading.TheVariants.{Is}
use Rattle.mc_playlist.specs.declared.facts.ListFacts.{ListFacts}

-- how many names there are, as far as an `i64` holds it
abbrev pub count_at : ℕ → ListFacts → Reading
count_at place f = Is (Int (pos (min (length f.names) (2 ^ 63 - 1))))

-- its field is that of the names, which is 1
abbrev pub entry_of : List ℕ → PropEntry
entry_of name = record { name = name; mask = 1; writable = false }

abbrev pub letters : List (List ℕ)
letters = codes "a" ∷ codes "b" ∷ codes "c" ∷ codes "d" ∷ codes "e" ∷ codes "f" ∷ codes "g" ∷ codes "h" ∷ codes "i" ∷ codes "j"
    ∷ codes "k" ∷ codes "l" ∷ codes "m" ∷ codes "n" ∷ codes "o" ∷ codes "p" ∷ codes "q" ∷ codes "r" ∷ codes "s" ∷ codes "t" ∷ []

abbrev pub twenty : List PropEntry
twenty = map entry_of letters
