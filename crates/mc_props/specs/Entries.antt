-- The entries of a table of properties: names, masks, and what a name asks for.
use Rattle.std.specs.Prelude.{◌≡◌, ℕ, ◌<◌, ◌^◌, Bool, true, not, ◌==◌, ◌&&◌, ◌||◌, IsTrue, List, [], ◌∷◌, map, length, slice_get, position, codes, Option, Some}
use Rattle.std.specs.List.{before_first, after_first, list_all, list_any}
use Rattle.std.specs.Str.{bytes_eq}
use Rattle.mc_props.specs.Fields.{Agree}
use Rattle.mc_props.specs.declared.facts.Facts.{Facts}
use Rattle.mc_props.specs.declared.entries.PropEntry.{PropEntry}
use Rattle.mc_props.specs.declared.reading.Reading.{Reading}

-- the property that a name asks for: its part before the first slash
abbrev pub property_part : List ℕ → List ℕ
property_part name = before_first (λ c. c == 47) name

-- the path into the property's value: the part behind the first slash
abbrev pub path_part : List ℕ → List ℕ
path_part name = after_first (λ c. c == 47) name

abbrev pub has_name : List ℕ → PropEntry → Bool
has_name name e = bytes_eq e.name name

-- the place of the entry of a name
abbrev pub place_of : List ℕ → List PropEntry → Option ℕ
place_of name entries = position (has_name name) entries

-- the names that may be set
abbrev pub is_setting : List ℕ → Bool
is_setting name = bytes_eq name (codes "pause") || (bytes_eq name (codes "mute")
    || (bytes_eq name (codes "vid")
    || (bytes_eq name (codes "aid") || bytes_eq name (codes "sid"))))

-- of two facts that agree on an entry's mask the stated function answers the same there
abbrev pub Masked : (ℕ → Facts → Reading) → List PropEntry → Type 0
Masked value entries = (k : ℕ) (e : PropEntry) → slice_get entries k ≡ Some e
    → (f g : Facts) → Agree e.mask f g → value k f ≡ value k g

-- whether no two of these texts are the same
abbrev pub all_differ : List (List ℕ) → Bool
all_differ [] = true
all_differ (s ∷ ss) = not (list_any (bytes_eq s) ss) && all_differ ss

abbrev pub names_of : List PropEntry → List (List ℕ)
names_of entries = map (λ (e : PropEntry). e.name) entries

-- an entry may be set only if its name is one that may
abbrev pub is_rightly_set : PropEntry → Bool
is_rightly_set e = not e.writable || is_setting e.name

-- what the entries of a table are, for the function that they state
pub record AreEntries (value : ℕ → Facts → Reading) (entries : List PropEntry) : Type 0 where
  pub few : length entries < 2 ^ 32
  pub distinct : IsTrue (all_differ (names_of entries))
  pub settings : IsTrue (list_all is_rightly_set entries)
  pub masked : Masked value entries
