-- What a table answers: a property's value in a format, and what an observer of it has.
use Rattle.std.specs.Prelude.{◌≡◌, ℕ, List, Option, Some, None, Result, Ok, Err, slice_get, ⊤}
use Rattle.std.specs.Option.{ok_or}
use Rattle.mc_value.specs.declared.value.Value.{Value}
use Rattle.mc_value.specs.declared.value.Value.TheVariants as value
use Rattle.mc_value.specs.declared.value.Format.{Format}
use Rattle.mc_value.specs.declared.value.Format.TheVariants as format
use Rattle.mc_value.specs.Conversions.{converted}
use Rattle.mc_value.specs.Paths.{path_of}
use Rattle.mc_props.specs.Entries.{path_part, place_of, property_part}
use Rattle.mc_props.specs.declared.facts.Facts.{Facts}
use Rattle.mc_props.specs.declared.entries.PropEntry.{PropEntry}
use Rattle.mc_props.specs.declared.reading.Reading.{Reading}
use Rattle.mc_props.specs.declared.reading.Reading.TheVariants as reading
use Rattle.mc_props.specs.declared.refusal.PropError.{PropError}
use Rattle.mc_props.specs.declared.refusal.PropError.TheVariants as refusal

-- a call's answer is this one; want of memory says nothing
abbrev pub Answers : {T : Type 0} → Result T PropError → Result T PropError → Type 0
Answers (Ok given) wanted = Ok given ≡ wanted
Answers (Err refusal.NoMemory) wanted = ⊤
Answers (Err e) wanted = Err e ≡ wanted

-- the value to which a path leads in a reading, where there is one
abbrev pub cut : List ℕ → Reading → Option Value
cut path reading.Unavailable = None
cut path (reading.Is v) = path_of v path

-- a value in a format, or why there is none
abbrev pub given_in : Format → Option Value → Result Value PropError
given_in to None = Err refusal.Unavailable
given_in to (Some v) = ok_or (converted v to) refusal.PropertyFormat

-- what is read at a place: the entry's stated function, cut by the name's path
abbrev pub read_at : (ℕ → Facts → Reading) → ℕ → List ℕ → Facts → Option Value
read_at stated place name facts = cut (path_part name) (stated place facts)

abbrev pub got_at : (ℕ → Facts → Reading) → Option ℕ → List ℕ → Facts → Format
    → Result Value PropError
got_at stated None name facts to = Err refusal.NotFound
got_at stated (Some place) name facts to = given_in to (read_at stated place name facts)

-- the answer to a name in a format
abbrev pub got : (ℕ → Facts → Reading) → List PropEntry → List ℕ → Facts → Format
    → Result Value PropError
got stated entries name facts to =
    got_at stated (place_of (property_part name) entries) name facts to

-- the format and the value that an observer is given: none of both where there is no answer in its
-- format
abbrev pub shown : Format → Result Value PropError → Format × Value
shown to (Ok v) = (to, v)
shown to (Err e) = (format.None, value.None)

-- what an observer of a name has at these facts; its entry is the place at which the name's
-- property stands, if any
abbrev pub present_of : (ℕ → Facts → Reading) → Option ℕ → List ℕ → Format → Facts → Format × Value
present_of stated entry name to facts = shown to (got_at stated entry name facts to)

-- what an observer of a name has at these facts, by the name alone
abbrev pub presented : (ℕ → Facts → Reading) → List PropEntry → List ℕ → Facts → Format
    → Format × Value
presented stated entries name facts to = shown to (got stated entries name facts to)

-- it is what an observer has whose entry is where the table has the name's property
abbrev pub IsPresented : (ℕ → Facts → Reading) → List PropEntry → Option ℕ → List ℕ → Format → Facts
    → Type 0
IsPresented stated entries entry name to facts = entry ≡ place_of (property_part name) entries
    → present_of stated entry name to facts ≡ presented stated entries name facts to

-- it is the same at both facts
abbrev pub PresentsSame : (ℕ → Facts → Reading) → Option ℕ → List ℕ → Format → Facts → Facts
    → Type 0
PresentsSame stated entry name to f g =
    present_of stated entry name to f ≡ present_of stated entry name to g

-- the mask of an entry; an unknown name has no field
abbrev pub mask_of : Option PropEntry → ℕ
mask_of None = 0
mask_of (Some e) = e.mask

abbrev pub mask_at : List PropEntry → Option ℕ → ℕ
mask_at entries None = 0
mask_at entries (Some place) = mask_of (slice_get entries place)
