-- The observers of a client: what each was last given, what it has now, and which of them a change
-- may concern.
use Rattle.std.specs.Prelude.{◌≡◌, ℕ, Bool, true, false, not, ◌==◌, ◌||◌, List, filter, All, Option, Some, None}
use Rattle.mc_value.specs.declared.value.Value.{Value}
use Rattle.mc_value.specs.declared.value.Format.{Format}
use Rattle.mc_props.specs.Entries.{place_of, property_part}
use Rattle.mc_props.specs.Fields.{AgreeOutside, share_field}
use Rattle.mc_props.specs.Readings.{mask_at, present_of}
use Rattle.mc_props.specs.declared.facts.Facts.{Facts}
use Rattle.mc_props.specs.declared.entries.PropEntry.{PropEntry}
use Rattle.mc_props.specs.declared.reading.Reading.{Reading}
use Rattle.mc_client.specs.declared.watch.Watch.{Watch}

-- what an observer is given: a format, and the value in it
abbrev pub Shown : Type 0
Shown = Format × Value

-- what an observer has at these facts
abbrev pub present : (ℕ → Facts → Reading) → Facts → Watch → Shown
present stated facts w = present_of stated w.entry w.name w.format facts

-- it was last given what it has
abbrev pub IsSettled : (Watch → Shown) → Watch → Type 0
IsSettled now w = w.given ≡ Some (now w)

-- its entry is where the table has its name's property
abbrev pub IsPlaced : List PropEntry → Watch → Type 0
IsPlaced entries w = w.entry ≡ place_of (property_part w.name) entries

-- without a flag it was last given what it has
abbrev pub IsSure : (Watch → Shown) → Watch → Type 0
IsSure now w = w.flagged ≡ false → IsSettled now w

-- a client's observers are fresh for facts: only flagged ones may have something else than they
-- were last given
pub record Fresh (stated : ℕ → Facts → Reading) (entries : List PropEntry) (facts : Facts)
    (ws : List Watch) : Type 0 where
  pub placed : All (IsPlaced entries) ws
  pub sure : All (IsSure (present stated facts)) ws

-- what a call leaves is as fresh as what it found, for every table and all facts
abbrev pub KeepsFresh : List Watch → List Watch → Type 0
KeepsFresh ws ws' = (stated : ℕ → Facts → Reading) (entries : List PropEntry) (facts : Facts)
    → Fresh stated entries facts ws → Fresh stated entries facts ws'

-- so where the table has the name's property at this entry
abbrev pub KeepsFreshAt : List ℕ → Option ℕ → List Watch → List Watch → Type 0
KeepsFreshAt name entry ws ws' =
    (stated : ℕ → Facts → Reading) (entries : List PropEntry) (facts : Facts)
    → entry ≡ place_of (property_part name) entries
    → Fresh stated entries facts ws → Fresh stated entries facts ws'

-- what was fresh for facts is then fresh for all that differ from them in a mask's fields alone
abbrev pub Refreshes : (ℕ → Facts → Reading) → List PropEntry → ℕ → List Watch → List Watch → Type 0
Refreshes stated entries mask ws ws' = (f g : Facts) → AgreeOutside mask f g
    → Fresh stated entries f ws → Fresh stated entries g ws'

-- with the flag up or down
abbrev pub with_flag : Watch → Bool → Watch
with_flag w flagged = record {
  id = w.id;
  name = w.name;
  format = w.format;
  entry = w.entry;
  flagged = flagged;
  given = w.given;
}

-- with what it is given now; it isn't flagged then
abbrev pub with_given : Watch → Shown → Watch
with_given w shown = record {
  id = w.id;
  name = w.name;
  format = w.format;
  entry = w.entry;
  flagged = false;
  given = Some shown;
}

-- it was read
abbrev pub cleared : Watch → Watch
cleared w = with_flag w false

-- flagged where the fields of a mask have changed, on which its property depends
abbrev pub flagged_for : List PropEntry → ℕ → Watch → Watch
flagged_for entries mask w = with_flag w (w.flagged || share_field (mask_at entries w.entry) mask)

abbrev pub has_id : ℕ → Watch → Bool
has_id id w = w.id == id

-- the observers of other numbers, in their order
abbrev pub without_id : ℕ → List Watch → List Watch
without_id id ws = filter (λ w. not (has_id id w)) ws

-- an observer as it is made
abbrev pub new_watch : ℕ → List ℕ → Format → Option ℕ → Watch
new_watch id name format entry = record {
  id = id;
  name = name;
  format = format;
  entry = entry;
  flagged = true;
  given = None;
}
