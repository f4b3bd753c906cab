-- A table of a list's properties: its entries, and what it answers to a name.
use Rattle.std.specs.Prelude.{◌≡◌, ℕ, ◌<◌, ◌^◌, IsTrue, List, length, slice_get, Option, Some, None, Result, Ok, Err}
use Rattle.mc_props.specs.Entries.{all_differ, names_of, place_of}
use Rattle.mc_props.specs.declared.entries.PropEntry.{PropEntry}
use Rattle.mc_props.specs.declared.reading.Reading.{Reading}
use Rattle.mc_playlist.specs.Fields.{Agree}
use Rattle.mc_playlist.specs.declared.facts.ListFacts.{ListFacts}
use Rattle.mc_playlist.specs.declared.steps.ListError.{ListError}
use Rattle.mc_playlist.specs.declared.steps.ListError.TheVariants as errors

-- a stated function: what the property at each place shows of all facts
abbrev pub Stated : Type 0
Stated = ℕ → ListFacts → Reading

-- of two facts that agree on an entry's mask the stated function answers the same there
abbrev pub Masked : Stated → List PropEntry → Type 0
Masked stated entries = (k : ℕ) (e : PropEntry) → slice_get entries k ≡ Some e
    → (f g : ListFacts) → Agree e.mask f g → stated k f ≡ stated k g

-- what the entries of a table are, for the function that they state
pub record AreEntries (stated : Stated) (entries : List PropEntry) : Type 0 where
  pub few : length entries < 2 ^ 32
  pub distinct : IsTrue (all_differ (names_of entries))
  pub masked : Masked stated entries

-- what the property at a place shows, where a name has one
abbrev pub got_at : Stated → Option ℕ → ListFacts → Result Reading ListError
got_at stated None f = Err errors.NotFound
got_at stated (Some place) f = Ok (stated place f)

-- the answer to a name
abbrev pub got : Stated → List PropEntry → List ℕ → ListFacts → Result Reading ListError
got stated entries name f = got_at stated (place_of name entries) f
