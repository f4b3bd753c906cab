-- A core as its callers see it.
use Rattle.std.specs.Prelude.{◌≡◌, ℕ, List, [], reverse, Option, None}
use Rattle.mc_props.specs.First.{first_facts}
use Rattle.mc_props.specs.declared.entries.PropEntry.{PropEntry}
use Rattle.mc_props.specs.declared.facts.Facts.{Facts}
use Rattle.mc_props.specs.declared.reading.Reading.{Reading}
use Rattle.mc_player.specs.declared.record.Order.{Order}
use Rattle.mc_player.specs.declared.record.CoreRecord.{CoreRecord}
use Rattle.mc_player.specs.Facts as facts
use Rattle.mc_player.specs.Journals as told
use Rattle.mc_player.specs.Lives.{Table}
use Rattle.mc_player.specs.Rules.{IsAllowed, IsDone}

-- the entries of its table, what the player knows of itself, the order that is out, and the
-- journal, the oldest record first; all else that it holds is what the journal tells
pub record CoreView : Type 0 where
  pub entries : List PropEntry
  pub facts : Facts
  pub out : Option Order
  pub journal : List CoreRecord

-- nothing has happened yet
abbrev pub new_core : List PropEntry → CoreView
new_core entries = record { entries = entries; facts = first_facts; out = None; journal = [] }

-- the journal with its newest record first, as readings of journals have it
abbrev pub history : CoreView → List CoreRecord
history v = reverse v.journal

-- the table of a core whose properties mean this
abbrev pub table_in : (ℕ → Facts → Reading) → CoreView → Table
table_in value v = record { value = value; entries = v.entries }

-- what is true of every core: each record of its journal was allowed, all that was due has come,
-- and the facts and the order that is out are what the journal tells
pub record IsCore (value : ℕ → Facts → Reading) (v : CoreView) : Type 0 where
  pub allowed : IsAllowed (table_in value v) (history v)
  pub done : IsDone (table_in value v) (history v)
  pub facts : v.facts ≡ facts.facts_of (table_in value v) (history v)
  pub out : v.out ≡ told.out (history v)
