-- A core in the midst of a call as contracts see it, and how it stands for its journal.
use Rattle.std.specs.Prelude.{◌≡◌, ℕ, Bool, List, reverse, Option, IfSome}
use Rattle.std.specs.Option.{option_map}
use Rattle.slab.specs.Slab.{Slab, get}
use Rattle.mc_dispatch.specs.Queue.{QueueState}
use Rattle.mc_dispatch.specs.declared.request.ClientNo.{ClientNo}
use Rattle.mc_dispatch.specs.declared.request.Request.{Request}
use Rattle.mc_props.specs.declared.entries.PropEntry.{PropEntry}
use Rattle.mc_props.specs.declared.facts.Facts.{Facts}
use Rattle.mc_props.specs.declared.reading.Reading.{Reading}
use Rattle.mc_client.specs.Client.{ClientState}
use Rattle.mc_client.specs.Watches.{Fresh}
use Rattle.mc_player.specs.declared.deed.Deed.{Deed}
use Rattle.mc_player.specs.declared.record.Order.{Order}
use Rattle.mc_player.specs.declared.record.CoreRecord.{CoreRecord}
use Rattle.mc_player.specs.Lives.{Table, life}
use Rattle.mc_player.specs.Journals as told
use Rattle.mc_player.specs.Facts as facts
use Rattle.mc_player.specs.Effects as effects
use Rattle.mc_player.specs.Rules.{IsAllowed, IsDone}

-- its table's entries; its clients, under their numbers and in order of creation; what it holds of
-- requests, facts and orders; its journal, the oldest record first; and how many records more find
-- room with no memory
pub record CoreState : Type 0 where
  pub entries : List PropEntry
  pub clients : Slab ClientState
  pub order : List ClientNo
  pub queue : QueueState
  pub facts : Facts
  pub work : Option Request
  pub deed : Deed
  pub refused : Bool
  pub out : Option Order
  pub loading : Bool
  pub restart : Bool
  pub quits : Bool
  pub journal : List CoreRecord
  pub spare : ℕ

-- what a journal tells of a core, but for what it tells of each client
pub record Readings : Type 0 where
  pub order : List ClientNo
  pub queued : List Request
  pub facts : Facts
  pub work : Option Request
  pub deed : Deed
  pub refused : Bool
  pub out : Option Order
  pub loading : Bool
  pub restart : Bool
  pub quits : Bool

abbrev pub readings_of : CoreState → Readings
readings_of s = record {
  order = s.order;
  queued = s.queue.requests;
  facts = s.facts;
  work = s.work;
  deed = s.deed;
  refused = s.refused;
  out = s.out;
  loading = s.loading;
  restart = s.restart;
  quits = s.quits;
}

-- the journal with its newest record first
abbrev pub told_by : Table → List CoreRecord → Readings
told_by t h = record {
  order = told.clients h;
  queued = told.queued h;
  facts = facts.facts_of t h;
  work = told.worked h;
  deed = facts.last_deed t h;
  refused = told.refused h;
  out = told.out h;
  loading = told.loading h;
  restart = effects.restart h;
  quits = facts.quits t h;
}

-- the table of a core whose properties mean this
abbrev pub table_of : (ℕ → Facts → Reading) → CoreState → Table
table_of value s = record { value = value; entries = s.entries }

-- each client is what the journal tells of its number, and is fresh for the facts
pub record HasClients (t : Table) (cs : Slab ClientState) (f : Facts) (h : List CoreRecord)
    : Type 0 where
  pub lives : (c : ℕ) → option_map life (get cs c) ≡ facts.life_of t c h
  pub fresh : (c : ℕ) → IfSome (get cs c) (λ k. Fresh t.value t.entries f k.watches)

-- every record of the journal was allowed, and the core holds what it tells
pub record StandsFor (t : Table) (s : CoreState) (h : List CoreRecord) : Type 0 where
  pub allowed : IsAllowed t h
  pub clients : HasClients t s.clients s.facts h
  pub tells : readings_of s ≡ told_by t h

abbrev pub Stands : (ℕ → Facts → Reading) → CoreState → Type 0
Stands value s = StandsFor (table_of value s) s (reverse s.journal)

-- all that was due has come, so that a call may be made
abbrev pub IsQuiet : (ℕ → Facts → Reading) → CoreState → Type 0
IsQuiet value s = IsDone (table_of value s) (reverse s.journal)
