-- What a step leaves of a core: its journal with a record more, or nothing but room.
use Rattle.std.specs.Prelude.{◌≡◌, ℕ, ◌+◌, ◌≤◌, [], ◌∷◌, ◌++◌, Option, Some, None}
use Rattle.slab.specs.Slab.{get}
use Rattle.mc_player.specs.declared.record.Answer.{Answer}
use Rattle.mc_player.specs.declared.record.Answer.TheVariants as answer
use Rattle.mc_player.specs.declared.record.CoreRecord.{CoreRecord}
use Rattle.mc_state.specs.Stands.{CoreState}

-- one record was written; what else the core holds is what its journal tells
pub record Wrote (old new : CoreState) (r : CoreRecord) : Type 0 where
  pub journal : new.journal ≡ old.journal ++ r ∷ []
  pub entries : new.entries ≡ old.entries
  pub room : old.spare ≤ new.spare + 1

-- nothing but room for records changed
abbrev pub IsAsBefore : CoreState → CoreState → Type 0
IsAsBefore old new = new ≡ record old { spare = new.spare }

-- nothing but room changed, also among the clients
pub record IsRoomy (old new : CoreState) : Type 0 where
  pub changed : new ≡ record old { clients = new.clients; spare = new.spare }
  pub same : (c : ℕ) → get new.clients c ≡ get old.clients c

-- a request that is accepted has the number of records before it for a ticket
abbrev pub ticket_for : ℕ → Answer → Option ℕ
ticket_for n answer.Ok = Some n
ticket_for n a = None
