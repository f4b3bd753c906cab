-- Pushes to clients in order of creation.
use Rattle.std.specs.Prelude.{◌≡◌, ℕ, ◌+◌, ◌≤◌, List, ◌++◌, reverse}
use Rattle.mc_dispatch.specs.declared.request.ClientNo.{ClientNo}
use Rattle.mc_ring.specs.declared.event.Event.{Event}
use Rattle.mc_props.specs.declared.facts.Facts.{Facts}
use Rattle.mc_props.specs.declared.reading.Reading.{Reading}
use Rattle.mc_player.specs.Effects.{Effect, pushes_to, rest}
use Rattle.mc_state.specs.Stands.{CoreState, readings_of, table_of}

-- what is still to come
abbrev pub coming : (ℕ → Facts → Reading) → CoreState → List Effect
coming value s = rest (table_of value s) (reverse s.journal)

-- it begins with a push to each of these clients that hears the event, and this is behind it
abbrev pub ComesWith : (ℕ → Facts → Reading) → Event → List ClientNo → List Effect → CoreState
    → Type 0
ComesWith value e cs later s =
    coming value s ≡ pushes_to (table_of value s) e (reverse s.journal) cs ++ later

abbrev pub IsToPush : (ℕ → Facts → Reading) → Event → List ClientNo → CoreState → Type 0
IsToPush value e cs s = (later : List Effect) × ComesWith value e cs later s

-- at most so many records were written, and nothing changed but clients
pub record Within (n : ℕ) (old new : CoreState) : Type 0 where
  pub entries : new.entries ≡ old.entries
  pub same : readings_of new ≡ readings_of old
  pub room : old.spare ≤ new.spare + n
