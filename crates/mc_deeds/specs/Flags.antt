-- Clients that stay fresh where fields of the facts change.
use Rattle.std.specs.Prelude.{◌≡◌, ℕ, ◌⊎◌, true, List, Option, Some, IfSome}
use Rattle.std.specs.Option.{option_map}
use Rattle.std.specs.List.{list_any}
use Rattle.slab.specs.Slab.{Slab, get}
use Rattle.mc_dispatch.specs.declared.request.ClientNo.{ClientNo}
use Rattle.mc_props.specs.Fields.{AgreeOutside}
use Rattle.mc_props.specs.declared.entries.PropEntry.{PropEntry}
use Rattle.mc_props.specs.declared.facts.Facts.{Facts}
use Rattle.mc_props.specs.declared.reading.Reading.{Reading}
use Rattle.mc_client.specs.Client.{ClientState, after_flag}
use Rattle.mc_client.specs.Watches.{Fresh, Refreshes}
use Rattle.mc_player.specs.Laws.{has_number}
use Rattle.mc_player.specs.Lives.{life}

-- the client stands there flagged
pub record IsFlaggedAt (value : ℕ → Facts → Reading) (entries : List PropEntry) (mask : ℕ)
    (k : ClientState) (found : Option ClientState) : Type 0 where
  pub left : ClientState
  pub stands : found ≡ Some left
  pub after : left ≡ after_flag k entries mask
  pub fresh : Refreshes value entries mask k.watches left.watches

-- each client is fresh for the facts
abbrev pub AllFresh : (ℕ → Facts → Reading) → List PropEntry → Facts → Slab ClientState → Type 0
AllFresh value entries f cs =
    (c : ℕ) → IfSome (get cs c) (λ k. Fresh value entries f k.watches)

-- clients of these numbers are fresh for facts that differ in the mask's fields alone; the others
-- may be; no life changed
pub record AreFlagged (value : ℕ → Facts → Reading) (entries : List PropEntry) (f : Facts)
    (mask : ℕ) (order : List ClientNo) (old new : Slab ClientState) : Type 0 where
  pub lives : (c : ℕ) → option_map life (get new c) ≡ option_map life (get old c)
  pub either : (g : Facts) → AgreeOutside mask f g → (c : ℕ) → IfSome (get new c)
      (λ k. Fresh value entries f k.watches ⊎ Fresh value entries g k.watches)
  pub fresh : (g : Facts) → AgreeOutside mask f g → (c : ℕ)
      → list_any (has_number c) order ≡ true
      → IfSome (get new c) (λ k. Fresh value entries g k.watches)
