-- What a player ordered of a demuxer, with what became of it; and the file that was loaded.
use Rattle.std.specs.Prelude.{◌≡◌, ℕ, Bool, true, false, if◌then◌else◌, List, [], ◌∷◌, IsSomeAnd, Option, Some, None, ⊤}
use Rattle.mc_packet.specs.declared.choice.Choice.{Choice}
use Rattle.mc_packet.specs.declared.choice.Why.TheVariants.{NoTrack}
use Rattle.mc_tracks.specs.declared.track.Track.{Track}
use Rattle.mc_player.specs.declared.record.Order.{Order}
use Rattle.mc_player.specs.declared.record.Order.TheVariants as order
use Rattle.mc_player.specs.declared.record.Outcome.{Outcome}
use Rattle.mc_player.specs.declared.record.Outcome.TheVariants as outcome
use Rattle.mc_player.specs.declared.record.CoreRecord.{CoreRecord}
use Rattle.mc_player.specs.declared.record.CoreRecord.TheVariants.{Did}
use Rattle.mc_player.specs.Journals.{loading, out}

-- an order for a seek or a selection, with its outcome where it is known
pub record Item : Type 0 where
  pub order : Order
  pub outcome : Option Outcome

-- the demuxer itself is asked
abbrev pub is_asking : Order → Bool
is_asking (order.Seek t dir) = true
is_asking (order.Select set at) = true
is_asking o = false

abbrev pub with_item : Order → Option Outcome → List Item → List Item
with_item o x is = if is_asking o then record { order = o; outcome = x } ∷ is else is

-- before these comes the order that is out, if it asks the demuxer for something, with this outcome
abbrev pub with_out : Option Order → Option Outcome → List Item → List Item
with_out None x is = is
with_out (Some o) x is = with_item o x is

-- the orders for seeks and selections that have their outcomes, the newest first; that which is out
-- has none yet
abbrev pub ordered : List CoreRecord → List Item
ordered [] = []
ordered (Did by x ∷ h) = with_out (out h) (Some x) (ordered h)
ordered (_ ∷ h) = ordered h

-- ---- the file

-- what a player is to load
pub record Opening : Type 0 where
  pub path : List ℕ
  pub tracks : List Track
  pub set : Choice

abbrev pub opened : Opening → Outcome
opened w = outcome.Loaded w.path w.tracks w.set

abbrev pub is_loaded : List CoreRecord → Bool
is_loaded [] = false
is_loaded (Did by (outcome.Loaded path tracks set) ∷ h) = true
is_loaded (r ∷ h) = is_loaded h

-- it is loaded at most once, and is this one
abbrev pub Loads : Opening → List CoreRecord → Type 0
Loads w [] = ⊤
Loads w (Did by (outcome.Loaded path tracks set) ∷ h) =
    (outcome.Loaded path tracks set ≡ opened w) × (is_loaded h ≡ false) × Loads w h
Loads w (r ∷ h) = Loads w h

-- ---- outcomes

-- the outcome is of the order, where the file is this one
abbrev pub IsOf : Opening → Order → Outcome → Type 0
IsOf w order.Load x = x ≡ opened w
IsOf w (order.Seek t dir) outcome.Sought = ⊤
IsOf w (order.Seek t dir) (outcome.Refused NoTrack) = ⊤
IsOf w (order.Select set at) (outcome.Selected s) = s ≡ set
IsOf w o x = ⊥

-- each outcome is of the order that was out
abbrev pub AreOutcomes : Opening → List CoreRecord → Type 0
AreOutcomes w [] = ⊤
AreOutcomes w (Did by x ∷ h) = IsSomeAnd (out h) (λ o. IsOf w o x) × AreOutcomes w h
AreOutcomes w (r ∷ h) = AreOutcomes w h

-- a file is loaded only where it was ordered, and is not yet while its order is out
pub record IsLoading (h : List CoreRecord) : Type 0 where
  pub ordered : is_loaded h ≡ true → loading h ≡ true
  pub begun : out h ≡ Some order.Load → loading h ≡ true
  pub pending : out h ≡ Some order.Load → is_loaded h ≡ false

-- each file that is loaded is this one
abbrev pub AreLoads : Opening → List CoreRecord → Type 0
AreLoads w [] = ⊤
AreLoads w (Did by (outcome.Loaded path tracks set) ∷ h) =
    (outcome.Loaded path tracks set ≡ opened w) × AreLoads w h
AreLoads w (r ∷ h) = AreLoads w h

-- so the file is loaded at most once, and each outcome is of its order
abbrev pub LoadsOnce : List CoreRecord → Type 0
LoadsOnce h = IsLoading h × ((w : Opening) → AreLoads w h → Loads w h × AreOutcomes w h)
