-- Turns of a player's core, whole and in part.
use Rattle.std.specs.Prelude.{◌≡◌, ◌⊎◌, ℕ, zero, suc, ◌+◌, true, List, [], ◌∷◌, Option, Some, None, is_some}
use Rattle.mc_journal.specs.Films.{Film}
use Rattle.mc_player.specs.declared.record.Order.{Order}
use Rattle.mc_player.specs.declared.record.CoreRecord.{CoreRecord}
use Rattle.mc_player.specs.declared.record.CoreRecord.TheVariants.{Learned}
use Rattle.mc_player.specs.Lives.{Table}
use Rattle.mc_player.specs.Orders.{Opening}
use Rattle.mc_story.specs.Steps.{Both, Carrying, Doing, Learning, Working}

-- the order that a turn's work gave is carried and done
abbrev pub TurnEnds : Opening → ℕ → Option Order → Both → Both → Type 0
TurnEnds w by None worked s' = s' ≡ worked
TurnEnds w by (Some o) worked s' =
    (carried : Both) × Carrying w by worked carried × Doing by carried s'

-- one turn: a view is learned, then a work is made, and its order is carried and done
pub record CoreTurn (film : Film) (w : Opening) (t : Table) (by : ℕ) (s s' : Both) : Type 0 where
  pub learnt : Both
  pub learns : Learning film by s learnt
  pub worked : Both
  pub works : Working t by learnt worked
  pub ends : TurnEnds w by worked.order worked s'

-- its order was carried, and isn't done
pub record CarriedTurn (film : Film) (w : Opening) (t : Table) (by : ℕ) (s s' : Both)
    : Type 0 where
  pub learnt : Both
  pub learns : Learning film by s learnt
  pub worked : Both
  pub works : Working t by learnt worked
  pub carries : Carrying w by worked s'

-- its work gave an order, which isn't carried
pub record OrderedTurn (film : Film) (t : Table) (by : ℕ) (s s' : Both) : Type 0 where
  pub learnt : Both
  pub learns : Learning film by s learnt
  pub works : Working t by learnt s'
  pub is_out : is_some s'.order ≡ true

-- a turn that stands in part: its work is not made, its order is not carried, or it is not done
abbrev pub TurnInPart : Film → Opening → Table → ℕ → Both → Both → Type 0
TurnInPart film w t by s s' =
    Learning film by s s' ⊎ OrderedTurn film t by s s' ⊎ CarriedTurn film w t by s s'

-- so many turns
abbrev pub CoreTurns : Film → Opening → Table → ℕ → ℕ → Both → Both → Type 0
CoreTurns film w t by zero s s' = s' ≡ s
CoreTurns film w t by (suc n) s s' =
    (mid : Both) × CoreTurn film w t by s mid × CoreTurns film w t by n mid s'

-- how many views were learned
abbrev pub views_learned : List CoreRecord → ℕ
views_learned [] = 0
views_learned (Learned by v ∷ h) = views_learned h + 1
views_learned (r ∷ h) = views_learned h
