-- What a deed or an outcome changes.
use Rattle.std.specs.Prelude.{ℕ}
use Rattle.mc_player.specs.declared.deed.Deed.{Deed}
use Rattle.mc_player.specs.declared.deed.Deed.TheVariants as deed
use Rattle.mc_player.specs.declared.record.Outcome.{Outcome}
use Rattle.mc_player.specs.declared.record.Outcome.TheVariants as outcome

-- the fields that a deed changes, as bits
abbrev pub deed_mask : Deed → ℕ
deed_mask (deed.Pauses on) = 1
deed_mask (deed.Mutes on) = 2
deed_mask d = 0

-- those that an outcome changes
abbrev pub outcome_mask : Outcome → ℕ
outcome_mask (outcome.Loaded path tracks set) = 12
outcome_mask (outcome.Selected set) = 8
outcome_mask x = 0
