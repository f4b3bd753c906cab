-- What a call answers, beside the value of a definition.
use Rattle.std.specs.Prelude.{◌≡◌, Result, Ok, Err, ⊤}
use Rattle.mc_packet.specs.declared.walk.Fault.{Fault}
use Rattle.mc_packet.specs.declared.walk.Fault.TheVariants as faults
use Rattle.mc_block.specs.declared.error.BlockError.{BlockError}
use Rattle.mc_block.specs.declared.error.BlockError.TheVariants as errors
use Rattle.mc_walk.specs.declared.element.WalkError.{WalkError}
use Rattle.mc_walk.specs.declared.element.WalkError.TheVariants as failures

abbrev pub Fails : {Y : Type 0} → WalkError → Result Y Fault → Type 0
Fails failures.NoMemory value = ⊤
Fails (failures.Fault fault) value = value ≡ Err fault

-- the answer is the value, unless memory ran out
abbrev pub Gives : {Y : Type 0} → Result Y WalkError → Result Y Fault → Type 0
Gives (Ok x) value = value ≡ Ok x
Gives (Err e) value = Fails e value

abbrev pub walk_error : BlockError → WalkError
walk_error errors.ShortBlock = failures.Fault faults.ShortBlock
walk_error errors.BadLace = failures.Fault faults.BadLace
walk_error errors.TooLarge = failures.Fault faults.TooLarge
walk_error errors.TimeRange = failures.Fault faults.TimeRange
walk_error errors.BadGroup = failures.Fault faults.BadGroup
walk_error errors.NoMemory = failures.NoMemory
