use Rattle.std.proofs.Common.{◌≡◌, map, take}
use Rattle.mc_props.specs.Standard.{entry_of, properties}
use Rattle.mc_props.proofs.properties.standard_entries.Given as goal

abbrev pub invariant-loop-property : goal.invariant-loop-property
invariant-loop-property l = l.entries ≡ map entry_of (take l.property-index properties)
