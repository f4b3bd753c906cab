use Rattle.std.proofs.Common.{◌≡◌, take}
use Rattle.mc_props.specs.Cache.{range_maps}
use Rattle.mc_props.proofs.cache_value.range_maps.Given as goal

abbrev pub invariant-loop-range : goal.invariant-loop-range
invariant-loop-range l = l.maps ≡ range_maps (take l.range-index l.ranges)
