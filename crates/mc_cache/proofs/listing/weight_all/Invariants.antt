use Rattle.std.proofs.Common.{◌≡◌, take}
use Rattle.mc_cache.specs.Cache.{weight_of}
use Rattle.mc_cache.proofs.listing.weight_all.Given as goal

abbrev pub invariant-loop-range : goal.invariant-loop-range
invariant-loop-range l = l.weight ≡ weight_of (take l.range-index l.ranges)
