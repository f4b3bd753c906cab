use Rattle.std.proofs.Common.{◌≡◌, take}
use Rattle.mc_cache.specs.Cache.{count_of}
use Rattle.mc_cache.proofs.listing.count_all.Given as goal

abbrev pub invariant-loop-range : goal.invariant-loop-range
invariant-loop-range l = l.count ≡ count_of (take l.range-index l.ranges)
