use Rattle.std.proofs.Common.{◌≡◌, take}
use Rattle.mc_cache.specs.Rooms.{count_at_all}
use Rattle.mc_cache.proofs.rooms.count_at.Given as goal

abbrev pub invariant-loop-range : goal.invariant-loop-range
invariant-loop-range l = l.count ≡ count_at_all l.track (take l.range-index l.ranges)
