-- From which marks a cache's ranges are read on.
use Rattle.std.specs.Prelude.{List, map, Contains}
use Rattle.std.specs.List.{AllByRecursion}
use Rattle.mc_packet.specs.declared.walk.Mark.{Mark}
use Rattle.mc_range.specs.Range.{RangeState}
use Rattle.mc_cache.specs.Cache.{CacheState, ranges_of}

-- those of all ranges
abbrev pub marks_of : CacheState → List Mark
marks_of c = map (λ (r : RangeState). r.mark) (ranges_of c)

-- each range is read on from one of these
abbrev pub AreAmong : List Mark → CacheState → Type 0
AreAmong marks c = AllByRecursion (λ (r : RangeState). Contains marks r.mark) (ranges_of c)
