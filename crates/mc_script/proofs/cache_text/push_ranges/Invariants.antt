use Rattle.std.proofs.Common.{◌≡◌, ◌++◌, string_bytes, take}
use Rattle.std.specs.List.{flat_map}
use Rattle.mc_script.specs.CacheText.{range_text}
use Rattle.mc_script.proofs.cache_text.push_ranges.Given as goal

-- the ranges so far
abbrev pub invariant-loop-range : goal.invariant-loop-range
invariant-loop-range l = string_bytes l.text ≡ string_bytes l.initial.text ++ flat_map (range_text l.set) (take l.range-index l.ranges)
