use Rattle.std.proofs.Common.{◌≡◌, ◌+◌, ◌-◌, ◌*◌, ◌≤◌, ◌++◌, length, take}
use Rattle.std.specs.Prelude.{vec_capacity, vec_len}
use Rattle.mc_cache.specs.Removals.{removals_of_all}
use Rattle.mc_cache.proofs.removals.push_ranges.Given as goal

abbrev pub invariant-loop-range : goal.invariant-loop-range
invariant-loop-range l = record {
  told : l.drops.items ≡ l.initial.drops.items ++ removals_of_all l.cause (take l.range-index l.ranges);
  room : vec_len l.drops + 3 * (length l.ranges - l.range-index) ≤ vec_capacity l.drops;
}
