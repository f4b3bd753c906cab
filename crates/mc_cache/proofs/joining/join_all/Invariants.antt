use Rattle.std.proofs.Common.{◌≡◌, ◌+◌, ◌*◌, ◌^◌, ◌<◌, ◌≤◌, length}
use Rattle.std.specs.Prelude.{vec_capacity, vec_len}
use Rattle.std.specs.List.{AllByRecursion}
use Rattle.mc_range.specs.Range.{IsRange}
use Rattle.mc_cache.specs.Cache.{IsOther, weight_in, weight_of}
use Rattle.mc_cache.specs.Joining.{Joins}
use Rattle.mc_cache.specs.Rooms.{HasRoomFor}
use Rattle.mc_cache.proofs.joining.join_all.Given as goal

abbrev pub invariant-loop-other : goal.invariant-loop-other
invariant-loop-other l = record {
  steps : Joins l.initial.range l.initial.others.items l.range l.others.items l.joined l.drops.items;
  all : AllByRecursion IsOther l.others.items;
  fits : weight_in l.range + weight_of l.others.items < 2 ^ 64;
  space : HasRoomFor l.others.items 0 l.range;
  room : vec_len l.drops + 3 * length l.others.items ≤ vec_capacity l.drops;
  number : l.joined + length l.others.items ≤ length l.initial.others.items;
  range : IsRange l.range;
  kept : vec_capacity l.others ≡ vec_capacity l.initial.others;
}

abbrev pub decreases-loop-other : goal.decreases-loop-other
decreases-loop-other l = length l.others.items
