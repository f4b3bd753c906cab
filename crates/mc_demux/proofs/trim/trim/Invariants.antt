use Rattle.std.proofs.Common.{◌+◌, ◌≤◌, vec_len}
use Rattle.std.specs.Prelude.{vec_capacity}
use Rattle.mc_cache.specs.Cache.{IsCache, count_of, ranges_of}
use Rattle.mc_calls.specs.Trimming.{Trims}
use Rattle.mc_demux.proofs.trim.trim.Given as goal

abbrev pub invariant-loop-drop : goal.invariant-loop-drop
invariant-loop-drop l = record {
  trims : Trims l.fn.by l.heads l.fn.cache l.fn.journal.items l.cache l.journal.items;
  room : vec_len l.journal + count_of (ranges_of l.cache) + 2 ≤ vec_capacity l.journal;
  cache : IsCache l.cache;
}

abbrev pub decreases-loop-drop : goal.decreases-loop-drop
decreases-loop-drop l = count_of (ranges_of l.cache)
