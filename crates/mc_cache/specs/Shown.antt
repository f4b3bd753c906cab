-- What a look at the cache shows.
use Rattle.std.specs.Prelude.{ℕ, ◌==◌, Bool, true, false, ◌&&◌, map, Option, Some, None}
use Rattle.mc_packet.specs.declared.packet.Pos.{Pos}
use Rattle.mc_packet.specs.declared.cache.CacheView.{CacheView}
use Rattle.mc_packet.specs.declared.cache.Heads.{Heads}
use Rattle.mc_packet.specs.declared.cache.RangeView.{RangeView}
use Rattle.mc_journal.specs.Films.{rank}
use Rattle.mc_range.specs.Range.{RangeState}
use Rattle.mc_range.specs.Bounds.{bounds_of}
use Rattle.mc_range.specs.Tracks.{interval_of, intervals}
use Rattle.mc_cache.specs.Cache.{CacheState, ending_in, ranges_of}
use Rattle.mc_cache.specs.Pruning.{ahead_in, back_of}

-- a range: its bounds and what it holds
abbrev pub shown : RangeState → RangeView
shown r = record { bounds = bounds_of r; spans = intervals r.queues }

-- a selected track has an interval from the film's beginning
abbrev pub begins_at : Option ℕ → Option (Pos × Pos) → Bool
begins_at None i = true
begins_at (Some track) None = false
begins_at (Some track) (Some i) = rank i.0 == 0

-- each of a range's tracks has
abbrev pub begins : RangeState → Bool
begins r = begins_at r.set.video (interval_of r.queues.video) && (begins_at r.set.audio (interval_of r.queues.audio) && begins_at r.set.sub (interval_of r.queues.sub))

abbrev pub begins_in : Option RangeState → Bool
begins_in None = false
begins_in (Some r) = begins r

-- the ranges in order of last use, the current one first, and the octets ahead of these heads and behind them
abbrev pub view_of : Heads → CacheState → CacheView
view_of heads st = record {
  ranges = map shown (ranges_of st);
  forward = ahead_in heads st.current;
  back = back_of heads st;
  bof = begins_in st.current;
  ending = ending_in st.current;
  time = None;
  playing = false;
  ended = false;
}
