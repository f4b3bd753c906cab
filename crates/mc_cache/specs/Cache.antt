-- A cache as contracts see it: the range that is read, if there is one, the others in order of last use, and its room.
use Rattle.std.specs.Prelude.{◌≡◌, ◌≤◌, ◌<◌, ℕ, ◌+◌, ◌^◌, nat_lt, Bool, true, List, [], ◌∷◌, length, map, Option, Some, None, option_map, if◌then◌else◌, IfSome, IsSomeAnd}
use Rattle.std.specs.List.{AllByRecursion}
use Rattle.mc_packet.specs.declared.cache.Limits.{Limits}
use Rattle.mc_packet.specs.declared.packet.Packet.{Packet}
use Rattle.mc_packet.specs.declared.packet.Pos.{Pos}
use Rattle.mc_range.specs.Serving.{first_from}
use Rattle.mc_packet.specs.declared.choice.Choice.{Choice}
use Rattle.mc_packet.specs.declared.choice.Starts.{Starts}
use Rattle.mc_packet.specs.declared.walk.Ending.{Ending}
use Rattle.mc_packet.specs.declared.walk.Mark.{Mark}
use Rattle.mc_journal.specs.Stands.{Stand}
use Rattle.mc_range.specs.Range.{RangeState, IsBegun, IsRange, as_range, queue_of, weight_of_all}
use Rattle.mc_range.specs.Tracks.{count_of_all}
use Rattle.mc_cache.specs.declared.prepared.Prepared.{Prepared}

-- the limits; the current range, if there is one; the others in order of last use; for how many ranges those have room; for
-- how many removals of a start and of joins there is room; and a range that is held ready for a start
pub record CacheState : Type 0 where
  pub limits : Limits
  pub current : Option RangeState
  pub others : List RangeState
  pub places : ℕ
  pub start_room : ℕ
  pub join_room : ℕ
  pub prepared : Option Prepared

-- a cache of these parts
abbrev pub cache_of : Limits → Option RangeState → List RangeState → ℕ → ℕ → ℕ → Option Prepared → CacheState
cache_of limits current others places start_room join_room prepared = record {
  limits = limits;
  current = current;
  others = others;
  places = places;
  start_room = start_room;
  join_room = join_room;
  prepared = prepared;
}

-- the same with another current range
abbrev pub with_current : Option RangeState → CacheState → CacheState
with_current current st = record st { current = current }

-- the same with another range held ready
abbrev pub with_prepared : Option Prepared → CacheState → CacheState
with_prepared prepared st = record st { prepared = prepared }

-- the same with other others
abbrev pub with_others : List RangeState → CacheState → CacheState
with_others others st = record st { others = others }

-- ---- ranges

-- a range in front of others
abbrev pub in_front : Option RangeState → List RangeState → List RangeState
in_front None rs = rs
in_front (Some r) rs = r ∷ rs

-- all of them, the current one first
abbrev pub ranges_of : CacheState → List RangeState
ranges_of st = in_front st.current st.others

-- a range holds a packet
abbrev pub holds : RangeState → Bool
holds r = nat_lt 0 (count_of_all r.queues)

-- all but the first that passes
abbrev pub without_first : (RangeState → Bool) → List RangeState → List RangeState
without_first test [] = []
without_first test (r ∷ rs) = if test r then rs else r ∷ without_first test rs

-- a range that is left stands in front of the others, unless it holds nothing
abbrev pub left_with : Option RangeState → List RangeState → List RangeState
left_with None rs = rs
left_with (Some r) rs = if holds r then r ∷ rs else rs

-- ---- numbers

abbrev pub weight_in : RangeState → ℕ
weight_in r = weight_of_all r.queues

abbrev pub count_in : RangeState → ℕ
count_in r = count_of_all r.queues

-- the weight of all packets, and their number
abbrev pub weight_of : List RangeState → ℕ
weight_of [] = 0
weight_of (r ∷ rs) = weight_in r + weight_of rs

abbrev pub count_of : List RangeState → ℕ
count_of [] = 0
count_of (r ∷ rs) = count_in r + count_of rs

-- ---- what is true of every cache

pub record IsOther (r : RangeState) : Type 0 where
  pub range : IsRange r
  pub some : holds r ≡ true

-- one range of others, and those that are left without it
pub record Fewer (r : RangeState) (rs left : List RangeState) : Type 0 where
  pub one : IsOther r
  pub others : AllByRecursion IsOther left
  pub weight : weight_in r + weight_of left ≡ weight_of rs
  pub number : 1 + length left ≡ length rs

-- a range that is held ready has the starts that stand beside it
pub record IsReady (p : Prepared) : Type 0 where
  pub begun : IsBegun p.range.set p.starts p.range
  pub range : IsRange p.range

-- the range is one that is held ready for a start of this set
abbrev pub IsReadyFor : Choice → Starts → RangeState → Option Prepared → Type 0
IsReadyFor set starts r ready = IsSomeAnd ready (λ p. (p.starts ≡ starts) × (p.range.set ≡ set) × (r ≡ p.range))

pub record IsCache (st : CacheState) : Type 0 where
  pub current : IfSome st.current IsRange
  pub others : AllByRecursion IsOther st.others
  pub few : length (ranges_of st) ≤ 10
  pub room : length (ranges_of st) ≤ st.places
  pub fits : weight_of (ranges_of st) < 2 ^ 64
  pub ready : IfSome st.prepared IsReady

-- ---- the current range

abbrev pub mark_in : Option RangeState → Option Mark
mark_in None = None
mark_in (Some r) = Some r.mark

abbrev pub ending_in : Option RangeState → Option Ending
ending_in None = None
ending_in (Some r) = r.ending

-- ---- the ranges of the definitions over a film's list

abbrev pub stand_of : CacheState → Stand
stand_of st = record { current = option_map as_range st.current; others = map as_range st.others }

-- the first packet of a track in the current range at a place or behind it
abbrev pub first_in : ℕ → Pos → Option RangeState → Option Packet
first_in track place None = None
first_in track place (Some r) = first_from place (queue_of track r.queues)
