-- The ranges of a cache after each of its calls.
use Rattle.std.specs.Prelude.{◌≡◌, ◌≤◌, ℕ, List, [], take, drop, Option, Some, None, option_map, if◌then◌else◌, ℤ, is_some, Bool, IsSomeAnd, ◌++◌}
use Rattle.std.specs.List.{filter, find}
use Rattle.mc_packet.specs.declared.cache.Heads.{Heads}
use Rattle.mc_packet.specs.declared.cache.Limits.{Limits}
use Rattle.mc_packet.specs.declared.choice.Choice.{Choice}
use Rattle.mc_packet.specs.declared.choice.Dir.{Dir}
use Rattle.mc_packet.specs.declared.choice.Kind.{Kind}
use Rattle.mc_packet.specs.declared.choice.Starts.{Starts}
use Rattle.mc_packet.specs.declared.walk.Chunk.{Chunk}
use Rattle.mc_packet.specs.declared.walk.Mark.{Mark}
use Rattle.mc_journal.specs.declared.record.Cause.TheVariants.{TooMany, TrackChanged}
use Rattle.mc_journal.specs.declared.record.Removal.{Removal}
use Rattle.mc_packet.specs.Choices.{is_empty}
use Rattle.mc_range.specs.Range.{RangeState, IsBegun, IsRoomier}
use Rattle.mc_range.specs.Growing.{IsFed}
use Rattle.mc_range.specs.Serving.{heads_of}
use Rattle.mc_range.specs.Tracks.{IsAdded, queue_under, retracked, selected_under}
use Rattle.mc_cache.specs.Cache.{CacheState, ranges_of, holds, left_with, without_first}
use Rattle.mc_cache.specs.Removals.{removals_lost, removals_of_all}

-- ---- what stays

-- all but the ranges, where the others may have more room
pub record KeepsRest (old new : CacheState) : Type 0 where
  pub limits_is : new.limits ≡ old.limits
  pub places : old.places ≤ new.places
  pub start_room : old.start_room ≤ new.start_room
  pub join_room : old.join_room ≤ new.join_room
  pub prepared_is : new.prepared ≡ old.prepared

-- a range, if there is one, with as much room or more
abbrev pub RoomierIn : Option RangeState → Option RangeState → Type 0
RoomierIn None r = r ≡ None
RoomierIn (Some o) r = IsSomeAnd r (λ n. IsRoomier o n)

-- the same ranges, with as much room or more
pub record IsSameButRoom (old new : CacheState) : Type 0 where
  pub limits_is : new.limits ≡ old.limits
  pub current : RoomierIn old.current new.current
  pub others_is : new.others ≡ old.others
  pub places : old.places ≤ new.places
  pub start_room : old.start_room ≤ new.start_room
  pub join_room : old.join_room ≤ new.join_room

-- only the room for other ranges and for what is told of them has grown
pub record IsOnlyRoomier (old new : CacheState) : Type 0 where
  pub same : new ≡ record old { places = new.places; start_room = new.start_room; join_room = new.join_room }
  pub places : old.places ≤ new.places
  pub start_room : old.start_room ≤ new.start_room
  pub join_room : old.join_room ≤ new.join_room

-- ---- new, left, chosen

pub record IsNew (limits : Limits) (st : CacheState) : Type 0 where
  pub limits_is : st.limits ≡ limits
  pub no_current : st.current ≡ None
  pub no_others : st.others ≡ []

-- no range is current
pub record IsLeft (old new : CacheState) : Type 0 where
  pub no_current : new.current ≡ None
  pub others_is : new.others ≡ left_with old.current old.others
  pub rest : KeepsRest old new

-- a range serves a seek
abbrev pub serves : Choice → ℤ → Dir → RangeState → Bool
serves set t dir r = is_some (heads_of r set t dir)

-- the first range that serves, in order of last use
abbrev pub server : Choice → ℤ → Dir → CacheState → Option RangeState
server set t dir st = find (serves set t dir) (ranges_of st)

abbrev pub heads_in : Choice → ℤ → Dir → Option RangeState → Option Heads
heads_in set t dir None = None
heads_in set t dir (Some r) = heads_of r set t dir

-- it is current, and all others that hold a packet stay in their order
pub record IsChosen (set : Choice) (t : ℤ) (dir : Dir) (old new : CacheState) : Type 0 where
  pub current_is : new.current ≡ server set t dir old
  pub others_is : new.others ≡ filter holds (without_first (serves set t dir) (ranges_of old))
  pub rest : KeepsRest old new

-- ---- started

-- a new range is current, and beside it at most nine others stand: the last ones go and are told
pub record IsStarted (set : Choice) (starts : Starts) (drops : List Removal) (old new : CacheState) : Type 0 where
  pub limits_is : new.limits ≡ old.limits
  pub current : IsSomeAnd new.current (λ r. IsBegun set starts r)
  pub others_is : new.others ≡ take 9 (left_with old.current old.others)
  pub told : drops ≡ removals_of_all (TooMany 11) (drop 9 (left_with old.current old.others))

-- nine of the others stay
pub record KeepsNine (old new : CacheState) : Type 0 where
  pub limits_is : new.limits ≡ old.limits
  pub current_is : new.current ≡ old.current
  pub others_is : new.others ≡ take 9 old.others
  pub places_is : new.places ≡ old.places
  pub join_room_is : new.join_room ≡ old.join_room
  pub prepared_is : new.prepared ≡ old.prepared

-- ---- fed

-- what is said of the current range before and after
abbrev pub OnCurrent : (RangeState → RangeState → Type 0) → CacheState → CacheState → Type 0
OnCurrent change old new = IsSomeAnd old.current (λ o. IsSomeAnd new.current (λ n. change o n))

-- the current range changes alone
pub record ChangesCurrent (change : RangeState → RangeState → Type 0) (old new : CacheState) : Type 0 where
  pub current : OnCurrent change old new
  pub others_is : new.others ≡ old.others
  pub rest : KeepsRest old new

abbrev pub Feeds : Chunk → CacheState → CacheState → Type 0
Feeds chunk old new = ChangesCurrent (λ o n. IsFed chunk o n) old new

-- ---- other tracks

-- the current range keeps the queues of tracks that stay, and all others go; without any track nothing stays
pub record IsRetracked (set : Choice) (drops : List Removal) (old new : CacheState) : Type 0 where
  pub current_is : new.current ≡ (if is_empty set then None else option_map (retracked set) old.current)
  pub no_others : new.others ≡ []
  pub told : drops ≡ removals_lost TrackChanged set old.current ++ removals_of_all TrackChanged old.others
  pub rest : KeepsRest old new

-- the current range has the track selected under the kind, and no queue of it
abbrev pub MayAdd : Kind → ℕ → CacheState → Type 0
MayAdd kind track st = IsSomeAnd st.current (λ r. (selected_under kind r.set ≡ Some track) × (queue_under kind r.queues ≡ None))

abbrev pub AddsTrack : Kind → ℕ → ℕ → Mark → CacheState → CacheState → Type 0
AddsTrack kind track start mark old new = ChangesCurrent (λ o n. IsAdded kind track start mark o n) old new
