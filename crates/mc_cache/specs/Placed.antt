-- Readers' heads in a cache whose ranges hold a film's list, the starts of its tracks, and what its removals tell.
use Rattle.std.specs.Prelude.{◌≡◌, ℕ, if◌then◌else◌, Option, Some, None, IfSome, IsSomeAnd}
use Rattle.std.specs.List.{AllByRecursion}
use Rattle.mc_packet.specs.declared.packet.Pos.{Pos}
use Rattle.mc_packet.specs.declared.cache.Heads.{Heads}
use Rattle.mc_packet.specs.declared.choice.Choice.{Choice}
use Rattle.mc_packet.specs.declared.choice.Kind.{Kind}
use Rattle.mc_packet.specs.declared.choice.Kind.TheVariants.{Video, Audio, Sub}
use Rattle.mc_packet.specs.declared.choice.Starts.{Starts}
use Rattle.mc_packet.specs.declared.walk.Mark.{Mark}
use Rattle.mc_journal.specs.declared.record.Removal.{Removal}
use Rattle.mc_packet.specs.Choices.{is_track}
use Rattle.mc_journal.specs.Films.{rank}
use Rattle.mc_journal.specs.Used.{Due}
use Rattle.mc_range.specs.Range.{RangeState, queue_of}
use Rattle.mc_range.specs.Tracks.{intervals, selected_under}
use Rattle.mc_range.specs.Filmed.{HaveFrames}
use Rattle.mc_cache.specs.Cache.{CacheState, IsCache, ranges_of}
use Rattle.mc_cache.specs.Changing.{AddsTrack, MayAdd}

-- ---- heads

-- the head of a selected track: that of its kind
abbrev pub head_of : Choice → Heads → ℕ → Option Pos
head_of set heads track =
    if is_track set.video track then heads.video
    else (if is_track set.audio track then heads.audio
    else (if is_track set.sub track then heads.sub else None))

-- each track of which the range has a queue has its head at its place
abbrev pub HeadsAt : Choice → Heads → (ℕ → ℕ) → RangeState → Type 0
HeadsAt set heads place r = (track : ℕ) → IfSome (queue_of track r.queues) (λ q. IsSomeAnd (head_of set heads track) (λ p. rank p ≡ place track))

-- ---- what is shown

-- the frames of all intervals' ends are numbers of their type
abbrev pub AllFramed : CacheState → Type 0
AllFramed st = AllByRecursion (λ r. HaveFrames (intervals r.queues)) (ranges_of st)

-- ---- starts

-- the selected track of a kind is added at its start, if there is one, where nothing of it is held
abbrev pub AddsStart : Kind → Choice → Option ℕ → Mark → CacheState → CacheState → Type 0
AddsStart kind set None mark old new = new ≡ old
AddsStart kind set (Some start) mark old new =
    IsSomeAnd (selected_under kind set) (λ track. MayAdd kind track old × AddsTrack kind track start mark old new × IsCache new)

-- the selected tracks are added at their starts, one kind behind the other
pub record AddsStarts (set : Choice) (starts : Starts) (old new : CacheState) : Type 0 where
  pub with_video : CacheState
  pub with_audio : CacheState
  pub video : AddsStart Video set starts.video starts.mark old with_video
  pub audio : AddsStart Audio set starts.audio starts.mark with_video with_audio
  pub sub : AddsStart Sub set starts.sub starts.mark with_audio new

-- ---- removals

-- a removal as the rules over a film's list tell it: its track, its places and its cause
abbrev pub due_of : Removal → Due
due_of m = record { track = m.track; from = rank m.from; to = rank m.to; cause = m.cause }
