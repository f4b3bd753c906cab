-- A demuxer as contracts see it, and what is read off it.
use Rattle.std.specs.Prelude.{ℕ, ◌+◌, Bool, if◌then◌else◌, List, [], Option, Some, None, is_some}
use Rattle.std.specs.List.{find}
use Rattle.mc_packet.specs.declared.packet.Packet.{Packet}
use Rattle.mc_packet.specs.declared.packet.Pos.{Pos}
use Rattle.mc_packet.specs.declared.choice.Choice.{Choice}
use Rattle.mc_packet.specs.declared.cache.Heads.{Heads}
use Rattle.mc_packet.specs.declared.walk.Ending.{Ending}
use Rattle.mc_tracks.specs.declared.track.Track.{Track}
use Rattle.mc_journal.specs.declared.record.DemuxRecord.{DemuxRecord}
use Rattle.mc_packet.specs.Choices.{is_track}
use Rattle.mc_journal.specs.Films.{rank}
use Rattle.mc_queue.specs.Places.{is_from}
use Rattle.mc_journal.specs.Views.{from_place}
use Rattle.mc_queue.specs.Queue.{QueueState}
use Rattle.mc_range.specs.Range.{RangeState, queue_of}
use Rattle.mc_cache.specs.Cache.{CacheState}
use Rattle.mc_cache.specs.Pruning.{ahead_in as forward_in, back_of as back_in}
use Rattle.mc_calls.specs.declared.job.Job.{Job}
use Rattle.mc_calls.specs.declared.waiting.Target.{Target}
use Rattle.mc_calls.specs.declared.waiting.Switch.{Switch}
use Rattle.mc_calls.specs.declared.waiting.Failure.{Failure}

-- the film's tracks; the cache; the selected tracks; the place of each one's reader in the current range; the target of a
-- seek that was sent and whose starts are not found yet; the tracks that wait for their start; the last selection; why
-- nothing is read on; the tracks whose reader was told the end; the number that the next job bears; the last job that was
-- given, where it bears that number; whether the last outcome was a part of the film behind which it is read on; the
-- records, the oldest first, and how many more there is room for
pub record DemuxState : Type 0 where
  pub list : List Track
  pub cache : CacheState
  pub set : Choice
  pub heads : Heads
  pub seeking : Option Target
  pub waiting : Choice
  pub switch : Switch
  pub failure : Option Failure
  pub ended : Choice
  pub number : ℕ
  pub kept : Option Job
  pub fed : Bool
  pub journal : List DemuxRecord
  pub spare : ℕ

-- what a seek, a selection or an outcome that is taken ends: no job is kept, the next one bears the next number, and `fed`
-- tells whether it reads on behind the last part. The cache, the journal and its room are those of `new`
abbrev pub renewed : Bool → DemuxState → DemuxState → DemuxState
renewed fed new old = record old {
  cache = new.cache;
  number = old.number + 1;
  kept = None;
  fed = fed;
  journal = new.journal;
  spare = new.spare;
}

-- ---- what stands at a track's head

-- of the three, the one of the kind under which the set has the track
abbrev pub head_of : Choice → Heads → ℕ → Option Pos
head_of set heads track =
    if is_track set.video track then heads.video
    else (if is_track set.audio track then heads.audio
    else (if is_track set.sub track then heads.sub else None))

abbrev pub first_at : Option QueueState → Option Pos → Option Packet
first_at None head = None
first_at (Some q) None = None
first_at (Some q) (Some p) = find (is_from (rank p)) q.packets

-- the packet of a track in the current range at its head
abbrev pub next_in : Choice → Heads → ℕ → Option RangeState → Option Packet
next_in set heads track None = None
next_in set heads track (Some r) = first_at (queue_of track r.queues) (head_of set heads track)

-- the film's ending, where the current range has it and a queue of the track
abbrev pub end_in : ℕ → Option RangeState → Option Ending
end_in track None = None
end_in track (Some r) = if is_some (queue_of track r.queues) then r.ending else None

-- ---- what stands behind it

abbrev pub ahead : Option QueueState → Option Pos → List Packet
ahead None head = []
ahead (Some q) None = q.packets
ahead (Some q) (Some p) = from_place (rank p) q.packets

-- what the current range holds of a track at its head or behind it
abbrev pub ahead_in : Choice → Heads → ℕ → Option RangeState → List Packet
ahead_in set heads track None = []
ahead_in set heads track (Some r) = ahead (queue_of track r.queues) (head_of set heads track)

-- ---- octets

-- of the current range's packets at or behind their heads
abbrev pub forward_of : DemuxState → ℕ
forward_of d = forward_in d.heads d.cache.current

-- of all other cached packets
abbrev pub back_of : DemuxState → ℕ
back_of d = back_in d.heads d.cache
