-- What a reader is told, and what is left then.
use Rattle.std.specs.Prelude.{◌≡◌, ℕ, ◌+◌, ◌^◌, ◌<◌, ◌==◌, nat_le, if◌then◌else◌, [], ◌∷◌, ◌++◌, Option, Some, None, Result, Ok, Err, ⊤}
use Rattle.mc_packet.specs.declared.packet.Packet.{Packet}
use Rattle.mc_packet.specs.declared.packet.Pos.{Pos}
use Rattle.mc_packet.specs.declared.choice.Choice.{Choice}
use Rattle.mc_packet.specs.declared.cache.Heads.{Heads}
use Rattle.mc_packet.specs.declared.walk.Ending.{Ending}
use Rattle.mc_journal.specs.declared.record.DemuxRecord.{DemuxRecord}
use Rattle.mc_journal.specs.declared.record.DemuxRecord.TheVariants.{Ended, Overfull as OverfullRecord, Faulted, Wanting as WantingRecord}
use Rattle.mc_journal.specs.Told.{gave_by}
use Rattle.mc_packet.specs.Choices.{is_track, has}
use Rattle.mc_journal.specs.Films.{rank}
use Rattle.mc_calls.specs.declared.answer.Reading.{Reading}
use Rattle.mc_calls.specs.declared.answer.Reading.TheVariants.{Gave, NotYet, End, Overfull, Fault, Wanting, Unselected}
use Rattle.mc_calls.specs.declared.answer.Peek.{Peek}
use Rattle.mc_calls.specs.declared.answer.Peek.TheVariants.{Packet as PacketAt, Finish, Wait}
use Rattle.mc_calls.specs.declared.answer.DemuxError.{DemuxError}
use Rattle.mc_calls.specs.declared.answer.DemuxError.TheVariants.{Refused, JournalFull, NoMemory}
use Rattle.mc_calls.specs.declared.waiting.Failure.{Failure}
use Rattle.mc_calls.specs.declared.waiting.Failure.TheVariants.{Failed, Starved}
use Rattle.mc_calls.specs.State.{DemuxState, next_in, end_in, forward_of}
use Rattle.mc_calls.specs.Records.{HasRoom, IsFull, Wrote}
use Rattle.mc_calls.specs.Keeping.{IsAsBefore}
use Rattle.mc_calls.specs.Trimming.{Trims}

-- ---- which answer

-- nothing is at the head, and the end is not cached
abbrev pub waiting_for : Option Failure → ℕ → ℕ → Reading
waiting_for (Some (Failed before after)) forward max = Fault before after
waiting_for (Some Starved) forward max = Wanting
waiting_for None forward max = if nat_le max forward then Overfull forward max else NotYet

abbrev pub past_packets : Option Ending → Option Failure → ℕ → ℕ → Reading
past_packets (Some ending) failure forward max = End ending
past_packets None failure forward max = waiting_for failure forward max

abbrev pub reading_by : Option Packet → Option Ending → Option Failure → ℕ → ℕ → Reading
reading_by (Some p) ending failure forward max = Gave p
reading_by None ending failure forward max = past_packets ending failure forward max

-- the packet at the head; else the end, where it is cached; else what failed; else whether the cache is full
abbrev pub reading_of : ℕ → DemuxState → Reading
reading_of track d =
    if has d.set track
    then reading_by (next_in d.set d.heads track d.cache.current) (end_in track d.cache.current) d.failure (forward_of d) d.cache.limits.forward
    else Unselected

abbrev pub peek_at : Reading → Peek
peek_at (Gave p) = PacketAt p.pos
peek_at (End ending) = Finish
peek_at (Fault before after) = Finish
peek_at Wanting = Finish
peek_at _ = Wait

-- ---- its record

abbrev pub record_of : ℕ → ℕ → Reading → Option DemuxRecord
record_of by track (Gave p) = Some (gave_by by p)
record_of by track (End ending) = Some (Ended by track ending)
record_of by track (Overfull forward max) = Some (OverfullRecord by track forward max)
record_of by track (Fault before after) = Some (Faulted by track before after)
record_of by track Wanting = Some (WantingRecord by track)
record_of by track _ = None

-- ---- what is left

-- the place just behind a packet's: the next frame of its block, or the next block's first
abbrev pub past : Pos → Pos
past p = if p.lane == 65535 then record { block = p.block + 1; lane = 0 } else record { block = p.block; lane = p.lane + 1 }

-- a packet that is given is not the last one that a place can have
abbrev pub IsBelow : Reading → Type 0
IsBelow (Gave p) = rank p.pos + 1 < 2 ^ 80
IsBelow _ = ⊤

-- the head of the kind under which the set has the track
abbrev pub with_head : Choice → ℕ → Pos → Heads → Heads
with_head set track place heads =
    if is_track set.video track then record heads { video = Some place }
    else (if is_track set.audio track then record heads { audio = Some place }
    else (if is_track set.sub track then record heads { sub = Some place } else heads))

abbrev pub heads_after : ℕ → Reading → DemuxState → Heads
heads_after track (Gave p) d = with_head d.set track (past p.pos) d.heads
heads_after track _ d = d.heads

abbrev pub mark_track : ℕ → Option ℕ → Option ℕ → Option ℕ
mark_track track of_set marked = if is_track of_set track then of_set else marked

-- a track that the set has is marked
abbrev pub with_track : Choice → ℕ → Choice → Choice
with_track set track marked = record {
  video = mark_track track set.video marked.video;
  audio = mark_track track set.audio marked.audio;
  sub = mark_track track set.sub marked.sub;
}

abbrev pub ended_after : ℕ → Reading → DemuxState → Choice
ended_after track (End ending) d = with_track d.set track d.ended
ended_after track _ d = d.ended

-- An answer that is told. By steps: its record stands behind the journal, and then packets went as the limit asks. In all:
-- the heads and the told ends are these, and the rest stays
pub record Gives (by : ℕ) (own : DemuxRecord) (heads : Heads) (ended : Choice) (old new : DemuxState) : Type 0 where
  pub trims : Trims by heads old.cache (old.journal ++ own ∷ []) new.cache new.journal
  pub changed : new ≡ record old {
    cache = new.cache;
    heads = heads;
    ended = ended;
    journal = new.journal;
    spare = new.spare;
  }
  pub limits_are : new.cache.limits ≡ old.cache.limits
  pub wrote : Wrote by own old.journal new.journal

-- behind an answer with a record the head is past a packet that was given, and an end is remembered; other answers change
-- nothing
abbrev pub ReadsWith : ℕ → ℕ → Reading → Option DemuxRecord → DemuxState → DemuxState → Type 0
ReadsWith by track reading None old new = new ≡ old
ReadsWith by track reading (Some own) old new =
    Gives by own (heads_after track reading old) (ended_after track reading old) old new

abbrev pub Reads : ℕ → ℕ → DemuxState → Result Reading DemuxError → DemuxState → Type 0
Reads by track old (Ok reading) new =
    HasRoom old.journal × (reading ≡ reading_of track old) × ReadsWith by track reading (record_of by track reading) old new
Reads by track old (Err (Refused why)) new = ⊥
Reads by track old (Err JournalFull) new = IsFull old.journal × (new ≡ old)
Reads by track old (Err NoMemory) new = HasRoom old.journal × IsAsBefore old new
