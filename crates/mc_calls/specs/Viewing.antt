-- What is told of a demuxer.
use Rattle.std.specs.Prelude.{◌≡◌, ℕ, ◌+◌, ◌*◌, ℤ, Some, None, true, false, Bool, ◌&&◌, not, if◌then◌else◌, [], ◌∷◌, ◌++◌, length, reverse, Option, is_some, Result, Ok, Err}
use Rattle.mc_packet.specs.declared.cache.CacheView.{CacheView}
use Rattle.mc_packet.specs.declared.cache.Status.{Status}
use Rattle.mc_packet.specs.declared.walk.Ending.{Ending}
use Rattle.mc_journal.specs.declared.record.DemuxRecord.{DemuxRecord}
use Rattle.mc_journal.specs.declared.record.DemuxRecord.TheVariants.{Opened, Sought, Gave, Ended, Shown}
use Rattle.mc_packet.specs.Choices.{has, is_empty, is_track, lead_of}
use Rattle.mc_journal.specs.Choices.{each_of}
use Rattle.mc_journal.specs.Views.{plays, time_of}
use Rattle.mc_cache.specs.Cache.{ending_in, ranges_of}
use Rattle.mc_cache.specs.Shown.{view_of as cache_view}
use Rattle.mc_calls.specs.declared.answer.DemuxError.{DemuxError}
use Rattle.mc_calls.specs.declared.answer.DemuxError.TheVariants.{Refused, JournalFull, NoMemory}
use Rattle.mc_calls.specs.State.{DemuxState, back_of, forward_of}
use Rattle.mc_calls.specs.Keeping.{IsAsBefore}
use Rattle.mc_calls.specs.Records.{HasRoom, IsFull}

-- the reader of each selected track was told the end
abbrev pub is_ended : DemuxState → Bool
is_ended d = not (is_empty d.set) && each_of d.set (has d.ended)

-- ---- by the newest record that tells it

-- the record tells the time of this track's reader: it is given a packet, or the film is opened or sought
abbrev pub tells_time : Option ℕ → DemuxRecord → Bool
tells_time lead (Opened by set) = true
tells_time lead (Sought by set t dir how) = true
tells_time lead (Gave by n pos time len sum sync key) = is_track lead n
tells_time lead _ = false

abbrev pub time_told : Option DemuxRecord → Option ℤ
time_told (Some (Sought by set t dir how)) = Some t
time_told (Some (Gave by n pos time len sum sync key)) = Some time
time_told _ = None

-- it tells whether this track was given something: a packet or its end, or the film is opened or sought
abbrev pub tells_play : Option ℕ → DemuxRecord → Bool
tells_play lead (Opened by set) = true
tells_play lead (Sought by set t dir how) = true
tells_play lead (Gave by n pos time len sum sync key) = is_track lead n
tells_play lead (Ended by n ending) = is_track lead n
tells_play lead _ = false

abbrev pub play_told : Option DemuxRecord → Bool
play_told (Some (Gave by n pos time len sum sync key)) = true
play_told (Some (Ended by n ending)) = true
play_told _ = false

-- ---- what is shown

-- the cache from these heads, and beside it the reader's time, whether it was given something since the last seek, and
-- whether all ends were told
abbrev pub view_of : DemuxState → CacheView
view_of d = record (cache_view d.heads d.cache) {
  time = time_of (lead_of d.set) (reverse d.journal);
  playing = plays (lead_of d.set) (reverse d.journal);
  ended = is_ended d;
}

-- bit 0 where the current range has the film's ending, and the number of ranges times 256
abbrev pub flags_of : Option Ending → ℕ → ℕ
flags_of ending ranges = (if is_some ending then 1 else 0) + 256 * ranges

abbrev pub status_of : DemuxState → Status
status_of d = record {
  seq = length d.journal;
  forward = forward_of d;
  back = back_of d;
  flags = flags_of (ending_in d.cache.current) (length (ranges_of d.cache));
}

-- the view that is told is recorded, and all else stays but room
pub record IsShown (by : ℕ) (view : CacheView) (old new : DemuxState) : Type 0 where
  pub changed : new ≡ record old { cache = new.cache; journal = old.journal ++ Shown by view ∷ []; spare = new.spare }
  pub cache_is : new.cache ≡ old.cache

abbrev pub Shows : ℕ → DemuxState → Result CacheView DemuxError → DemuxState → Type 0
Shows by old (Ok view) new = HasRoom old.journal × (view ≡ view_of old) × IsShown by view old new
Shows by old (Err (Refused why)) new = ⊥
Shows by old (Err JournalFull) new = IsFull old.journal × (new ≡ old)
Shows by old (Err NoMemory) new = HasRoom old.journal × IsAsBefore old new
