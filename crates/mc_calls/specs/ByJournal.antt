-- What a journal, newest record first, tells of its demuxer over a film: the short account, and the job that comes next.
use Rattle.std.specs.Prelude.{◌≡◌, ℤ, ◌==◌, ◌||◌, if◌then◌else◌, Contains, List, Option, Some, None, IsSomeAnd, length}
use Rattle.std.specs.List.{find}
use Rattle.mc_packet.specs.declared.cache.Limits.{Limits}
use Rattle.mc_packet.specs.declared.cache.Status.{Status}
use Rattle.mc_packet.specs.declared.choice.Choice.{Choice}
use Rattle.mc_packet.specs.declared.choice.Dir.{Dir}
use Rattle.mc_packet.specs.declared.walk.Mark.{Mark}
use Rattle.mc_journal.specs.declared.record.DemuxRecord.{DemuxRecord}
use Rattle.mc_packet.specs.Choices.{is_empty}
use Rattle.mc_journal.specs.Choices.{kept_of}
use Rattle.mc_journal.specs.Films.{Film}
use Rattle.mc_journal.specs.Ranges.{Range}
use Rattle.mc_journal.specs.Readings.{failed, selected, waits}
use Rattle.mc_journal.specs.Stands.{stand, ranges_of}
use Rattle.mc_journal.specs.Views.{back, ending_in, forward, is_full}
use Rattle.mc_calls.specs.declared.job.Job.{Job}
use Rattle.mc_calls.specs.declared.job.Job.TheVariants.{SeekTo, Refresh, Resume, Read, Idle}
use Rattle.mc_calls.specs.Jobs.{read_at}
use Rattle.mc_calls.specs.Shows.{pending_goal}
use Rattle.mc_calls.specs.Tied.{is_upto, last_switch, number_of, read_upto, told_marks}
use Rattle.mc_calls.specs.Viewing.{flags_of}

-- ---- the short account

-- the number of records, the octets ahead of the readers and behind them, and of the ranges that it leaves whether the
-- current one has the film's ending, and how many there are
abbrev pub status_by : Film → List DemuxRecord → Status
status_by film h = record {
  seq = length h;
  forward = forward film.packets h;
  back = back film.packets h;
  flags = flags_of (ending_in (stand film.packets h).current) (length (ranges_of (stand film.packets h)));
}

-- ---- the job

-- the tracks that wait for their start
abbrev pub awaited : List DemuxRecord → Choice
awaited h = kept_of (selected h) (λ track. waits track h)

-- where nothing is to be found: the film is read on from the current range's mark, unless enough is read ahead
abbrev pub read_by : Film → Limits → Option Mark → List DemuxRecord → Job
read_by film limits mark h =
    if is_full film.packets limits h then Idle else read_at (number_of h) (is_upto (read_upto h) mark) mark

abbrev pub start_by : Film → Limits → Option Mark → List DemuxRecord → Option (ℤ × Dir) → Job
start_by film limits mark h (Some goal) = SeekTo (number_of h) (selected h) goal.0 goal.1
start_by film limits mark h None =
    if is_empty (awaited h) then read_by film limits mark h
    else Refresh (number_of h) (awaited h) (last_switch h).lead (last_switch h).at

-- a pending seek's starts, else those that are awaited, else a part of the film; nothing where nothing is selected, or a job
-- failed since the last seek or switch
abbrev pub job_by : Film → Limits → Option Mark → List DemuxRecord → Job
job_by film limits mark h =
    if is_empty (selected h) || failed h then Idle else start_by film limits mark h (pending_goal h)

-- ---- the mark

-- the newest mark that the journal tells at the place up to which the current range was read
abbrev pub mark_in_told : List Mark → Option Range → Option Mark
mark_in_told marks None = None
mark_in_told marks (Some r) = find (λ (m : Mark). m.pos == r.mark) marks

abbrev pub mark_by : Film → List DemuxRecord → Option Mark
mark_by film h = mark_in_told (told_marks h) (stand film.packets h).current

-- there is one mark at each place
abbrev pub AreOne : List Mark → Type 0
AreOne marks = (m n : Mark) → Contains marks m → Contains marks n → m.pos ≡ n.pos → m ≡ n

-- ---- a job whose outcome is awaited

-- it bears the journal's number; it asks for what is to be found there, or for a part at a mark that the journal tells, where
-- the current range is read on
abbrev pub IsAwaited : Film → List DemuxRecord → Job → Type 0
IsAwaited film h (SeekTo n set t dir) = (n ≡ number_of h) × (set ≡ selected h) × (pending_goal h ≡ Some (t, dir))
IsAwaited film h (Refresh n added lead at) =
    (n ≡ number_of h) × (added ≡ awaited h) × (last_switch h ≡ record { lead = lead; at = at })
IsAwaited film h (Resume n mark) =
    (n ≡ number_of h) × IsSomeAnd (stand film.packets h).current (λ r. r.mark ≡ mark.pos) × Contains (told_marks h) mark
IsAwaited film h (Read n) = n ≡ number_of h
IsAwaited film h Idle = ⊥
