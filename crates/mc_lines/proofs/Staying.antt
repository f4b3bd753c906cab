-- A demuxer keeps its limits and its tracks, and so the readings of its film.
use Rattle.std.proofs.Common.{◌≡◌, ℕ, List, Option, Some, None, Result, Ok, Err, ap}
use Rattle.std.specs.Prelude.{ℤ}
use Rattle.mc_packet.specs.declared.cache.CacheView.{CacheView}
use Rattle.mc_packet.specs.declared.choice.Dir.{Dir}
use Rattle.mc_packet.specs.declared.choice.Starts.{Starts as FoundStarts}
use Rattle.mc_packet.specs.declared.walk.Chunk.{Chunk as FilmChunk}
use Rattle.mc_journal.specs.declared.record.Sought.{Sought as How}
use Rattle.mc_journal.specs.declared.record.DemuxRecord.{DemuxRecord}
use Rattle.mc_walk.specs.declared.plan.Plan.{Plan}
use Rattle.mc_calls.specs.declared.answer.DemuxError.{DemuxError}
use Rattle.mc_calls.specs.declared.answer.DemuxError.TheVariants.{Refused, JournalFull, NoMemory}
use Rattle.mc_calls.specs.declared.answer.Reading.{Reading}
use Rattle.mc_calls.specs.declared.answer.Selected.{Selected}
use Rattle.mc_calls.specs.declared.answer.Selected.TheVariants.{Same, Changed}
use Rattle.mc_calls.specs.declared.answer.Taken.{Taken}
use Rattle.mc_calls.specs.declared.answer.Taken.TheVariants.{Taken as WasTaken, Stale}
use Rattle.mc_calls.specs.declared.job.Job.{Job}
use Rattle.mc_calls.specs.declared.waiting.Failure.{Failure}
use Rattle.mc_calls.specs.Asking.{Asks}
use Rattle.mc_calls.specs.Film.{failure_record}
use Rattle.mc_calls.specs.Keeping.{IsAsBefore}
use Rattle.mc_calls.specs.Outcomes.{Fails, Feeds, Finds}
use Rattle.mc_calls.specs.Readings.{Reads, ReadsWith, record_of}
use Rattle.mc_calls.specs.Seeking.{IsRefused, Seeks}
use Rattle.mc_calls.specs.Selecting.{Selects}
use Rattle.mc_calls.specs.State.{DemuxState}
use Rattle.mc_calls.specs.Viewing.{Shows}
use Rattle.mc_journal.specs.Drives.{Readings, readings}
use Rattle.mc_calls.specs.declared.waiting.Failure.TheVariants as failures
use Rattle.mc_jobs.specs.declared.brought.Brought.{Brought}
use Rattle.mc_jobs.specs.declared.brought.Brought.TheVariants.{Chunk, Starts, Failed, Starved}
use Rattle.mc_filmed.specs.Films.{film_for, choice_for}
use Rattle.mc_jobs.specs.Working.{Takes}

pub record Stays (old new : DemuxState) : Type 0 where
  pub limits : new.cache.limits ≡ old.cache.limits
  pub list : new.list ≡ old.list

as_same : (old new : DemuxState) → new ≡ old → Stays old new
as_same old new e = record { limits = ap (λ (d : DemuxState). d.cache.limits) e; list = ap (λ (d : DemuxState). d.list) e }

as_before : (old new : DemuxState) → IsAsBefore old new → Stays old new
as_before old new h = record { limits = h.cache_is.limits_is; list = ap (λ (d : DemuxState). d.list) h.changed }

as_refused : (by : ℕ) (why : _) (old new : DemuxState) → IsRefused by why old new → Stays old new
as_refused by why old new h = record { limits = ap (λ c. c.limits) h.cache_is; list = ap (λ (d : DemuxState). d.list) h.changed }

pub seeks_stays : (by : ℕ) (t : ℤ) (dir : Dir) (old new : DemuxState) (r : Result How DemuxError) → Seeks by t dir old r new → Stays old new
seeks_stays by t dir old new (Ok how) h = record { limits = h.3.limits_are; list = ap (λ (d : DemuxState). d.list) h.3.changed }
seeks_stays by t dir old new (Err (Refused why)) h = as_refused by why old new h.3
seeks_stays by t dir old new (Err JournalFull) h = as_same old new h.1
seeks_stays by t dir old new (Err NoMemory) h = as_before old new h.1

pub selects_stays : (by : ℕ) (numbers : List ℕ) (at : ℤ) (old new : DemuxState) (r : Result Selected DemuxError) → Selects by numbers at old r new → Stays old new
selects_stays by numbers at old new (Ok Same) h = as_same old new h.3
selects_stays by numbers at old new (Ok Changed) h = record { limits = h.3.limits_are; list = ap (λ (d : DemuxState). d.list) h.3.changed }
selects_stays by numbers at old new (Err (Refused why)) h = as_refused by why old new h.2
selects_stays by numbers at old new (Err JournalFull) h = as_same old new h.1
selects_stays by numbers at old new (Err NoMemory) h = as_before old new h.1

pub shows_stays : (by : ℕ) (old new : DemuxState) (r : Result CacheView DemuxError) → Shows by old r new → Stays old new
shows_stays by old new (Ok view) h = record { limits = ap (λ c. c.limits) h.2.cache_is; list = ap (λ (d : DemuxState). d.list) h.2.changed }
shows_stays by old new (Err (Refused why)) h = absurd h
shows_stays by old new (Err JournalFull) h = as_same old new h.1
shows_stays by old new (Err NoMemory) h = as_before old new h.1

pub asks_stays : (old new : DemuxState) (r : Result Job DemuxError) → Asks old r new → Stays old new
asks_stays old new (Ok job) h = record { limits = ap (λ (d : DemuxState). d.cache.limits) h.2.changed; list = ap (λ (d : DemuxState). d.list) h.2.changed }
asks_stays old new (Err (Refused why)) h = absurd h
asks_stays old new (Err JournalFull) h = as_same old new h.1
asks_stays old new (Err NoMemory) h = as_before old new h.1

with_stays : (by track : ℕ) (reading : Reading) (own : Option DemuxRecord) (old new : DemuxState) → ReadsWith by track reading own old new → Stays old new
with_stays by track reading None old new h = as_same old new h
with_stays by track reading (Some own) old new h = record { limits = h.limits_are; list = ap (λ (d : DemuxState). d.list) h.changed }

pub reads_stays : (by track : ℕ) (old new : DemuxState) (r : Result Reading DemuxError) → Reads by track old r new → Stays old new
reads_stays by track old new (Ok reading) h = with_stays by track reading (record_of by track reading) old new h.2
reads_stays by track old new (Err (Refused why)) h = absurd h
reads_stays by track old new (Err JournalFull) h = as_same old new h.1
reads_stays by track old new (Err NoMemory) h = as_before old new h.1

feeds_stays : (n : ℕ) (c : FilmChunk) (old new : DemuxState) (r : Result Taken DemuxError) → Feeds n c old r new → Stays old new
feeds_stays n c old new (Ok WasTaken) h = record { limits = h.2.limits_are; list = ap (λ (d : DemuxState). d.list) h.2.changed }
feeds_stays n c old new (Ok (Stale asked now)) h = as_same old new h.1.same
feeds_stays n c old new (Err (Refused why)) h = absurd h
feeds_stays n c old new (Err JournalFull) h = as_same old new h.1
feeds_stays n c old new (Err NoMemory) h = as_before old new h.1

finds_stays : (n : ℕ) (s : FoundStarts) (old new : DemuxState) (r : Result Taken DemuxError) → Finds n s old r new → Stays old new
finds_stays n s old new (Ok WasTaken) h = record { limits = h.2.limits_are; list = ap (λ (d : DemuxState). d.list) h.2.changed }
finds_stays n s old new (Ok (Stale asked now)) h = as_same old new h.1.same
finds_stays n s old new (Err (Refused why)) h = absurd h
finds_stays n s old new (Err JournalFull) h = as_same old new h.1
finds_stays n s old new (Err NoMemory) h = as_before old new h.1

pub fails_stays : (n : ℕ) (failure : Failure) (own : DemuxRecord) (old new : DemuxState) (taken : Taken) → Fails n failure own old taken new → Stays old new
fails_stays n failure own old new WasTaken h = record { limits = ap (λ (d : DemuxState). d.cache.limits) h.1; list = ap (λ (d : DemuxState). d.list) h.1 }
fails_stays n failure own old new (Stale asked now) h = as_same old new h.same

pub takes_stays : (n : ℕ) (brought : Brought) (old new : DemuxState) (r : Result Taken DemuxError) → Takes n brought old r new → Stays old new
takes_stays n (Chunk c) old new r h = feeds_stays n c old new r h
takes_stays n (Starts s) old new r h = finds_stays n s old new r h
takes_stays n (Failed b a) old new (Ok taken) h = fails_stays n (failures.Failed b a) (failure_record (failures.Failed b a)) old new taken h
takes_stays n Starved old new (Ok taken) h = fails_stays n failures.Starved (failure_record failures.Starved) old new taken h
takes_stays n (Failed b a) old new (Err e) h = absurd h
takes_stays n Starved old new (Err e) h = absurd h

-- the readings are the same
pub still_readings : (rd : Readings) (p p' : Plan) (old new : DemuxState) → p' ≡ p → Stays old new → rd ≡ readings (film_for p) old.cache.limits (choice_for old.list)
    → rd ≡ readings (film_for p') new.cache.limits (choice_for new.list)
still_readings rd p p' old new e s h = rw (e, s.limits, s.list) h
