-- A demuxer keeps its list of tracks.
use Rattle.std.proofs.Common.{◌≡◌, ℕ, List, Option, Some, None, Result, Ok, Err, ap}
use Rattle.std.specs.Prelude.{ℤ}
use Rattle.mc_packet.specs.declared.cache.CacheView.{CacheView}
use Rattle.mc_packet.specs.declared.choice.Dir.{Dir}
use Rattle.mc_packet.specs.declared.choice.Starts.{Starts as FoundStarts}
use Rattle.mc_packet.specs.declared.walk.Chunk.{Chunk as FilmChunk}
use Rattle.mc_journal.specs.declared.record.Sought.{Sought as How}
use Rattle.mc_journal.specs.declared.record.DemuxRecord.{DemuxRecord}
use Rattle.mc_calls.specs.declared.answer.DemuxError.{DemuxError}
use Rattle.mc_calls.specs.declared.answer.DemuxError.TheVariants.{Refused, JournalFull, NoMemory}
use Rattle.mc_calls.specs.declared.answer.Reading.{Reading}
use Rattle.mc_calls.specs.declared.answer.Selected.{Selected}
use Rattle.mc_calls.specs.declared.answer.Selected.TheVariants.{Same, Changed}
use Rattle.mc_calls.specs.declared.answer.Taken.{Taken}
use Rattle.mc_calls.specs.declared.answer.Taken.TheVariants.{Taken as WasTaken, Stale}
use Rattle.mc_calls.specs.declared.job.Job.{Job}
use Rattle.mc_calls.specs.declared.waiting.Failure.{Failure}
use Rattle.mc_calls.specs.declared.waiting.Failure.TheVariants as failures
use Rattle.mc_calls.specs.Asking.{Asks}
use Rattle.mc_calls.specs.Film.{failure_record}
use Rattle.mc_calls.specs.Outcomes.{Fails, Feeds, Finds}
use Rattle.mc_calls.specs.Readings.{Reads, ReadsWith, record_of}
use Rattle.mc_calls.specs.Seeking.{Seeks}
use Rattle.mc_calls.specs.Selecting.{Selects}
use Rattle.mc_calls.specs.State.{DemuxState}
use Rattle.mc_calls.specs.Viewing.{Shows}
use Rattle.mc_jobs.specs.declared.brought.Brought.{Brought}
use Rattle.mc_jobs.specs.declared.brought.Brought.TheVariants.{Chunk, Starts, Failed, Starved}
use Rattle.mc_jobs.specs.Working.{Takes}

list_of : {old new : DemuxState} → new ≡ old → new.list ≡ old.list
list_of e = ap (λ (d : DemuxState). d.list) e

pub seeks_list : (by : ℕ) (t : ℤ) (dir : Dir) (old new : DemuxState) (r : Result How DemuxError) → Seeks by t dir old r new → new.list ≡ old.list
seeks_list by t dir old new (Ok how) h = ap (λ (d : DemuxState). d.list) h.3.changed
seeks_list by t dir old new (Err (Refused why)) h = ap (λ (d : DemuxState). d.list) h.3.changed
seeks_list by t dir old new (Err JournalFull) h = list_of h.1
seeks_list by t dir old new (Err NoMemory) h = ap (λ (d : DemuxState). d.list) h.1.changed

pub selects_list : (by : ℕ) (numbers : List ℕ) (at : ℤ) (old new : DemuxState) (r : Result Selected DemuxError) → Selects by numbers at old r new → new.list ≡ old.list
selects_list by numbers at old new (Ok Same) h = list_of h.3
selects_list by numbers at old new (Ok Changed) h = ap (λ (d : DemuxState). d.list) h.3.changed
selects_list by numbers at old new (Err (Refused why)) h = ap (λ (d : DemuxState). d.list) h.2.changed
selects_list by numbers at old new (Err JournalFull) h = list_of h.1
selects_list by numbers at old new (Err NoMemory) h = ap (λ (d : DemuxState). d.list) h.1.changed

pub shows_list : (by : ℕ) (old new : DemuxState) (r : Result CacheView DemuxError) → Shows by old r new → new.list ≡ old.list
shows_list by old new (Ok view) h = ap (λ (d : DemuxState). d.list) h.2.changed
shows_list by old new (Err (Refused why)) h = absurd h
shows_list by old new (Err JournalFull) h = list_of h.1
shows_list by old new (Err NoMemory) h = ap (λ (d : DemuxState). d.list) h.1.changed

pub asks_list : (old new : DemuxState) (r : Result Job DemuxError) → Asks old r new → new.list ≡ old.list
asks_list old new (Ok job) h = ap (λ (d : DemuxState). d.list) h.2.changed
asks_list old new (Err (Refused why)) h = absurd h
asks_list old new (Err JournalFull) h = list_of h.1
asks_list old new (Err NoMemory) h = ap (λ (d : DemuxState). d.list) h.1.changed

with_list : (by track : ℕ) (reading : Reading) (own : Option DemuxRecord) (old new : DemuxState) → ReadsWith by track reading own old new → new.list ≡ old.list
with_list by track reading None old new h = list_of h
with_list by track reading (Some own) old new h = ap (λ (d : DemuxState). d.list) h.changed

pub reads_list : (by track : ℕ) (old new : DemuxState) (r : Result Reading DemuxError) → Reads by track old r new → new.list ≡ old.list
reads_list by track old new (Ok reading) h = with_list by track reading (record_of by track reading) old new h.2
reads_list by track old new (Err (Refused why)) h = absurd h
reads_list by track old new (Err JournalFull) h = list_of h.1
reads_list by track old new (Err NoMemory) h = ap (λ (d : DemuxState). d.list) h.1.changed

feeds_list : (n : ℕ) (c : FilmChunk) (old new : DemuxState) (r : Result Taken DemuxError) → Feeds n c old r new → new.list ≡ old.list
feeds_list n c old new (Ok WasTaken) h = ap (λ (d : DemuxState). d.list) h.2.changed
feeds_list n c old new (Ok (Stale asked now)) h = list_of h.1.same
feeds_list n c old new (Err (Refused why)) h = absurd h
feeds_list n c old new (Err JournalFull) h = list_of h.1
feeds_list n c old new (Err NoMemory) h = ap (λ (d : DemuxState). d.list) h.1.changed

finds_list : (n : ℕ) (s : FoundStarts) (old new : DemuxState) (r : Result Taken DemuxError) → Finds n s old r new → new.list ≡ old.list
finds_list n s old new (Ok WasTaken) h = ap (λ (d : DemuxState). d.list) h.2.changed
finds_list n s old new (Ok (Stale asked now)) h = list_of h.1.same
finds_list n s old new (Err (Refused why)) h = absurd h
finds_list n s old new (Err JournalFull) h = list_of h.1
finds_list n s old new (Err NoMemory) h = ap (λ (d : DemuxState). d.list) h.1.changed

fails_list : (n : ℕ) (failure : Failure) (old new : DemuxState) (taken : Taken) → Fails n failure (failure_record failure) old taken new → new.list ≡ old.list
fails_list n failure old new WasTaken h = ap (λ (d : DemuxState). d.list) h.1
fails_list n failure old new (Stale asked now) h = list_of h.same

pub takes_list : (n : ℕ) (brought : Brought) (old new : DemuxState) (r : Result Taken DemuxError) → Takes n brought old r new → new.list ≡ old.list
takes_list n (Chunk c) old new r h = feeds_list n c old new r h
takes_list n (Starts s) old new r h = finds_list n s old new r h
takes_list n (Failed b a) old new (Ok taken) h = fails_list n (failures.Failed b a) old new taken h
takes_list n Starved old new (Ok taken) h = fails_list n failures.Starved old new taken h
takes_list n (Failed b a) old new (Err e) h = absurd h
takes_list n Starved old new (Err e) h = absurd h
