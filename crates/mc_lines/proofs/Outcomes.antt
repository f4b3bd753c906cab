-- A job that was done and brought, as a script's lines rest on it.
use Rattle.std.proofs.Common.{◌≡◌, ℕ, ◌+◌, List, [], ◌∷◌, ◌++◌, Some, Result, Ok, Err, refl, sym, ap, ◌∙◌, arith}
use Rattle.mc_packet.specs.declared.walk.Chunk.{Chunk as FilmChunk}
use Rattle.mc_packet.specs.declared.choice.Starts.{Starts as FoundStarts}
use Rattle.mc_journal.specs.declared.record.DemuxRecord.{DemuxRecord}
use Rattle.mc_journal.specs.declared.record.DemuxRecord.TheVariants.{Found, Failed as FailedRecord, Starved as StarvedRecord}
use Rattle.mc_calls.specs.declared.answer.DemuxError.{DemuxError}
use Rattle.mc_calls.specs.declared.answer.DemuxError.TheVariants as errors
use Rattle.mc_calls.specs.declared.answer.Taken.{Taken}
use Rattle.mc_calls.specs.declared.answer.Taken.TheVariants.{Taken as WasTaken, Stale}
use Rattle.mc_calls.specs.declared.job.Job.{Job}
use Rattle.mc_calls.specs.declared.waiting.Failure.{Failure}
use Rattle.mc_calls.specs.declared.waiting.Failure.TheVariants as failures
use Rattle.mc_calls.specs.Film.{failure_record}
use Rattle.mc_calls.specs.Outcomes.{Fails, Feeds, Finds, IsStale}
use Rattle.mc_calls.specs.State.{DemuxState}
use Rattle.mc_jobs.specs.Doing.{Does, number_of}
use Rattle.mc_lines.specs.Calls.{Brings, Outcome}
use Rattle.mc_jobs.specs.declared.brought.Brought.{Brought}
use Rattle.mc_jobs.specs.declared.brought.Brought.TheVariants.{Chunk, Starts, Failed, Starved}
use Rattle.mc_lines.specs.Machines.{jobs_of}
use Rattle.mc_jobs.specs.Working.{CountsFit, Takes}
use Rattle.mc_lines.proofs.Called.{room_fails, same_fails}

same_number : (m n : ℕ) → Some m ≡ Some n → m ≡ n
same_number m n e = cc

-- an outcome under an old number
stale : (job : Job) (n asked now before after : ℕ) (old new : DemuxState) → number_of job ≡ Some n → IsStale n asked now old new
    → Brings job before after old.journal new.journal (jobs_of old) (jobs_of new) (Ok (Stale asked now))
stale job n asked now before after old new bears h =
    (λ e. h.differ (same_number n old.number (sym bears ∙ e)), ap (λ (d : DemuxState). d.journal) h.same, ap (λ (d : DemuxState). jobs_of d) h.same)

fed : (job : Job) (n before after : ℕ) (c : FilmChunk) (old new : DemuxState) (r : Result Taken DemuxError) → number_of job ≡ Some n → Feeds n c old r new
    → Brings job before after old.journal new.journal (jobs_of old) (jobs_of new) r
fed job n before after c old new (Ok WasTaken) bears h =
    let more : new.number ≡ old.number + 1 = ap (λ (d : DemuxState). d.number) h.2.changed in
    (bears ∙ ap (λ (m : ℕ). Some m) h.1, record { own = _; is = refl; by_demuxer = refl; fails = tt; wrote = h.2.wrote }, omega (arith, more))
fed job n before after c old new (Ok (Stale asked now)) bears h = stale job n asked now before after old new bears h.1
fed job n before after c old new (Err (errors.Refused why)) bears h = absurd h
fed job n before after c old new (Err errors.JournalFull) bears h = same_fails old new h.0 h.1
fed job n before after c old new (Err errors.NoMemory) bears h = room_fails old new h.1

found : (job : Job) (n before after : ℕ) (s : FoundStarts) (old new : DemuxState) (r : Result Taken DemuxError) → number_of job ≡ Some n → Finds n s old r new
    → Brings job before after old.journal new.journal (jobs_of old) (jobs_of new) r
found job n before after s old new (Ok WasTaken) bears h =
    let more : new.number ≡ old.number + 1 = ap (λ (d : DemuxState). d.number) h.2.changed in
    (bears ∙ ap (λ (m : ℕ). Some m) h.1, record { own = Found 5 s; is = refl; by_demuxer = refl; fails = tt; wrote = h.2.wrote }, omega (arith, more))
found job n before after s old new (Ok (Stale asked now)) bears h = stale job n asked now before after old new bears h.1
found job n before after s old new (Err (errors.Refused why)) bears h = absurd h
found job n before after s old new (Err errors.JournalFull) bears h = same_fails old new h.0 h.1
found job n before after s old new (Err errors.NoMemory) bears h = room_fails old new h.1

-- a failure, as it is brought
abbrev nothing_of : Failure → Brought
nothing_of (failures.Failed b a) = Failed b a
nothing_of failures.Starved = Starved

-- the record of a failure
failure_told : (before after : ℕ) (failure : Failure) (old new : List DemuxRecord) → CountsFit before after (nothing_of failure) → new ≡ old ++ failure_record failure ∷ [] → Outcome before after old new
failure_told before after (failures.Failed b a) old new fits e = record { own = FailedRecord 5 b a; is = refl; by_demuxer = refl; fails = fits; wrote = record { extras = []; grows = e; are = tt } }
failure_told before after failures.Starved old new fits e = record { own = StarvedRecord 5; is = refl; by_demuxer = refl; fails = tt; wrote = record { extras = []; grows = e; are = tt } }

pub failed : (job : Job) (n before after : ℕ) (failure : Failure) (old new : DemuxState) (taken : Taken) → number_of job ≡ Some n → CountsFit before after (nothing_of failure)
    → Fails n failure (failure_record failure) old taken new → Brings job before after old.journal new.journal (jobs_of old) (jobs_of new) (Ok taken)
failed job n before after failure old new WasTaken bears fits h =
    let more : new.number ≡ old.number + 1 = ap (λ (d : DemuxState). d.number) h.1 in
    (bears ∙ ap (λ (m : ℕ). Some m) h.0, failure_told before after failure old.journal new.journal fits (ap (λ (d : DemuxState). d.journal) h.1), omega (arith, more))
failed job n before after failure old new (Stale asked now) bears fits h = stale job n asked now before after old new bears h

brings_by : (job : Job) (n before after : ℕ) (brought : Brought) (old new : DemuxState) (r : Result Taken DemuxError) → number_of job ≡ Some n → CountsFit before after brought → Takes n brought old r new
    → Brings job before after old.journal new.journal (jobs_of old) (jobs_of new) r
brings_by job n before after (Chunk c) old new r bears fits h = fed job n before after c old new r bears h
brings_by job n before after (Starts s) old new r bears fits h = found job n before after s old new r bears h
brings_by job n before after (Failed b a) old new (Ok taken) bears fits h = failed job n before after (failures.Failed b a) old new taken bears fits h
brings_by job n before after Starved old new (Ok taken) bears fits h = failed job n before after failures.Starved old new taken bears fits h
brings_by job n before after (Failed b a) old new (Err e) bears fits h = absurd h
brings_by job n before after Starved old new (Err e) bears fits h = absurd h

pub brings : (job : Job) (n before after : ℕ) (old new : DemuxState) (r : Result Taken DemuxError) → number_of job ≡ Some n → Does before after n old r new
    → Brings job before after old.journal new.journal (jobs_of old) (jobs_of new) r
brings job n before after old new r bears h = brings_by job n before after h.0 old new r bears h.1 h.2
