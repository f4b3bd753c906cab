-- A demuxer's calls, as a script's lines rest on them.
use Rattle.std.proofs.Common.{◌≡◌, ℕ, ◌+◌, Bool, true, false, List, [], ◌∷◌, Option, Some, None, Result, Ok, Err, refl, sym, ap, subst, ◌∙◌, inl, inr, arith}
use Rattle.std.proofs.lemmas.Bool.{cases_Bool}
use Rattle.std.specs.Prelude.{IfSome, ◌&&◌, ◌||◌, if◌then◌else◌, nat_le, ℤ}
use Rattle.std.specs.Option.{option_map}
use Rattle.std.specs.List.{AllByRecursion}
use Rattle.mc_packet.specs.declared.cache.CacheView.{CacheView}
use Rattle.mc_packet.specs.declared.cache.Heads.{Heads}
use Rattle.mc_packet.specs.declared.choice.Choice.{Choice}
use Rattle.mc_packet.specs.declared.choice.Dir.{Dir}
use Rattle.mc_packet.specs.declared.packet.Packet.{Packet}
use Rattle.mc_packet.specs.declared.packet.Pos.{Pos}
use Rattle.mc_packet.specs.declared.walk.Ending.{Ending}
use Rattle.mc_range.specs.Range.{RangeState, queue_of}
use Rattle.mc_queue.specs.Queue.{QueueState}
use Rattle.mc_packet.specs.Choices.{has, is_track}
use Rattle.mc_journal.specs.declared.record.Sought.{Sought as How}
use Rattle.mc_journal.specs.declared.record.DemuxRecord.{DemuxRecord}
use Rattle.mc_journal.specs.declared.record.DemuxRecord.TheVariants.{Sought, Switched, Dropped, Refused as RefusedRecord}
use Rattle.mc_calls.specs.declared.answer.DemuxError.{DemuxError}
use Rattle.mc_calls.specs.declared.answer.DemuxError.TheVariants as errors
use Rattle.mc_calls.specs.declared.answer.Selected.{Selected}
use Rattle.mc_calls.specs.declared.answer.Selected.TheVariants.{Same, Changed}
use Rattle.mc_calls.specs.declared.answer.Reading.{Reading}
use Rattle.mc_calls.specs.declared.answer.Reading.TheVariants as reads
use Rattle.mc_calls.specs.declared.answer.Peek.{Peek}
use Rattle.mc_calls.specs.declared.job.Job.{Job}
use Rattle.mc_calls.specs.declared.job.Job.TheVariants.{SeekTo, Refresh, Resume, Read, Idle}
use Rattle.mc_calls.specs.declared.waiting.Failure.{Failure}
use Rattle.mc_calls.specs.declared.waiting.Failure.TheVariants.{Failed, Starved}
use Rattle.mc_calls.specs.declared.waiting.Target.{Target}
use Rattle.mc_calls.specs.Asking.{Asks, IsAsked}
use Rattle.mc_calls.specs.Demuxers.{IsDemux, IsKept, KeepsJob}
use Rattle.mc_calls.specs.Jobs.{job_of, kept_job}
use Rattle.mc_calls.specs.Keeping.{IsAsBefore}
use Rattle.mc_calls.specs.Readings.{Gives, ReadsWith, Reads as DemuxReads, ended_after, heads_after, peek_at, reading_by, reading_of, record_of, waiting_for}
use Rattle.mc_calls.specs.Records.{HasRoom, IsExtra, IsFull, IsLimitDrop, Wrote, WroteAll}
use Rattle.mc_calls.specs.Seeking.{IsRefused, Seeks as DemuxSeeks}
use Rattle.mc_calls.specs.Selecting.{Selects as DemuxSelects, added_to, choice_of, sought_again}
use Rattle.mc_calls.specs.Shows.{goal_of, is_finish, is_idle_job}
use Rattle.mc_calls.specs.State.{DemuxState, end_in, first_at, forward_of, head_of, next_in}
use Rattle.mc_calls.specs.Viewing.{Shows as DemuxShows}
use Rattle.mc_jobs.specs.Doing.{number_of}
use Rattle.mc_lines.specs.Calls.{Fails, Peeks, Reads, Seeks, Selects, Shows, Takes, switch_records}
use Rattle.mc_lines.specs.Machines.{ahead_of, jobs_of, place_of, would_tell}
use Rattle.mc_filmed.specs.Films.{refused_or}

-- ---- records

limit_extras : (by : ℕ) (ds : List DemuxRecord) → AllByRecursion (IsLimitDrop by) ds → AllByRecursion (IsExtra by) ds
limit_extras by [] h = tt
limit_extras by (Dropped n m ∷ ds) h = (h.0.0, limit_extras by ds h.1)
limit_extras by (_ ∷ ds) h = absurd h.0

wrote_all : (by : ℕ) (own : DemuxRecord) (old new : List DemuxRecord) → Wrote by own old new → WroteAll by (own ∷ []) old new
wrote_all by own old new w = record { extras = w.drops; grows = w.grows; are = limit_extras by w.drops w.are }

refused_wrote : (by : ℕ) (why : _) (old new : DemuxState) → IsRefused by why old new → WroteAll by (RefusedRecord by why ∷ []) old.journal new.journal
refused_wrote by why old new h = record { extras = []; grows = ap (λ (d : DemuxState). d.journal) h.changed; are = tt }

-- ---- nothing was written

pub same_fails : (old new : DemuxState) → IsFull old.journal → new ≡ old → Fails old.journal new.journal (jobs_of old) (jobs_of new) errors.JournalFull
same_fails old new full e = (ap (λ (d : DemuxState). d.journal) e, ap (λ (d : DemuxState). jobs_of d) e, full)

pub room_fails : (old new : DemuxState) → IsAsBefore old new → Fails old.journal new.journal (jobs_of old) (jobs_of new) errors.NoMemory
room_fails old new h = (ap (λ (d : DemuxState). d.journal) h.changed, ap (λ (d : DemuxState). jobs_of d) h.changed)

-- ---- seek, select, show

pub seeks : (by : ℕ) (t : ℤ) (dir : Dir) (old new : DemuxState) (r : Result How DemuxError) → DemuxSeeks by t dir old r new → Seeks (ahead_of old) by t dir old.journal new.journal (jobs_of old) (jobs_of new) r
seeks by t dir old new (Ok how) h =
    let n : new.number ≡ old.number + 1 = ap (λ (d : DemuxState). d.number) h.3.changed in
    (h.1, wrote_all by (Sought by old.set t dir how) old.journal new.journal h.3.wrote, omega (arith, n))
seeks by t dir old new (Err (errors.Refused why)) h = (h.1, h.2, refused_wrote by why old new h.3, ap (λ (d : DemuxState). jobs_of d) h.3.changed)
seeks by t dir old new (Err errors.JournalFull) h = same_fails old new h.0 h.1
seeks by t dir old new (Err errors.NoMemory) h = room_fails old new h.1

records_are : (by : ℕ) (set added : Choice) (at : ℤ) (o : Option Target) → Switched by set added at ∷ sought_again by set o ≡ switch_records by set added at (option_map goal_of o)
records_are by set added at None = refl
records_are by set added at (Some s) = refl

pub selects : (by : ℕ) (numbers : List ℕ) (at : ℤ) (old new : DemuxState) (r : Result Selected DemuxError) → DemuxSelects by numbers at old r new
    → Selects (ahead_of old) by numbers at old.journal new.journal (jobs_of old) (jobs_of new) r
selects by numbers at old new (Ok Same) h =
    (ap (λ o. refused_or o (choice_of old.list numbers)) h.1 ∙ ap (λ (c : Choice). Ok c) h.2, ap (λ (d : DemuxState). d.journal) h.3, ap (λ (d : DemuxState). jobs_of d) h.3)
selects by numbers at old new (Ok Changed) h =
    let set = choice_of old.list numbers in
    let n : new.number ≡ old.number + 1 = ap (λ (d : DemuxState). d.number) h.3.changed in (
      record {
        set = set;
        added = added_to set old;
        chosen = ap (λ o. refused_or o (choice_of old.list numbers)) h.1;
        wrote = subst (λ (rs : List DemuxRecord). WroteAll by rs old.journal new.journal) (records_are by set (added_to set old) at old.seeking) h.3.wrote;
      },
      omega (arith, n),
    )
selects by numbers at old new (Err (errors.Refused why)) h =
    (ap (λ o. refused_or o (choice_of old.list numbers)) h.1, refused_wrote by why old new h.2, ap (λ (d : DemuxState). jobs_of d) h.2.changed)
selects by numbers at old new (Err errors.JournalFull) h = same_fails old new h.0 h.1
selects by numbers at old new (Err errors.NoMemory) h = room_fails old new h.1

pub shows : (by : ℕ) (old new : DemuxState) (r : Result CacheView DemuxError) → DemuxShows by old r new → Shows by old.journal new.journal (jobs_of old) (jobs_of new) r
shows by old new (Ok view) h =
    (record { extras = []; grows = ap (λ (d : DemuxState). d.journal) h.2.changed; are = tt }, ap (λ (d : DemuxState). jobs_of d) h.2.changed)
shows by old new (Err (errors.Refused why)) h = absurd h
shows by old new (Err errors.JournalFull) h = same_fails old new h.0 h.1
shows by old new (Err errors.NoMemory) h = room_fails old new h.1

-- ---- jobs

-- a job that is kept bears the demuxer's number
kept_number : (d : DemuxState) (job : Job) → IsKept d job → number_of job ≡ Some d.number
kept_number d (SeekTo n set t dir) h = ap (λ (m : ℕ). Some m) h.0
kept_number d (Refresh n added lead at) h = ap (λ (m : ℕ). Some m) h.0
kept_number d (Resume n mark) h = ap (λ (m : ℕ). Some m) h.0
kept_number d (Read n) h = ap (λ (m : ℕ). Some m) h.0
kept_number d Idle h = absurd h

pub kept_bears : (d : DemuxState) (job : Job) → IsDemux d → d.kept ≡ Some job → number_of job ≡ Some d.number
kept_bears d job is e = let k : KeepsJob d job = subst (λ o. IfSome o (KeepsJob d)) e is.kept in kept_number d job k.is

-- a job that was given is kept
given_job : (job : Job) (old new : DemuxState) → kept_job job ≡ Some job → is_idle_job job ≡ false → HasRoom old.journal → job ≡ job_of old → IsAsked job old new → IsDemux new
    → HasRoom old.journal × (new.journal ≡ old.journal) × (new.number ≡ old.number) × (is_idle_job (job_of old) ≡ false) × (number_of job ≡ Some old.number) × (new.kept ≡ Some job)
given_job job old new some busy room is asked demux =
    let number : new.number ≡ old.number = ap (λ (d : DemuxState). d.number) asked.changed in
    let kept : new.kept ≡ Some job = ap (λ (d : DemuxState). d.kept) asked.changed ∙ some in
    (room, ap (λ (d : DemuxState). d.journal) asked.changed, number, ap is_idle_job (sym is) ∙ busy, kept_bears new job demux kept ∙ ap (λ (m : ℕ). Some m) number, kept)

pub takes : (old new : DemuxState) (r : Result Job DemuxError) → Asks old r new → IsDemux new → Takes (ahead_of old) old.journal new.journal (jobs_of old) (jobs_of new) r
takes old new (Ok Idle) h demux = (ap (λ (d : DemuxState). d.journal) h.2.changed, ap (λ (d : DemuxState). d.number) h.2.changed, ap is_idle_job (sym h.1))
takes old new (Ok (SeekTo n set t dir)) h demux = given_job (SeekTo n set t dir) old new refl refl h.0 h.1 h.2 demux
takes old new (Ok (Refresh n added lead at)) h demux = given_job (Refresh n added lead at) old new refl refl h.0 h.1 h.2 demux
takes old new (Ok (Resume n mark)) h demux = given_job (Resume n mark) old new refl refl h.0 h.1 h.2 demux
takes old new (Ok (Read n)) h demux = given_job (Read n) old new refl refl h.0 h.1 h.2 demux
takes old new (Err (errors.Refused why)) h demux = absurd h
takes old new (Err errors.JournalFull) h demux = same_fails old new h.0 h.1
takes old new (Err errors.NoMemory) h demux = room_fails old new h.1

-- ---- reads

-- what an answer says of a track
abbrev pub Saw : DemuxState → ℕ → Reading → Type 0
Saw d k (reads.Gave p) = next_in d.set d.heads k d.cache.current ≡ Some p
Saw d k reads.NotYet = (next_in d.set d.heads k d.cache.current ≡ None) × (would_tell d k ≡ false)
Saw d k (reads.End ending) = (next_in d.set d.heads k d.cache.current ≡ None) × (would_tell d k ≡ true)
Saw d k (reads.Overfull forward max) = (next_in d.set d.heads k d.cache.current ≡ None) × (would_tell d k ≡ false)
Saw d k (reads.Fault before after) = (next_in d.set d.heads k d.cache.current ≡ None) × (would_tell d k ≡ true)
Saw d k reads.Wanting = (next_in d.set d.heads k d.cache.current ≡ None) × (would_tell d k ≡ true)
Saw d k reads.Unselected = (next_in d.set d.heads k d.cache.current ≡ None) × (would_tell d k ≡ false)

-- a track that is not selected has no head
no_head : (a b c : Bool) (x y z : Option Pos) → (a || (b || c)) ≡ false → (if a then x else (if b then y else (if c then z else None))) ≡ None
no_head false false false x y z e = refl
no_head true b c x y z e = absurd (cc)
no_head false true c x y z e = absurd (cc)
no_head false false true x y z e = absurd (cc)

no_next : (o : Option QueueState) (head : Option Pos) → head ≡ None → first_at o head ≡ None
no_next None head e = refl
no_next (Some q) None e = refl
no_next (Some q) (Some p) e = absurd (cc)

none_in : (set : Choice) (heads : Heads) (k : ℕ) (current : Option RangeState) → has set k ≡ false → next_in set heads k current ≡ None
none_in set heads k None e = refl
none_in set heads k (Some r) e = no_next (queue_of k r.queues) (head_of set heads k) (no_head (is_track set.video k) (is_track set.audio k) (is_track set.sub k) heads.video heads.audio heads.sub e)

-- of a selected track, by what is next, its end and what failed
would_by : (d : DemuxState) (k : ℕ) (reading : Reading) → has d.set k ≡ true → reading_of k d ≡ reading → would_tell d k ≡ is_finish (peek_at reading)
would_by d k reading s e = ap (λ (b : Bool). b && is_finish (peek_at (reading_of k d))) s ∙ ap (λ (r : Reading). is_finish (peek_at r)) e

by_wait : (d : DemuxState) (k forward max : ℕ) → next_in d.set d.heads k d.cache.current ≡ None → has d.set k ≡ true → reading_of k d ≡ waiting_for None forward max → Saw d k (waiting_for None forward max)
by_wait d k forward max e s is = elim (cases_Bool (nat_le max forward)) [
  | inl y ↦ let full : reading_of k d ≡ reads.Overfull forward max = rw y at is in rw y (e, would_by d k (reads.Overfull forward max) s full)
  | inr n ↦ let more : reading_of k d ≡ reads.NotYet = rw n at is in rw n (e, would_by d k reads.NotYet s more)
]

by_parts : (d : DemuxState) (k : ℕ) (next : Option Packet) (ending : Option Ending) (failure : Option Failure) (forward max : ℕ) → next_in d.set d.heads k d.cache.current ≡ next
    → has d.set k ≡ true → reading_of k d ≡ reading_by next ending failure forward max → Saw d k (reading_by next ending failure forward max)
by_parts d k (Some p) ending failure forward max e s is = e
by_parts d k None (Some ending) failure forward max e s is = (e, would_by d k (reads.End ending) s is)
by_parts d k None None (Some (Failed before after)) forward max e s is = (e, would_by d k (reads.Fault before after) s is)
by_parts d k None None (Some Starved) forward max e s is = (e, would_by d k reads.Wanting s is)
by_parts d k None None None forward max e s is = by_wait d k forward max e s is

sees : (d : DemuxState) (k : ℕ) → Saw d k (reading_of k d)
sees d k = elim (cases_Bool (has d.set k)) [
  | inl y ↦
      let next = next_in d.set d.heads k d.cache.current in
      let ending = end_in k d.cache.current in
      let is : reading_of k d ≡ reading_by next ending d.failure (forward_of d) d.cache.limits.forward = rw y refl in
      subst (Saw d k) (sym is) (by_parts d k next ending d.failure (forward_of d) d.cache.limits.forward refl y is)
  | inr n ↦
      let is : reading_of k d ≡ reads.Unselected = rw n refl in
      subst (Saw d k) (sym is) (none_in d.set d.heads k d.cache.current n, rw n refl)
]

saw : (d : DemuxState) (k : ℕ) (r : Reading) → r ≡ reading_of k d → Saw d k r
saw d k r e = subst (Saw d k) (sym e) (sees d k)

no_place : (o : Option Packet) → o ≡ None → option_map place_of o ≡ None
no_place o e = rw e refl

told_own : (by k : ℕ) (own : DemuxRecord) (reading : Reading) (old new : DemuxState) → Gives by own (heads_after k reading old) (ended_after k reading old) old new → WroteAll by (own ∷ []) old.journal new.journal
told_own by k own reading old new h = wrote_all by own old.journal new.journal h.wrote

pub reads_of : (by k : ℕ) (old new : DemuxState) (r : Result Reading DemuxError) → DemuxReads by k old r new → Reads (ahead_of old) by k old.journal new.journal r
reads_of by k old new (Ok (reads.Gave p)) h = (ap (option_map place_of) (saw old k (reads.Gave p) h.1), (h.0, told_own by k _ (reads.Gave p) old new h.2))
reads_of by k old new (Ok reads.NotYet) h = let s = saw old k reads.NotYet h.1 in (no_place _ s.0, s.1, ap (λ (d : DemuxState). d.journal) h.2)
reads_of by k old new (Ok (reads.End ending)) h = let s = saw old k (reads.End ending) h.1 in (no_place _ s.0, s.1, (h.0, told_own by k _ (reads.End ending) old new h.2))
reads_of by k old new (Ok (reads.Overfull forward max)) h = let s = saw old k (reads.Overfull forward max) h.1 in (no_place _ s.0, s.1, (h.0, told_own by k _ (reads.Overfull forward max) old new h.2))
reads_of by k old new (Ok (reads.Fault before after)) h = let s = saw old k (reads.Fault before after) h.1 in (no_place _ s.0, s.1, (h.0, told_own by k _ (reads.Fault before after) old new h.2))
reads_of by k old new (Ok reads.Wanting) h = let s = saw old k reads.Wanting h.1 in (no_place _ s.0, s.1, (h.0, told_own by k _ reads.Wanting old new h.2))
reads_of by k old new (Ok reads.Unselected) h = let s = saw old k reads.Unselected h.1 in (no_place _ s.0, s.1, ap (λ (d : DemuxState). d.journal) h.2)
reads_of by k old new (Err (errors.Refused why)) h = absurd h
reads_of by k old new (Err errors.JournalFull) h = (ap (λ (d : DemuxState). d.journal) h.1, h.0)
reads_of by k old new (Err errors.NoMemory) h = ap (λ (d : DemuxState). d.journal) h.1.changed

-- a read leaves the jobs
pub read_jobs : (by k : ℕ) (old new : DemuxState) (r : Result Reading DemuxError) → DemuxReads by k old r new → jobs_of new ≡ jobs_of old
read_jobs by k old new (Ok reading) h = with (record_of by k reading) h.2 where
  with : (o : Option DemuxRecord) → ReadsWith by k reading o old new → jobs_of new ≡ jobs_of old
  with None e = ap (λ (d : DemuxState). jobs_of d) e
  with (Some own) e = ap (λ (d : DemuxState). jobs_of d) e.changed
read_jobs by k old new (Err (errors.Refused why)) h = absurd h
read_jobs by k old new (Err errors.JournalFull) h = ap (λ (d : DemuxState). jobs_of d) h.1
read_jobs by k old new (Err errors.NoMemory) h = ap (λ (d : DemuxState). jobs_of d) h.1.changed

peek_saw : (d : DemuxState) (k : ℕ) (r : Reading) → Saw d k r → Peeks (ahead_of d) k (peek_at r)
peek_saw d k (reads.Gave p) s = ap (option_map place_of) s
peek_saw d k reads.NotYet s = (no_place _ s.0, s.1)
peek_saw d k (reads.End ending) s = (no_place _ s.0, s.1)
peek_saw d k (reads.Overfull forward max) s = (no_place _ s.0, s.1)
peek_saw d k (reads.Fault before after) s = (no_place _ s.0, s.1)
peek_saw d k reads.Wanting s = (no_place _ s.0, s.1)
peek_saw d k reads.Unselected s = (no_place _ s.0, s.1)

pub peeks : (d : DemuxState) (k : ℕ) (p : Peek) → p ≡ peek_at (reading_of k d) → Peeks (ahead_of d) k p
peeks d k p e = subst (Peeks (ahead_of d) k) (sym e) (peek_saw d k (reading_of k d) (sees d k))

-- ---- reads on a film

pub next_gave : (d : DemuxState) (k : ℕ) (p : Packet) → reads.Gave p ≡ reading_of k d → next_in d.set d.heads k d.cache.current ≡ Some p
next_gave d k p e = saw d k (reads.Gave p) e

pub next_none : (d : DemuxState) (k : ℕ) (r : Reading) → r ≡ reading_of k d → Saw d k r
next_none d k r e = saw d k r e
