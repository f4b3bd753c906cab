-- What the steps of the demuxer are over the two journals.
use Rattle.std.proofs.Common.{◌≡◌, ℕ, ℤ, false, List, Option, Some, None, Result, Ok, Err, ap}
use Rattle.std.specs.Prelude.{◌==◌, IsSomeAnd}
use Rattle.mc_packet.specs.declared.choice.Dir.{Dir}
use Rattle.mc_journal.specs.declared.record.Sought.{Sought as How}
use Rattle.mc_journal.specs.Films.{Film}
use Rattle.mc_player.specs.declared.record.Outcome.{Outcome}
use Rattle.mc_player.specs.declared.record.Outcome.TheVariants as outcome
use Rattle.mc_props.specs.declared.facts.Facts.{Facts}
use Rattle.mc_props.specs.declared.reading.Reading.{Reading}
use Rattle.mc_tracks.specs.Selection.{choice_of}
use Rattle.mc_calls.specs.declared.answer.DemuxError.{DemuxError}
use Rattle.mc_calls.specs.declared.answer.DemuxError.TheVariants.{Refused, JournalFull, NoMemory}
use Rattle.mc_calls.specs.declared.answer.Taken.{Taken}
use Rattle.mc_calls.specs.declared.job.Job.{Job}
use Rattle.mc_calls.specs.declared.waiting.Failure.TheVariants as failures
use Rattle.mc_calls.specs.Asking.{Asks}
use Rattle.mc_calls.specs.Film.{StandsFor}
use Rattle.mc_calls.specs.Seeking.{Seeks}
use Rattle.mc_calls.specs.Selecting.{Selects}
use Rattle.mc_calls.specs.State.{DemuxState}
use Rattle.mc_calls.specs.Viewing.{Shows}
use Rattle.mc_core.specs.Core.{history}
use Rattle.mc_jobs.specs.Doing.{number_of}
use Rattle.mc_jobs.specs.Working.{Takes}
use Rattle.mc_jobs.specs.declared.brought.Brought.{Brought}
use Rattle.mc_jobs.specs.declared.brought.Brought.TheVariants.{Chunk, Starts, Failed, Starved}
use Rattle.mc_story.specs.Runs.Step.{Other, Seek, Switch}
use Rattle.mc_story.specs.Steps.{Adds, SeekAdds, is_plain}
use Rattle.mc_steps.specs.Calls.{newest_first}
use Rattle.mc_steps.proofs.Demuxing.{fails, feeds, finds, left, reads, refused, shows, sought, switches}
use Rattle.mc_world.specs.declared.moves.Reply.{Reply}
use Rattle.mc_world.specs.declared.moves.Reply.TheVariants as reply
use Rattle.mc_world.specs.declared.moves.WorldError.{WorldError}
use Rattle.mc_world.specs.Calls.{Demuxes}
use Rattle.mc_world.specs.Steps.{BringsJob, ReadsTrack, TakesJob, job_after, job_left}
use Rattle.mc_world.specs.World.{WorldView}
use Rattle.mc_world.proofs.Listed.{asks_list, reads_list, seeks_list, selects_list, shows_list, takes_list}
use Rattle.mc_world.proofs.Tied.{Moves, nothing_added, unmoved}

-- all but the demuxer and the job that is out stays
pub record Beside (old new : WorldView) : Type 0 where
  pub path : new.path ≡ old.path
  pub tracks : new.tracks ≡ old.tracks
  pub entries : new.core.entries ≡ old.core.entries
  pub core : history new.core ≡ history old.core
  pub order : new.order ≡ old.order
  pub carried : new.carried ≡ old.carried

beside : (old new : WorldView) (job : Option Job) → new ≡ record old { demux = new.demux; job = job } → Beside old new
beside old new job e = record {
  path = ap (λ (w : WorldView). w.path) e;
  tracks = ap (λ (w : WorldView). w.tracks) e;
  entries = ap (λ (w : WorldView). w.core.entries) e;
  core = ap (λ (w : WorldView). history w.core) e;
  order = ap (λ (w : WorldView). w.order) e;
  carried = ap (λ (w : WorldView). w.carried) e;
}

-- the demuxer adds no seek, selection or refusal
pub plain : (n : ℕ) (value : ℕ → Facts → Reading) (film : Film) (old new : WorldView) → Beside old new → new.demux.list ≡ old.demux.list
    → Adds is_plain (newest_first old.demux) (newest_first new.demux) → Moves n value film old new
plain n value film old new b l a = record {
  path = b.path;
  tracks = b.tracks;
  list = l;
  entries = b.entries;
  step = Other;
  under = tt;
  is = record { adds = a; still = b.core; order = b.order; carried = b.carried };
}

same_journal : (old new : DemuxState) → newest_first new ≡ newest_first old → Adds is_plain (newest_first old) (newest_first new)
same_journal old new e = nothing_added is_plain (newest_first old) (newest_first new) e

-- ---- seek and select

seek_moves : (n by : ℕ) (value : ℕ → Facts → Reading) (film : Film) (t : ℤ) (dir : Dir) (old new : WorldView) → (by == n) ≡ false → Beside old new → new.demux.list ≡ old.demux.list
    → (x : Outcome) → SeekAdds by t dir (newest_first old.demux) x (newest_first new.demux) → Moves n value film old new
seek_moves n by value film t dir old new u b l x a = record {
  path = b.path;
  tracks = b.tracks;
  list = l;
  entries = b.entries;
  step = Seek by t dir;
  under = u;
  is = record { adds = (x, a); still = b.core; order = b.order; carried = b.carried };
}

seeks_by : (n by : ℕ) (value : ℕ → Facts → Reading) (film : Film) (t : ℤ) (dir : Dir) (old new : WorldView) (answer : Result How DemuxError) → StandsFor film old.demux → (by == n) ≡ false
    → Beside old new → Seeks by t dir old.demux answer new.demux → Moves n value film old new
seeks_by n by value film t dir old new (Ok how) f u b s =
    seek_moves n by value film t dir old new u b (seeks_list by t dir old.demux new.demux (Ok how) s) outcome.Sought (sought film by t dir old.demux new.demux how f s)
seeks_by n by value film t dir old new (Err (Refused why)) f u b s =
    seek_moves n by value film t dir old new u b (seeks_list by t dir old.demux new.demux (Err (Refused why)) s) (outcome.Refused why) (refused by t dir old.demux new.demux why s)
seeks_by n by value film t dir old new (Err JournalFull) f u b s =
    plain n value film old new b (seeks_list by t dir old.demux new.demux (Err JournalFull) s) (same_journal old.demux new.demux (ap newest_first s.1))
seeks_by n by value film t dir old new (Err NoMemory) f u b s =
    plain n value film old new b (seeks_list by t dir old.demux new.demux (Err NoMemory) s) (same_journal old.demux new.demux (left old.demux new.demux s.1))

pub seek : (n by : ℕ) (value : ℕ → Facts → Reading) (film : Film) (t : ℤ) (dir : Dir) (old new : WorldView) (r : Result Reply WorldError) → StandsFor film old.demux → (by == n) ≡ false
    → Demuxes (Seeks by t dir) reply.Seek old r new → Moves n value film old new
seek n by value film t dir old new r f u d = seeks_by n by value film t dir old new d.0 f u (beside old new old.job d.3) d.1

pub switch : (n by : ℕ) (value : ℕ → Facts → Reading) (film : Film) (set : List ℕ) (at : ℤ) (old new : WorldView) (r : Result Reply WorldError) → StandsFor film old.demux → (by == n) ≡ false
    → Demuxes (Selects by set at) reply.Switch old r new → Moves n value film old new
switch n by value film set at old new r f u d =
    let b = beside old new old.job d.3 in
    record {
      path = b.path;
      tracks = b.tracks;
      list = selects_list by set at old.demux new.demux d.0 d.1;
      entries = b.entries;
      step = Switch by (choice_of old.demux.list set) at;
      under = u;
      is = record { adds = switches film by set at old.demux new.demux d.0 f d.1; still = b.core; order = b.order; carried = b.carried };
    }

-- ---- a look, a job and its outcome, a read

pub show : (n by : ℕ) (value : ℕ → Facts → Reading) (film : Film) (old new : WorldView) (r : Result Reply WorldError) → Demuxes (Shows by) reply.Show old r new → Moves n value film old new
show n by value film old new r d =
    plain n value film old new (beside old new old.job d.3) (shows_list by old.demux new.demux d.0 d.1) (shows by old.demux new.demux d.0 d.1)

asked : (old new : DemuxState) (answer : Result Job DemuxError) → Asks old answer new → newest_first new ≡ newest_first old
asked old new (Ok job) a = ap newest_first a.2.changed
asked old new (Err (Refused why)) a = absurd a
asked old new (Err JournalFull) a = ap newest_first a.1
asked old new (Err NoMemory) a = left old new a.1

pub take : (n : ℕ) (value : ℕ → Facts → Reading) (film : Film) (old new : WorldView) (r : Result Reply WorldError) → TakesJob old r new → Moves n value film old new
take n value film old new r d =
    plain n value film old new (beside old new (job_after d.0) d.3) (asks_list old.demux new.demux d.0 d.1) (same_journal old.demux new.demux (asked old.demux new.demux d.0 d.1))

taken : (n : ℕ) (what : Brought) (old new : DemuxState) (answer : Result Taken DemuxError) → Takes n what old answer new → Adds is_plain (newest_first old) (newest_first new)
taken n (Chunk c) old new answer t = feeds n c old new answer t
taken n (Starts s) old new answer t = finds n s old new answer t
taken n (Failed b a) old new (Ok x) t = fails n (failures.Failed b a) old new x t
taken n Starved old new (Ok x) t = fails n failures.Starved old new x t
taken n (Failed b a) old new (Err e) t = absurd t
taken n Starved old new (Err e) t = absurd t

brings : (n k : ℕ) (value : ℕ → Facts → Reading) (film : Film) (what : Brought) (old new : WorldView) (r : Result Reply WorldError) → BringsJob what k old r new → Moves n value film old new
brings n k value film what old new r d =
    plain n value film old new (beside old new (job_left old.job d.0) d.3) (takes_list k what old.demux new.demux d.0 d.1) (taken k what old.demux new.demux d.0 d.1)

brings_under : (n : ℕ) (value : ℕ → Facts → Reading) (film : Film) (what : Brought) (old new : WorldView) (r : Result Reply WorldError) (k : Option ℕ)
    → IsSomeAnd k (λ i. BringsJob what i old r new) → Moves n value film old new
brings_under n value film what old new r None d = absurd d
brings_under n value film what old new r (Some k) d = brings n k value film what old new r d

pub bring : (n : ℕ) (value : ℕ → Facts → Reading) (film : Film) (what : Brought) (old new : WorldView) (r : Result Reply WorldError) (job : Option Job)
    → IsSomeAnd job (λ j. IsSomeAnd (number_of j) (λ i. BringsJob what i old r new)) → Moves n value film old new
bring n value film what old new r None d = absurd d
bring n value film what old new r (Some job) d = brings_under n value film what old new r (number_of job) d

pub read : (n by : ℕ) (value : ℕ → Facts → Reading) (film : Film) (old new : WorldView) (r : Result Reply WorldError) (track : Option ℕ) → ReadsTrack by track old r new → Moves n value film old new
read n by value film old new r None d = unmoved n value film old new d.1
read n by value film old new r (Some track) d =
    plain n value film old new (beside old new old.job d.3) (reads_list by track old.demux new.demux d.0 d.1) (reads by track old.demux new.demux d.0 d.1)
