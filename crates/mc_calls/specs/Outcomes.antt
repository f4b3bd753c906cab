-- What the outcome of a job is to be, and what is left when it is brought.
use Rattle.std.specs.Prelude.{◌≡◌, ◌⊎◌, ℕ, ◌+◌, ◌-◌, ◌<◌, ◌^◌, true, false, [], ◌∷◌, ◌++◌, Some, None, Result, Ok, Err, is_some, IsSomeAnd}
use Rattle.mc_packet.specs.Shape.{HasShape}
use Rattle.mc_packet.specs.declared.choice.Choice.{Choice}
use Rattle.mc_packet.specs.declared.choice.Starts.{Starts}
use Rattle.mc_packet.specs.declared.walk.Chunk.{Chunk}
use Rattle.mc_journal.specs.declared.record.DemuxRecord.{DemuxRecord}
use Rattle.mc_journal.specs.Used.{place_of_starts}
use Rattle.mc_cache.specs.Cache.{mark_in}
use Rattle.mc_calls.specs.declared.answer.Taken.{Taken}
use Rattle.mc_calls.specs.declared.answer.Taken.TheVariants.{Taken as WasTaken, Stale}
use Rattle.mc_calls.specs.declared.answer.DemuxError.{DemuxError}
use Rattle.mc_calls.specs.declared.answer.DemuxError.TheVariants.{Refused, JournalFull, NoMemory}
use Rattle.mc_calls.specs.declared.job.Job.{Job}
use Rattle.mc_calls.specs.declared.job.Job.TheVariants.{SeekTo, Refresh, Resume, Read}
use Rattle.mc_calls.specs.declared.waiting.Failure.{Failure}
use Rattle.mc_calls.specs.State.{DemuxState}
use Rattle.mc_calls.specs.Keeping.{IsAsBefore}
use Rattle.mc_calls.specs.Records.{HasRoom, IsFull}
use Rattle.mc_calls.specs.Feeding.{PutsPart}
use Rattle.mc_calls.specs.Finding.{PutsStarts}
pub use Rattle.mc_calls.specs.Feeding.{is_at, took_in}
pub use Rattle.mc_calls.specs.Finding.{head_at, heads_at}

-- ---- what fits a job

-- a start for just the tracks of a choice, and the mark at the least of them
pub record AreStartsFor (set : Choice) (starts : Starts) : Type 0 where
  pub video : is_some starts.video ≡ is_some set.video
  pub audio : is_some starts.audio ≡ is_some set.audio
  pub sub : is_some starts.sub ≡ is_some set.sub
  pub least : starts.mark.pos ≡ place_of_starts starts

-- starts are for a job that looks for them
abbrev pub StartsFit : Starts → Job → Type 0
StartsFit starts (SeekTo n set t dir) = AreStartsFor set starts
StartsFit starts (Refresh n added lead at) = AreStartsFor added starts
StartsFit starts _ = ⊥

-- a part of a film is for a job that reads on
abbrev pub PartFits : Chunk → Job → Type 0
PartFits chunk (Resume n mark) = chunk.from ≡ mark
PartFits chunk (Read n) = Unit {0}
PartFits chunk _ = ⊥

-- where the outcome is not stale a job is kept that it fits
abbrev pub BringsStarts : ℕ → Starts → DemuxState → Type 0
BringsStarts n starts d = n ≡ d.number → IsSomeAnd d.kept (StartsFit starts)

abbrev pub BringsPart : ℕ → Chunk → DemuxState → Type 0
BringsPart n chunk d = n ≡ d.number → IsSomeAnd d.kept (PartFits chunk) × (mark_in d.cache.current ≡ Some chunk.from) × HasShape chunk

abbrev pub BringsFailure : ℕ → DemuxState → Type 0
BringsFailure n d = n ≡ d.number → is_some d.kept ≡ true

-- a shelf's count of faults rose, or stands at its last value
abbrev pub HasRisen : ℕ → ℕ → Type 0
HasRisen before after = (before < after) ⊎ ((before ≡ 2 ^ 64 - 1) × (after ≡ 2 ^ 64 - 1))

-- ---- what is left

-- an outcome under an old number changes nothing
pub record IsStale (n asked now : ℕ) (old new : DemuxState) : Type 0 where
  pub differ : n ≡ old.number → ⊥
  pub asked_is : asked ≡ n
  pub now_is : now ≡ old.number
  pub same : new ≡ old

-- it stands since then that nothing is read on
abbrev pub failed_on : Failure → DemuxRecord → DemuxState → DemuxState
failed_on failure own old = record old {
  failure = Some failure;
  number = old.number + 1;
  kept = None;
  fed = false;
  journal = old.journal ++ own ∷ [];
  spare = old.spare - 1;
}

abbrev pub Finds : ℕ → Starts → DemuxState → Result Taken DemuxError → DemuxState → Type 0
Finds n starts old (Ok WasTaken) new = HasRoom old.journal × (n ≡ old.number) × PutsStarts starts old new
Finds n starts old (Ok (Stale asked now)) new = HasRoom old.journal × IsStale n asked now old new
Finds n starts old (Err (Refused why)) new = ⊥
Finds n starts old (Err JournalFull) new = IsFull old.journal × (new ≡ old)
Finds n starts old (Err NoMemory) new = HasRoom old.journal × IsAsBefore old new

abbrev pub Feeds : ℕ → Chunk → DemuxState → Result Taken DemuxError → DemuxState → Type 0
Feeds n chunk old (Ok WasTaken) new = HasRoom old.journal × (n ≡ old.number) × PutsPart chunk old new
Feeds n chunk old (Ok (Stale asked now)) new = HasRoom old.journal × IsStale n asked now old new
Feeds n chunk old (Err (Refused why)) new = ⊥
Feeds n chunk old (Err JournalFull) new = IsFull old.journal × (new ≡ old)
Feeds n chunk old (Err NoMemory) new = HasRoom old.journal × IsAsBefore old new

abbrev pub Fails : ℕ → Failure → DemuxRecord → DemuxState → Taken → DemuxState → Type 0
Fails n failure own old WasTaken new = (n ≡ old.number) × (new ≡ failed_on failure own old)
Fails n failure own old (Stale asked now) new = IsStale n asked now old new
