-- What a seek answers and leaves.
use Rattle.std.specs.Prelude.{◌≡◌, ℕ, ◌^◌, true, false, [], ◌∷◌, ◌++◌, Option, Some, None, Result, Ok, Err, ℤ, pos, neg_ℤ, ◌≤ℤ◌, is_some}
use Rattle.mc_packet.specs.declared.choice.Choice.{Choice}
use Rattle.mc_packet.specs.declared.choice.Dir.{Dir}
use Rattle.mc_packet.specs.declared.choice.Why.{Why}
use Rattle.mc_packet.specs.declared.choice.Why.TheVariants.{NoTrack}
use Rattle.mc_packet.specs.declared.cache.Heads.{Heads}
use Rattle.mc_journal.specs.declared.record.Sought.{Sought as How}
use Rattle.mc_journal.specs.declared.record.Sought.TheVariants.{Cached, Sent}
use Rattle.mc_journal.specs.declared.record.DemuxRecord.TheVariants.{Sought, Refused as RefusedRecord}
use Rattle.mc_packet.specs.Choices.{is_empty, nothing}
use Rattle.mc_journal.specs.Allowed.{how_by}
use Rattle.mc_cache.specs.Cache.{CacheState, IsCache}
use Rattle.mc_cache.specs.Changing.{IsChosen, IsLeft, heads_in, server}
use Rattle.mc_calls.specs.declared.answer.DemuxError.{DemuxError}
use Rattle.mc_calls.specs.declared.answer.DemuxError.TheVariants.{Refused, JournalFull, NoMemory}
use Rattle.mc_calls.specs.declared.waiting.Target.{Target}
use Rattle.mc_calls.specs.State.{DemuxState, renewed}
use Rattle.mc_calls.specs.Keeping.{IsAsBefore}
use Rattle.mc_calls.specs.Records.{HasRoom, IsFull, Wrote}
use Rattle.mc_calls.specs.Trimming.{Trims}

-- it is refused: one record tells why, and all else stays but room
pub record IsRefused (by : ℕ) (why : Why) (old new : DemuxState) : Type 0 where
  pub changed : new ≡ record old { cache = new.cache; journal = old.journal ++ RefusedRecord by why ∷ []; spare = new.spare }
  pub cache_is : new.cache ≡ old.cache

-- from the cache exactly where a range serves
abbrev pub how_of : ℤ → Dir → DemuxState → How
how_of t dir d = how_by (is_some (server d.set t dir d.cache))

abbrev pub target_after : ℤ → Dir → How → Option Target
target_after t dir Cached = None
target_after t dir Sent = Some (record { t = t; dir = dir })

abbrev pub heads_or : Heads → Option Heads → Heads
heads_or heads None = heads
heads_or heads (Some found) = found

-- the heads of the range that serves, if there is one
abbrev pub heads_after : ℤ → Dir → DemuxState → Heads
heads_after t dir d = heads_or d.heads (heads_in d.set t dir (server d.set t dir d.cache))

-- the cache turns to the range that serves, or leaves the one that is current
abbrev pub Turns : Choice → ℤ → Dir → How → CacheState → CacheState → Type 0
Turns set t dir Cached old new = IsChosen set t dir old new
Turns set t dir Sent old new = IsLeft old new

-- A seek that is carried out. By steps: the cache turns, the record stands behind the journal, and behind it packets went as
-- the limit asks. In all: the heads are those of the range that serves, nothing waits, nothing failed, no end was told, and
-- what a job brings under an older number is stale
pub record Goes (by : ℕ) (t : ℤ) (dir : Dir) (how : How) (old new : DemuxState) : Type 0 where
  pub turned : CacheState
  pub is_cache : IsCache turned
  pub turns : Turns old.set t dir how old.cache turned
  pub how_is : how ≡ how_of t dir old
  pub trims :
      Trims by (heads_after t dir old) turned (old.journal ++ Sought by old.set t dir how ∷ []) new.cache new.journal
  pub changed : new ≡ record (renewed false new old) {
    heads = heads_after t dir old;
    seeking = target_after t dir how;
    waiting = nothing;
    failure = None;
    ended = nothing;
  }
  pub limits_are : new.cache.limits ≡ old.cache.limits
  pub wrote : Wrote by (Sought by old.set t dir how) old.journal new.journal

abbrev pub Seeks : ℕ → ℤ → Dir → DemuxState → Result How DemuxError → DemuxState → Type 0
Seeks by t dir old (Ok how) new =
    HasRoom old.journal × (is_empty old.set ≡ false) × (how ≡ how_of t dir old) × Goes by t dir how old new
Seeks by t dir old (Err (Refused why)) new =
    HasRoom old.journal × (is_empty old.set ≡ true) × (why ≡ NoTrack) × IsRefused by why old new
Seeks by t dir old (Err JournalFull) new = IsFull old.journal × (new ≡ old)
Seeks by t dir old (Err NoMemory) new = HasRoom old.journal × IsAsBefore old new
