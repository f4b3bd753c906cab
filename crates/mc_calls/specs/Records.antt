-- The records that one call writes.
use Rattle.std.specs.Prelude.{◌≡◌, ℕ, ◌≤◌, ◌<◌, List, ◌∷◌, ◌++◌, length, ⊤}
use Rattle.std.specs.List.{AllByRecursion}
use Rattle.mc_journal.specs.declared.record.DemuxRecord.{DemuxRecord}
use Rattle.mc_journal.specs.declared.record.DemuxRecord.TheVariants.{Dropped, Joined}
use Rattle.mc_journal.specs.declared.record.Cause.TheVariants.{Limit}
use Rattle.mc_journal.specs.declared.record.Cause.{Cause}

-- a journal is full at 16,000,000 records
abbrev pub HasRoom : List DemuxRecord → Type 0
HasRoom journal = length journal < 16000000

abbrev pub IsFull : List DemuxRecord → Type 0
IsFull journal = 16000000 ≤ length journal

-- ---- behind a call's own record

abbrev pub IsLimit : Cause → Type 0
IsLimit (Limit back max) = ⊤
IsLimit _ = ⊥

-- a drop that the limit asks for, of the same caller
abbrev pub IsLimitDrop : ℕ → DemuxRecord → Type 0
IsLimitDrop by (Dropped n removal) = (n ≡ by) × IsLimit removal.cause
IsLimitDrop by _ = ⊥

-- a drop or a join, of the same caller
abbrev pub IsExtra : ℕ → DemuxRecord → Type 0
IsExtra by (Dropped n removal) = n ≡ by
IsExtra by (Joined n) = n ≡ by
IsExtra by _ = ⊥

-- the record and behind it drops that the limit asks for
pub record Wrote (by : ℕ) (own : DemuxRecord) (old new : List DemuxRecord) : Type 0 where
  pub drops : List DemuxRecord
  pub grows : new ≡ old ++ own ∷ drops
  pub are : AllByRecursion (IsLimitDrop by) drops

-- these records and behind them drops and joins
pub record WroteAll (by : ℕ) (own : List DemuxRecord) (old new : List DemuxRecord) : Type 0 where
  pub extras : List DemuxRecord
  pub grows : new ≡ old ++ (own ++ extras)
  pub are : AllByRecursion (IsExtra by) extras
