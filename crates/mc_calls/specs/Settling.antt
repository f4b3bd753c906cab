-- The joins of the current range and the drops that the limit asks for, as a call tells of them.
use Rattle.std.specs.Prelude.{◌≡◌, ℕ, zero, suc, List, [], ◌∷◌, ◌++◌, map}
use Rattle.mc_packet.specs.declared.cache.Heads.{Heads}
use Rattle.mc_journal.specs.declared.record.DemuxRecord.{DemuxRecord}
use Rattle.mc_journal.specs.declared.record.DemuxRecord.TheVariants.{Dropped, Joined}
use Rattle.mc_journal.specs.declared.record.Removal.{Removal}
use Rattle.mc_cache.specs.Cache.{CacheState, IsCache}
use Rattle.mc_cache.specs.Joining.{IsJoinedUp}
use Rattle.mc_calls.specs.Trimming.{Trims}

-- so many joins of a caller behind a journal
abbrev pub with_joins : ℕ → List DemuxRecord → ℕ → List DemuxRecord
with_joins by j zero = j
with_joins by j (suc n) = with_joins by j n ++ Joined by ∷ []

-- drops of a caller behind a journal
abbrev pub with_drops : ℕ → List DemuxRecord → List Removal → List DemuxRecord
with_drops by j drops = j ++ map (λ drop. Dropped by drop) drops

-- the current range is joined with each other one that touches it. Each join is told, and then the packets of ranges that
-- went since they differ
pub record TellsJoins (by : ℕ) (c₀ : CacheState) (j₀ : List DemuxRecord) (c : CacheState) (j : List DemuxRecord) : Type 0 where
  pub number : ℕ
  pub drops : List Removal
  pub joins : IsJoinedUp number drops c₀ c
  pub told : j ≡ with_drops by (with_joins by j₀ number) drops

-- and then packets go as the limit asks
pub record Settles (by : ℕ) (heads : Heads) (c₀ : CacheState) (j₀ : List DemuxRecord) (c : CacheState) (j : List DemuxRecord) : Type 0 where
  pub cache : CacheState
  pub journal : List DemuxRecord
  pub joins : TellsJoins by c₀ j₀ cache journal
  pub is_cache : IsCache cache
  pub trims : Trims by heads cache journal c j
