-- The drops that the limit asks for, one by one.
use Rattle.std.specs.Prelude.{ℕ, List, [], ◌∷◌, ◌++◌, Some}
use Rattle.mc_packet.specs.declared.cache.Heads.{Heads}
use Rattle.mc_journal.specs.declared.record.DemuxRecord.{DemuxRecord}
use Rattle.mc_journal.specs.declared.record.DemuxRecord.TheVariants.{Dropped}
use Rattle.mc_journal.specs.declared.record.Removal.{Removal}
use Rattle.mc_cache.specs.Cache.{CacheState, IsCache}
use Rattle.mc_cache.specs.Pruning.{Prunes}

-- from a cache and a journal to others: each drop is the next one that is asked for, and is told by the caller
pub data Trims (by : ℕ) (heads : Heads) (c₀ : CacheState) (j₀ : List DemuxRecord) : CacheState → List DemuxRecord → Type 0 where
  none : Trims by heads c₀ j₀ c₀ j₀
  more : (c : CacheState) (j : List DemuxRecord) (m : Removal) (c' : CacheState) → Trims by heads c₀ j₀ c j → IsCache c → Prunes heads (Some m) c c'
      → Trims by heads c₀ j₀ c' (j ++ Dropped by m ∷ [])
