-- A part of the film that is taken.
use Rattle.std.specs.Prelude.{◌≡◌, ℕ, ◌==◌, Bool, false, [], ◌∷◌, ◌++◌, Option, Some, None}
use Rattle.mc_packet.specs.declared.walk.Chunk.{Chunk}
use Rattle.mc_packet.specs.declared.walk.Mark.{Mark}
use Rattle.mc_journal.specs.declared.record.DemuxRecord.TheVariants.{Fed}
use Rattle.mc_range.specs.Range.{RangeState}
use Rattle.mc_range.specs.Growing.{taker}
use Rattle.mc_cache.specs.Cache.{CacheState, IsCache, mark_in}
use Rattle.mc_cache.specs.Changing as changing
use Rattle.mc_calls.specs.State.{DemuxState, renewed}
use Rattle.mc_calls.specs.Keeping.{IsAsBefore}
use Rattle.mc_calls.specs.Records.{WroteAll}
use Rattle.mc_journal.specs.Callers.{demuxer}
use Rattle.mc_calls.specs.Settling.{Settles}

-- the track of the current range that takes packets of it
abbrev pub took_in : Chunk → Option RangeState → Option ℕ
took_in chunk None = None
took_in chunk (Some r) = taker chunk.packets r.queues

-- a range is read on from the mark
abbrev pub is_at : Mark → Option Mark → Bool
is_at mark None = false
is_at mark (Some m) = m.pos == mark.pos

-- where there is room: the current range grows by it, which is told; then it is joined with others, and packets go as the
-- limit asks
pub record TakesPart (chunk : Chunk) (old new : DemuxState) : Type 0 where
  pub fed : CacheState
  pub is_cache : IsCache fed
  pub feeds : changing.Feeds chunk old.cache fed
  pub settles :
      Settles demuxer old.heads fed
      (old.journal ++ Fed demuxer chunk.from chunk.to (took_in chunk old.cache.current) chunk.ending ∷ [])
      new.cache new.journal
  pub changed : new ≡ renewed (is_at chunk.to (mark_in new.cache.current)) new old

-- A part that is brought, and taken. By steps: room is made for it, and then it is taken. In all: the next job reads on behind
-- it where the current range ends at its end, what a job brings under an older number is stale, and the rest stays
pub record PutsPart (chunk : Chunk) (old new : DemuxState) : Type 0 where
  pub roomy : DemuxState
  pub room : IsAsBefore old roomy
  pub takes : TakesPart chunk roomy new
  pub changed : new ≡ renewed (is_at chunk.to (mark_in new.cache.current)) new old
  pub limits_are : new.cache.limits ≡ old.cache.limits
  pub wrote :
      WroteAll demuxer (Fed demuxer chunk.from chunk.to (took_in chunk old.cache.current) chunk.ending ∷ [])
      old.journal new.journal
