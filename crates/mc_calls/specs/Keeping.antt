-- What a call leaves alone.
use Rattle.std.specs.Prelude.{◌≡◌, ◌≤◌}
use Rattle.mc_cache.specs.Changing.{IsSameButRoom}
use Rattle.mc_calls.specs.State.{DemuxState}

-- all but room
pub record IsAsBefore (old new : DemuxState) : Type 0 where
  pub changed : new ≡ record old { cache = new.cache; spare = new.spare }
  pub cache_is : IsSameButRoom old.cache new.cache
  pub roomier : old.spare ≤ new.spare

-- all but room in the journal
pub record IsRoomy (old new : DemuxState) : Type 0 where
  pub changed : new ≡ record old { spare = new.spare }
  pub roomier : old.spare ≤ new.spare
