-- Who makes a player's records, by number.
use Rattle.std.specs.Prelude.{ℕ}
use Rattle.mc_player.specs.declared.record.CoreRecord.{CoreRecord}
use Rattle.mc_player.specs.declared.record.CoreRecord.TheVariants.{Created, Destroyed, Called, Learned, Wrote, Took, Ordered, Did, Pushed, Replied}

-- the number of the caller at whose call the record was made
abbrev pub by_of : CoreRecord → ℕ
by_of (Created by client name size) = by
by_of (Destroyed by client) = by
by_of (Called by client ticket call answer) = by
by_of (Learned by view) = by
by_of (Wrote by mask facts) = by
by_of (Took by client ticket id) = by
by_of (Ordered by order) = by
by_of (Did by outcome) = by
by_of (Pushed by client event kept) = by
by_of (Replied by client ticket event) = by
