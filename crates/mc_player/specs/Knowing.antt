-- Which tracks a player's journal speaks of.
use Rattle.std.specs.Prelude.{Option, Some, ⊤, List}
use Rattle.std.specs.List.{AllByRecursion}
use Rattle.mc_tracks.specs.TrackList.{HaveDistinctNumbers}
use Rattle.mc_props.specs.Settings.{AreKnown}
use Rattle.mc_props.specs.declared.facts.Facts.{Facts}
use Rattle.mc_player.specs.declared.record.Order.{Order}
use Rattle.mc_player.specs.declared.record.Order.TheVariants as order
use Rattle.mc_player.specs.declared.record.CoreRecord.{CoreRecord}
use Rattle.mc_player.specs.Effects.{Effect, Give, Push, Write, rest}
use Rattle.mc_player.specs.Facts.{facts_of}
use Rattle.mc_player.specs.Journals.{out}
use Rattle.mc_player.specs.Lives.{Table}

-- an order selects known tracks
abbrev pub Selects : Facts → Option Order → Type 0
Selects f (Some (order.Select set at)) = AreKnown f set
Selects f o = ⊤

abbrev pub Gives : Facts → Effect → Type 0
Gives f (Give o) = Selects f (Some o)
Gives f (Push c e) = ⊤
Gives f (Write mask) = ⊤

-- the tracks of the facts have numbers of their own; those that are selected, those of the order
-- that is out and those of one that is to be given are listed, each under its kind, and not encoded
pub record KnowsTracks (t : Table) (h : List CoreRecord) : Type 0 where
  pub distinct : HaveDistinctNumbers (facts_of t h).tracks
  pub selected : AreKnown (facts_of t h) (facts_of t h).set
  pub ordered : Selects (facts_of t h) (out h)
  pub coming : AllByRecursion (Gives (facts_of t h)) (rest t h)
