-- What ties the fields of a world to its two journals.
use Rattle.std.specs.Prelude.{◌≡◌, ℕ, true, List, [], ◌∷◌, Option, Some, None, IfSome, IsSomeAnd}
use Rattle.mc_packet.specs.declared.choice.Choice.{Choice}
use Rattle.mc_journal.specs.declared.record.DemuxRecord.TheVariants.{Opened}
use Rattle.mc_journal.specs.Films.{Film}
use Rattle.mc_player.specs.declared.record.Order.{Order}
use Rattle.mc_player.specs.declared.record.Outcome.{Outcome}
use Rattle.mc_player.specs.Journals.{out}
use Rattle.mc_player.specs.Orders.{AreLoads, IsOf, Item, Opening, ordered, with_out}
use Rattle.mc_story.specs.Same.{same}
use Rattle.mc_story.specs.Steps.{Both}
use Rattle.mc_story.specs.Story.{Views}

-- what the demuxer was asked so far: the orders that are done, and that which is carried, with what
-- it came to
abbrev pub so_far : Option Outcome → Option Order → List Item → List Item
so_far None o is = is
so_far (Some x) o is = with_out o (Some x) is

-- caller n asked what was carried so far; each learned view is one of the demuxer's; each file that
-- was loaded is the one that is opened; the order is the one that is out, and what was carried is
-- an outcome of it
pub record IsTied (n : ℕ) (film : Film) (w : Opening) (s : Both) : Type 0 where
  pub asked : same n s.hd (so_far s.carried (out s.hc) (ordered s.hc)) ≡ true
  pub learned : Views n film s.hd s.hc
  pub loads : AreLoads w s.hc
  pub order_is : s.order ≡ out s.hc
  pub carried_is : IfSome s.carried (λ x. IsSomeAnd s.order (λ o. IsOf w o x))

-- a new world: the demuxer's journal is its opening, and the player's is empty
abbrev pub fresh_world : ℕ → Choice → Both
fresh_world by set = record { hd = Opened by set ∷ []; hc = []; order = None; carried = None }
