-- What a demuxer's journal and a player's journal say of each other. Both have their newest record
-- first.
use Rattle.std.specs.Prelude.{◌≡◌, ℕ, true, List, [], ◌∷◌, drop, ⊤}
use Rattle.mc_journal.specs.declared.record.DemuxRecord.{DemuxRecord}
use Rattle.mc_journal.specs.Films.{Film}
use Rattle.mc_journal.specs.Views.{view}
use Rattle.mc_player.specs.declared.record.CoreRecord.{CoreRecord}
use Rattle.mc_player.specs.declared.record.CoreRecord.TheVariants.{Learned}
use Rattle.mc_player.specs.Orders.{Loads, Opening}
use Rattle.mc_story.specs.Same.{same_story}

-- each learned view is that of a front of the demuxer's journal, of which the newest `n` records
-- are left off. The fronts never get shorter, and each tells one story with the player's journal so
-- far
abbrev pub Views : ℕ → Film → List DemuxRecord → List CoreRecord → Type 0
Views m film hd [] = ⊤
Views m film hd (Learned by v ∷ hc) = (n : ℕ) × (v ≡ view film.packets (drop n hd))
    × (same_story m (drop n hd) hc ≡ true) × Views m film (drop n hd) hc
Views m film hd (r ∷ hc) = Views m film hd hc

-- the two journals tell one story, in which the player is caller n of the demuxer: what it asked is
-- what was ordered, what the player learned is what the demuxer's cache was, in order, and the file
-- was loaded at most once, as it was opened
pub record OneStory (n : ℕ) (film : Film) (w : Opening) (hd : List DemuxRecord)
    (hc : List CoreRecord) : Type 0 where
  pub asked : same_story n hd hc ≡ true
  pub learned : Views n film hd hc
  pub loaded : Loads w hc
