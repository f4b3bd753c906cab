-- For which film a driver stands.
use Rattle.std.specs.Prelude.{◌≡◌, ℕ, true, List}
use Rattle.std.specs.List.{AllByRecursion}
use Rattle.mc_walk.specs.Parts.{IsMark}
use Rattle.mc_packet.specs.Choices.{passes}
use Rattle.mc_journal.specs.Films.{is_listed}
use Rattle.mc_cursor.specs.declared.cursor.Cursor.{Cursor}
use Rattle.mc_cursor.specs.Standing.{StandsFor as CursorStandsFor, plan_for}
use Rattle.mc_index.specs.declared.index.Index.{Index}
use Rattle.mc_tracks.specs.Selection.{knows}
use Rattle.mc_index.specs.Scans.{IsIndexOf}
use Rattle.mc_range.specs.Range.{RangeState}
use Rattle.mc_cache.specs.Cache.{ranges_of}
use Rattle.mc_calls.specs.State.{DemuxState}
use Rattle.mc_calls.specs.Film.{StandsFor}
use Rattle.mc_jobs.specs.declared.driver.Driver.{Driver}
use Rattle.mc_filmed.specs.Films.{film_for}

-- the demuxer, the cursor and the index stand for the film of these octets; each range is read on from a mark of the film;
-- and what led at the last selection is a track that the film lists as video or audio
pub record StandTogether (octets : List ℕ) (demux : DemuxState) (cursor : Cursor) (index : Index) : Type 0 where
  pub demux_is : StandsFor (film_for (plan_for octets cursor)) demux
  pub cursor_is : CursorStandsFor octets cursor
  pub index_is : IsIndexOf (plan_for octets cursor) index
  pub marks : AllByRecursion (λ (r : RangeState). IsMark (plan_for octets cursor) r.mark) (ranges_of demux.cache)
  pub lead : passes demux.switch.lead (is_listed (knows cursor.tracks)) ≡ true

abbrev pub Drives : List ℕ → Driver → Type 0
Drives octets d = StandTogether octets d.demux d.cursor d.index
