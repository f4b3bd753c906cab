-- Which film a demuxer stands for.
use Rattle.std.specs.Prelude.{◌≡◌, ℕ, ◌≤◌, ◌<◌, ⊤, true, List, map, reverse, Option, Some, IfSome, IsSomeAnd, is_some}
use Rattle.std.specs.List.{AllByRecursion}
use Rattle.std.specs.Option.{option_map}
use Rattle.mc_packet.specs.declared.choice.Choice.{Choice}
use Rattle.mc_packet.specs.declared.choice.Kind.{Kind}
use Rattle.mc_packet.specs.declared.cache.Heads.{Heads}
use Rattle.mc_packet.specs.declared.cache.Limits.{Limits}
use Rattle.mc_journal.specs.declared.record.DemuxRecord.{DemuxRecord}
use Rattle.mc_journal.specs.declared.record.DemuxRecord.TheVariants.{Failed as FailedRecord, Starved as StarvedRecord}
use Rattle.mc_packet.specs.Choices.{has}
use Rattle.mc_journal.specs.Choices.{kept_of}
use Rattle.mc_journal.specs.Films.{Film, IsFilm, IsRegular, first_lane, rank, start_of, switch_start}
use Rattle.mc_journal.specs.Ranges.{within}
use Rattle.mc_journal.specs.Allowed.{EachStart}
use Rattle.mc_journal.specs.Readings.{selected, pending, waits, target, direction, last_fault, read_from}
use Rattle.mc_journal.specs.Stands.{stand}
use Rattle.mc_journal.specs.Views.{head, was_ended}
use Rattle.mc_journal.specs.Used.{IsUsed, is_still, place_of_starts}
use Rattle.mc_packet.specs.declared.choice.Starts.{Starts}
use Rattle.mc_packet.specs.declared.walk.Chunk.{Chunk}
use Rattle.mc_calls.specs.declared.job.Job.{Job}
use Rattle.mc_calls.specs.declared.job.Job.TheVariants.{SeekTo, Refresh}
use Rattle.mc_range.specs.Range.{RangeState, as_range, queue_of}
use Rattle.mc_range.specs.Serving.{HoldsFilm}
use Rattle.mc_calls.specs.declared.waiting.Target.{Target}
use Rattle.mc_calls.specs.declared.waiting.Switch.{Switch}
use Rattle.mc_calls.specs.declared.waiting.Failure.{Failure}
use Rattle.mc_calls.specs.declared.waiting.Failure.TheVariants.{Failed, Starved}
use Rattle.mc_journal.specs.Callers.{demuxer}
use Rattle.mc_calls.specs.State.{DemuxState, head_of}
use Rattle.mc_calls.specs.Tied.{IsTied}
use Rattle.mc_tracks.specs.Selection.{knows}

-- the record of a failure
abbrev pub failure_record : Failure → DemuxRecord
failure_record (Failed before after) = FailedRecord demuxer before after
failure_record Starved = StarvedRecord demuxer

-- each queue of the current range has a head, at the place from which the journal says that its track is read on
abbrev pub PlacesAre : Choice → Heads → (ℕ → ℕ) → RangeState → Type 0
PlacesAre set heads place r = (track : ℕ) → IfSome (queue_of track r.queues) (λ q. IsSomeAnd (head_of set heads track) (λ p. rank p ≡ place track))

-- the journal, newest record first, is used over this film, and ranges, heads and all else are what it says
pub record Fits (film : Film) (limits : Limits) (set : Choice) (current : Option RangeState) (others : List RangeState) (heads : Heads)
    (seeking : Option Target) (waiting : Choice) (switch : Switch) (failure : Option Failure) (ended : Choice) (h : List DemuxRecord) : Type 0 where
  pub film_is : IsFilm film.packets
  pub used : IsUsed film limits h
  pub set_is : selected h ≡ set
  pub current_is : (stand film.packets h).current ≡ option_map as_range current
  pub others_are : (stand film.packets h).others ≡ map as_range others
  pub held : IfSome current (HoldsFilm film.packets)
  pub all_held : AllByRecursion (HoldsFilm film.packets) others
  pub places : IfSome current (PlacesAre set heads (λ track. head film.packets track h))
  pub seeks : pending h ≡ is_some seeking
  pub target_is : IfSome seeking (λ s. (target h ≡ Some s.t) × (direction h ≡ s.dir))
  pub sought_at : IfSome seeking (λ s. (track : ℕ) → has set track ≡ true → read_from film.packets track h ≡ start_of film.packets set s.dir s.t track)
  pub waits_are : waiting ≡ kept_of set (λ track. waits track h)
  pub added_at : (track : ℕ) → has waiting track ≡ true → read_from film.packets track h ≡ switch_start film.packets switch.lead waiting switch.at track
  pub failure_is : last_fault h ≡ option_map failure_record failure
  pub ended_are : ended ≡ kept_of set (was_ended h)

-- at rest nothing is left to be told, what the next job rests on is what the journal says of it, and the film has the
-- demuxer's tracks
pub record StandsFor (film : Film) (d : DemuxState) : Type 0 where
  pub fits : Fits film d.cache.limits d.set d.cache.current d.cache.others d.heads d.seeking d.waiting d.switch d.failure d.ended (reverse d.journal)
  pub still : is_still film.packets (reverse d.journal) ≡ true
  pub tied : IsTied d.switch d.number d.fed d.cache (reverse d.journal)
  pub known : (kind : Kind) (track : ℕ) → film.known kind track ≡ knows d.list kind track

-- ---- what is handed in is of the film

-- starts that the rule over the whole film gives, where the film is regular, and the mark there
pub record AreFilmStarts (film : Film) (starts : Starts) (set : Choice) (start : ℕ → ℕ) : Type 0 where
  pub exact : IsRegular film.packets film.known → EachStart set starts (λ track found. IfSome found (λ block. block ≡ start track))
  pub marked : IsRegular film.packets film.known → starts.mark ≡ film.mark_at (place_of_starts starts)

-- of the tracks that the job looks for
abbrev pub AreStartsOf : Film → Starts → Job → Type 0
AreStartsOf film starts (SeekTo n set t dir) = AreFilmStarts film starts set (start_of film.packets set dir t)
AreStartsOf film starts (Refresh n added lead at) = AreFilmStarts film starts added (switch_start film.packets lead added at)
AreStartsOf film starts _ = ⊤

-- a part of the film: all its packets from one mark to the next, and its ending once none comes behind them
pub record IsPartOf (film : Film) (chunk : Chunk) : Type 0 where
  pub part : film.part chunk.from ≡ record { to = chunk.to; ending = chunk.ending }
  pub onward : chunk.from.pos ≤ chunk.to.pos
  pub packets : chunk.packets ≡ within (first_lane chunk.from.pos) (first_lane chunk.to.pos) film.packets
  pub ends : IfSome chunk.ending (λ e. (e ≡ film.ending) × AllByRecursion (λ p. p.pos.block < chunk.to.pos) film.packets)
