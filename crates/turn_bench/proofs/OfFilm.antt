-- What a read answers is of the film, where the packet at the reader's head is.
use Rattle.std.proofs.Common.{◌≡◌, ℕ, Bool, true, false, List, Option, Some, None, sym, subst}
use Rattle.std.specs.Prelude.{if◌then◌else◌, nat_le, IfOk, Result, Ok, Err}
use Rattle.mc_packet.specs.declared.packet.Packet.{Packet}
use Rattle.mc_packet.specs.declared.walk.Ending.{Ending}
use Rattle.mc_packet.specs.Choices.{has}
use Rattle.mc_journal.specs.declared.record.DemuxRecord.{DemuxRecord}
use Rattle.mc_journal.specs.Films.{Film}
use Rattle.mc_journal.specs.Views.{next}
use Rattle.mc_calls.specs.declared.answer.Reading.{Reading}
use Rattle.mc_calls.specs.declared.answer.Reading.TheVariants.{Overfull, NotYet, Unselected}
use Rattle.mc_calls.specs.declared.waiting.Failure.{Failure}
use Rattle.mc_calls.specs.declared.waiting.Failure.TheVariants.{Failed, Starved}
use Rattle.mc_calls.specs.declared.answer.DemuxError.{DemuxError}
use Rattle.mc_calls.specs.Readings.{Reads, past_packets, reading_by, reading_of}
use Rattle.mc_calls.specs.State.{DemuxState, end_in, forward_of, next_in}
use Rattle.turn_bench.specs.Handed.{IsOfFilm}

module _ (film : Film) (h : List DemuxRecord) (track : ℕ) where
  full : (is : Bool) (forward max : ℕ) → IsOfFilm film h track (if is then Overfull forward max else NotYet)
  full true forward max = tt
  full false forward max = tt

  past : (ending : Option Ending) (failure : Option Failure) (forward max : ℕ) → IsOfFilm film h track (past_packets ending failure forward max)
  past (Some e) failure forward max = tt
  past None (Some (Failed before after)) forward max = tt
  past None (Some Starved) forward max = tt
  past None None forward max = full (nat_le max forward) forward max

  by_packet : (found : Option Packet) (ending : Option Ending) (failure : Option Failure) (forward max : ℕ)
      → found ≡ next film.packets h track → IsOfFilm film h track (reading_by found ending failure forward max)
  by_packet (Some p) ending failure forward max is = sym is
  by_packet None ending failure forward max is = past ending failure forward max

  read_of_film : (d : DemuxState) → next_in d.set d.heads track d.cache.current ≡ next film.packets h track
      → IsOfFilm film h track (reading_of track d)
  read_of_film d is = by (has d.set track)
    where
      by : (b : Bool) → IsOfFilm film h track (if b
          then reading_by (next_in d.set d.heads track d.cache.current) (end_in track d.cache.current) d.failure (forward_of d) d.cache.limits.forward
          else Unselected)
      by true = by_packet (next_in d.set d.heads track d.cache.current) (end_in track d.cache.current) d.failure (forward_of d) d.cache.limits.forward is
      by false = tt

  pub answered : (by : ℕ) (old new : DemuxState) (r : Result Reading DemuxError)
      → next_in old.set old.heads track old.cache.current ≡ next film.packets h track
      → Reads by track old r new → IfOk r (IsOfFilm film h track)
  answered by old new (Ok reading) is reads = subst (IsOfFilm film h track) (sym reads.1) (read_of_film old is)
  answered by old new (Err e) is reads = tt
