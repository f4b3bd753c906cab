-- What a reader is handed, told by the film and the journal alone.
use Rattle.std.specs.Prelude.{◌≡◌, ℕ, List, Some, ⊤}
use Rattle.mc_journal.specs.declared.record.DemuxRecord.{DemuxRecord}
use Rattle.mc_journal.specs.Films.{Film}
use Rattle.mc_journal.specs.Views.{next}
use Rattle.mc_calls.specs.declared.answer.Reading.{Reading}
use Rattle.mc_calls.specs.declared.answer.Reading.TheVariants.{Gave}

-- a packet that is given is the film's, payload and all: the one that the journal, newest record first, leaves next of the track
abbrev pub IsOfFilm : Film → List DemuxRecord → ℕ → Reading → Type 0
IsOfFilm film h track (Gave p) = next film.packets h track ≡ Some p
IsOfFilm film h track _ = ⊤
