-- A whole film: the walk over all of its octets.
use Rattle.std.specs.Prelude.{◌≡◌, ◌<◌, ℕ, List, Result, Ok, Err, ⊤}
use Rattle.mc_tracks.specs.declared.refused.Refused.{Refused}
use Rattle.mc_tracks.specs.declared.refused.TracksError.{TracksError}
use Rattle.mc_tracks.specs.declared.refused.TracksError.TheVariants as causes
use Rattle.mc_tracks.specs.Answer.{◌>>=◌}
use Rattle.mc_tracks.specs.TrackList.{IsTrackList}
use Rattle.mc_walk.specs.declared.plan.Plan.{Plan}
use Rattle.mc_walk.specs.Walk.{film_walk, steps}
use Rattle.mc_walk.specs.Opening.{opened_film}
use Rattle.mc_walk.specs.Parts.{joined, opening_mark}
use Rattle.mc_walk.specs.Frames.{AreItsFrames}
use Rattle.mc_walk.specs.Again.{AreAgain}
use Rattle.mc_film.specs.declared.whole.FilmError.{FilmError}
use Rattle.mc_film.specs.declared.whole.FilmError.TheVariants as failures
use Rattle.mc_film.specs.declared.whole.WholeFilm.{WholeFilm}

abbrev pub whole : Plan → WholeFilm
whole plan = record { scale = plan.scale; tracks = plan.tracks; packets = (film_walk plan).0; ending = (film_walk plan).1 }

-- the film that octets are, or why they are refused
unfoldable pub film_of : List ℕ → Result WholeFilm Refused
film_of octets = opened_film octets >>= λ plan. Ok (whole plan)

abbrev pub film_error : TracksError → FilmError
film_error (causes.Refused r) = failures.Refused r
film_error causes.NoMemory = failures.NoMemory

abbrev pub Fails : {Y : Type 0} → FilmError → Result Y Refused → Type 0
Fails failures.NoMemory value = ⊤
Fails (failures.Refused r) value = value ≡ Err r

-- the answer is the value, unless memory ran out
abbrev pub Gives : {Y : Type 0} → Result Y FilmError → Result Y Refused → Type 0
Gives (Ok x) value = value ≡ Ok x
Gives (Err e) value = Fails e value

-- ---- what a film is, beside the walk

-- its packets are the frames of the block elements that stand in the walk over its octets: each of them once, in order
abbrev pub FilmIsItsFrames : List ℕ → WholeFilm → Type 0
FilmIsItsFrames octets f = (plan : Plan) × (opened_film octets ≡ Ok plan) × AreItsFrames plan f.packets

-- read part by part, from mark to mark, it has the same packets and ends in the same way
abbrev pub FilmIsItsParts : List ℕ → WholeFilm → Type 0
FilmIsItsParts octets f = (plan : Plan) × (opened_film octets ≡ Ok plan) × (joined (steps plan) plan opening_mark ≡ (f.packets, f.ending))

-- each of its packets can be written again as a block of its own
abbrev pub FilmsAreAgain : Type 0
FilmsAreAgain = (octets : List ℕ) (f : WholeFilm) → film_of octets ≡ Ok f → AreAgain f.tracks f.packets

-- its scale is not 0, and its tracks are such a list
abbrev pub FilmsHaveShape : Type 0
FilmsHaveShape = (octets : List ℕ) (f : WholeFilm) → film_of octets ≡ Ok f → (0 < f.scale) × IsTrackList f.tracks
