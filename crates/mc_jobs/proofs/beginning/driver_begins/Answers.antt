use Rattle.mc_tracks.specs.TrackList.{default_choice_of}
use Rattle.mc_jobs.proofs.Opened.{begins-together}
use Rattle.mc_jobs.proofs.beginning.driver_begins.Goals as goal

pub returns : goal.returns
returns c = λ octets limits cursor x d stands mark index opened film.
    begins-together octets cursor.tracks (default_choice_of cursor.tracks) limits cursor x d stands index opened film
