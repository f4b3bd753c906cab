use Rattle.mc_jobs.proofs.Opened.{has-tracks, default-known, opened-plan}
use Rattle.mc_jobs.proofs.beginning.film_tracks.Goals as goal

pub returns : goal.returns
returns c = record { tracks = has-tracks; choice = default-known; opens = opened-plan }
