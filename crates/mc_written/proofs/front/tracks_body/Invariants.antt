use Rattle.std.proofs.Common.{◌≡◌, take, All}
use Rattle.mc_tracks.specs.TrackList.{HasNumbers}
use Rattle.mc_written.specs.Fronts.{tracks_body}
use Rattle.mc_written.proofs.front.tracks_body.Given as goal

abbrev pub invariant-loop-track : goal.invariant-loop-track
invariant-loop-track l = record {
  text : l.body.items ≡ tracks_body (take l.track-index l.tracks);
  numbers : All HasNumbers (take l.track-index l.tracks);
}
