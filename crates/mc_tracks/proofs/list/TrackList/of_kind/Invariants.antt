use Rattle.std.proofs.Common.{◌≡◌, drop}
use Rattle.mc_tracks.specs.TrackList.{track_of_kind}
use Rattle.mc_tracks.proofs.list.TrackList.of_kind.Given as goal

abbrev pub invariant-loop-track : goal.invariant-loop-track
invariant-loop-track l = track_of_kind l.kind l.left (drop l.track-index l.self) ≡ track_of_kind l.kind l.id l.self
