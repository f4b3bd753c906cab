use Rattle.std.proofs.Common.{◌≡◌, map, take}
use Rattle.mc_props.specs.Tracks.{track_map}
use Rattle.mc_props.proofs.track_values.track_list.Given as goal

abbrev pub invariant-loop-track : goal.invariant-loop-track
invariant-loop-track l = l.maps ≡ map (track_map l.tracks l.set) (take l.track-index l.tracks)
