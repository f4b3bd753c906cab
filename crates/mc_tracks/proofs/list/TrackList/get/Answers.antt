use Rattle.std.proofs.Common.{ap, ◌∙◌, List}
use Rattle.mc_tracks.specs.declared.track.Track.{Track}
use Rattle.mc_tracks.specs.TrackList.{numbered}
use Rattle.mc_tracks.proofs.Numbers.{finds}
use Rattle.mc_tracks.proofs.list.TrackList.get.Goals as goal

pub returns : goal.returns
returns c = c.get.ensures.value ∙ finds c.self.inside.by_number.entries c.args.no c.self.invariant.0 ∙ ap (λ (ts : List Track). numbered c.args.no ts) c.self.view_is
