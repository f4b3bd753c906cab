use Rattle.mc_tracks.proofs.Shape.{are_listed}
use Rattle.mc_tracks.proofs.law.listed_tracks.Goals as goal

pub returns : goal.returns
returns c = are_listed
