use Rattle.mc_walk.proofs.Headed.{plans_have_shape}
use Rattle.mc_walk.proofs.law.opened_films.Goals as goal

pub returns : goal.returns
returns c = plans_have_shape c.listed_tracks.ensures
