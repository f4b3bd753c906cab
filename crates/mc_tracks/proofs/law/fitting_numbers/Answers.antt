use Rattle.mc_tracks.proofs.Fitting.{numbers_fit}
use Rattle.mc_tracks.proofs.law.fitting_numbers.Goals as goal

pub returns : goal.returns
returns c = numbers_fit c.fitting_integers.ensures
