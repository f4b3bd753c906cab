use Rattle.mc_ebml.proofs.Fitting.{integer_fits}
use Rattle.mc_ebml.proofs.law.fitting_integers.Goals as goal

pub returns : goal.returns
returns c = integer_fits
