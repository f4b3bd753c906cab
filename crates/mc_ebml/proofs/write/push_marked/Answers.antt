use Rattle.std.proofs.Common.{arith}
use Rattle.mc_ebml.proofs.Marks.{marked_fits}
use Rattle.mc_ebml.proofs.write.push_marked.Goals as goal

pub push_number-requires-clause-fits : goal.push_number-requires-clause-fits
push_number-requires-clause-fits c = omega (arith, c.all_ones.ensures.value, marked_fits c.args.width c.args.n (omega arith) c.requires.fits)
