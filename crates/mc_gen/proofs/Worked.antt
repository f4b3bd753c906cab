-- The worked films are what the definitions say.
use Rattle.std.proofs.Common.{◌≡◌, refl}
use Rattle.mc_gen.specs.Generated.{generated_packets}
use Rattle.mc_gen.specs.Summary.{sums_of}
use Rattle.mc_gen.specs.Worked.{none_summed, one_summed, twelve_summed}

none : sums_of (generated_packets 0) ≡ none_summed
none = refl

one : sums_of (generated_packets 1) ≡ one_summed
one = refl

twelve : sums_of (generated_packets 12) ≡ twelve_summed
twelve = refl
