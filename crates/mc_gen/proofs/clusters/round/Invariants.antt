use Rattle.std.proofs.Common.{◌≡◌, map}
use Rattle.std.specs.List.{range_with_len}
use Rattle.mc_gen.specs.Rounds.{octets_of_each, whole_text}
use Rattle.mc_gen.proofs.clusters.round.Given as goal

abbrev pub invariant-loop-k : goal.invariant-loop-k
invariant-loop-k l = octets_of_each l.round.items ≡ map whole_text (range_with_len 0 l.k)
