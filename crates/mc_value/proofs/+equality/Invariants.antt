use Rattle.std.proofs.Common.{◌≡◌, ◌↔◌, drop}
use Rattle.mc_value.proofs.+equality.Given as goal

abbrev pub invariant-equality::are_equal-loop-value : goal.invariant-equality::are_equal-loop-value
invariant-equality::are_equal-loop-value l = (drop l.value-index l.values ≡ l.left) ↔ (l.values ≡ l.others)

abbrev pub invariant-equality::are_equal_pairs-loop-pair : goal.invariant-equality::are_equal_pairs-loop-pair
invariant-equality::are_equal_pairs-loop-pair l = (drop l.pair-index l.pairs ≡ l.left) ↔ (l.pairs ≡ l.others)
