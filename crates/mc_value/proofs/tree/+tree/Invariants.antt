use Rattle.std.proofs.Common.{◌≡◌, ◌++◌, ◌∷◌, flat_map, map, string_bytes, take}
use Rattle.mc_value.specs.Values.{json_of, json_pair}
use Rattle.mc_value.proofs.tree.+tree.Given as goal

abbrev pub invariant-push_pairs-loop-pair : goal.invariant-push_pairs-loop-pair
invariant-push_pairs-loop-pair l = string_bytes l.out ≡ string_bytes l.initial.out ++ flat_map (λ y. 44 ∷ y) (map json_pair (map (λ p. (p.0, json_of p.1)) (take l.pair-index l.rest)))

abbrev pub invariant-push_values-loop-value : goal.invariant-push_values-loop-value
invariant-push_values-loop-value l = string_bytes l.out ≡ string_bytes l.initial.out ++ flat_map (λ y. 44 ∷ y) (map json_of (take l.value-index l.rest))
