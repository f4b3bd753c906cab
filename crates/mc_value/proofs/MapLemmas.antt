-- The JSON of a map.
use Rattle.std.proofs.Common.{◌≡◌, ◌++◌, ◌∷◌, [], List, ℕ, map, ap, sym, ◌∙◌}
use Rattle.mc_value.specs.Values.{json_of, json_step, json_pair, with_commas}
use Rattle.mc_value.specs.declared.value.Value.{Value, fold-roll-Value}
use Rattle.mc_value.specs.declared.value.Value.TheViews.{Map}
use Rattle.mc_value.specs.declared.value.Value.TheVariants.{rolls-Map}
use Rattle.mc_value.specs.declared.value.Value.TheOpen.{Value-F}

pub json_of_map : (pairs : List (List ℕ × Value)) → json_of (Map pairs) ≡ 123 ∷ with_commas (map json_pair (map (λ p. (p.0, json_of p.1)) pairs)) ++ 125 ∷ []
json_of_map pairs = ap json_of (sym (rolls-Map pairs)) ∙ fold-roll-Value (List ℕ) json_step (Value-F.Map pairs)
