-- Entries under numbers that were handed out.
use Rattle.std.proofs.Common.{ℕ, ◌<◌, ◌≤◌, List, [], ◌∷◌, ◌++◌, arith}
use Rattle.mc_turn.specs.Callers.{Below, Bear, Within}

module _ {E : Type 0} (by : E → ℕ) where
  pub within_more : (a b : ℕ) (xs : List E) → a ≤ b → Within by a xs → Within by b xs
  within_more a b [] le w = tt
  within_more a b (x ∷ xs) le w = ((let lt : by x < a = w.0 in omega arith), within_more a b xs le w.1)

  pub within_append : (count : ℕ) (xs ys : List E) → Within by count xs → Within by count ys → Within by count (xs ++ ys)
  within_append count [] ys w v = v
  within_append count (x ∷ xs) ys w v = (w.0, within_append count xs ys w.1 v)

  pub bear_within : (count : ℕ) (ns : List ℕ) (xs : List E) → Below count ns → Bear by ns xs → Within by count xs
  bear_within count ns [] below b = tt
  bear_within count ns (x ∷ xs) below b = (below (by x) b.0, bear_within count ns xs below b.1)
