-- Times that no i128 holds are out of range.
use Rattle.std.proofs.Common.{◌≡◌, ℕ, ◌<◌, ◌^◌, ◌*◌, false, ℤ, pos, arith}
use Rattle.std.proofs.lemmas.Nat.{mul-lt}
use Rattle.std.specs.Prelude.{◌+ℤ◌, FitsSigned}
use Rattle.std.specs.Int.{w128}
use Rattle.std.proofs.lemmas.Int.{ints}
use Rattle.mc_block.specs.Block.{in_range}

-- whatever a frame adds to its block's time
pub too_far : (z : ℤ) (o : ℕ) → (FitsSigned w128 z → ⊥) → o < 2 ^ 80 → in_range (z +ℤ pos o) ≡ false
too_far z o h small = grind (arith, ints)

pub small_offset : (lane duration : ℕ) → lane < 2 ^ 16 → duration < 2 ^ 64 → lane * duration < 2 ^ 80
small_offset lane duration hl hd = mul-lt lane duration (2 ^ 16) (2 ^ 64) hl hd
