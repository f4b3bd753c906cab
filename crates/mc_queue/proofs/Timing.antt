-- The order of times on a way.
use Rattle.std.proofs.Common.{◌≡◌, true, false, ℤ, arith}
use Rattle.std.proofs.lemmas.Int.{ints}
use Rattle.mc_packet.specs.declared.choice.Dir.{Dir}
use Rattle.mc_packet.specs.declared.choice.Dir.TheVariants.{Back, Forward}
use Rattle.mc_queue.specs.Times.{comes_first}

pub first_refl : (dir : Dir) (a : ℤ) → comes_first dir a a ≡ true
first_refl Forward a = grind (arith, ints)
first_refl Back a = grind (arith, ints)

pub first_total : (dir : Dir) (a b : ℤ) → comes_first dir a b ≡ false → comes_first dir b a ≡ true
first_total Forward a b h = grind (arith, ints)
first_total Back a b h = grind (arith, ints)

pub first_trans : (dir : Dir) (a b c : ℤ) → comes_first dir a b ≡ true → comes_first dir b c ≡ true → comes_first dir a c ≡ true
first_trans Forward a b c h k = grind (arith, ints)
first_trans Back a b c h k = grind (arith, ints)

pub first_same : (dir : Dir) (a b : ℤ) → comes_first dir a b ≡ true → comes_first dir b a ≡ true → a ≡ b
first_same Forward a b h k = grind (arith, ints)
first_same Back a b h k = grind (arith, ints)
