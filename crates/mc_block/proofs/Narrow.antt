-- A coded number that was read takes at least as many octets as its shortest form.
use Rattle.std.proofs.Common.{ℕ, zero, suc, ◌*◌, ◌%◌, ◌^◌, ◌<◌, ◌≤◌, Bool, true, false, cond, List, [], ◌∷◌, length, Ok, Err, arith, IfOk, ltb}
use Rattle.std.specs.Prelude.{◌==◌, drop}
use Rattle.std.proofs.Math.Pow.{pow_mono}
use Rattle.std.proofs.Math.Nat.{mod-lt, pow-suc}
use Rattle.std.proofs.lemmas.Bool.Decides.{nat_tests}
use Rattle.byteorder.specs.Endian.{big_number}
use Rattle.mc_ebml.specs.declared.read.Coded.{Coded}
use Rattle.mc_ebml.specs.declared.read.EbmlError.TheVariants.{Short, BadSize}
use Rattle.mc_ebml.specs.Element.{width, coded_from, coded_at}
use Rattle.mc_ebml.specs.Written.{coded_width}

fits_width : (w v : ℕ) → 1 ≤ w → w ≤ 8 → v < 2 ^ (7 * w) → coded_width v ≤ w
fits_width zero v low high fits = absurd (omega arith)
fits_width (suc zero) v low high fits = grind (arith, nat_tests)
fits_width (suc (suc zero)) v low high fits = grind (arith, nat_tests)
fits_width (suc (suc (suc zero))) v low high fits = grind (arith, nat_tests)
fits_width (suc (suc (suc (suc zero)))) v low high fits = grind (arith, nat_tests)
fits_width (suc (suc (suc (suc (suc zero))))) v low high fits = grind (arith, nat_tests)
fits_width (suc (suc (suc (suc (suc (suc zero)))))) v low high fits = grind (arith, nat_tests)
fits_width (suc (suc (suc (suc (suc (suc (suc zero))))))) v low high fits = grind (arith, nat_tests)
fits_width (suc (suc (suc (suc (suc (suc (suc (suc k)))))))) v low high fits = grind (arith, nat_tests)

abbrev pub IsNarrow : Coded → Type 0
IsNarrow n = (coded_width n.value ≤ n.width) × (n.value < 2 ^ 56)

pow_positive : (k : ℕ) → 0 < 2 ^ k
pow_positive zero = omega arith
pow_positive (suc k) = omega (arith, pow-suc 2 k, pow_positive k)

width_bounds : (b : ℕ) → (1 ≤ width b) × (width b ≤ 8)
width_bounds b = (grind (arith, nat_tests), grind (arith, nat_tests))

from_narrow : (octets : List ℕ) → IfOk (coded_from octets) IsNarrow
from_narrow [] = tt
from_narrow (b ∷ bs) = by_zero (b == 0)
  where
    w : ℕ
    w = width b

    n : Coded
    n = record { value = big_number w (b ∷ bs) % 2 ^ (7 * w); width = w }

    below : n.value < 2 ^ (7 * w)
    below = mod-lt (big_number w (b ∷ bs)) {m = 2 ^ (7 * w)} (pow_positive (7 * w))

    most : 2 ^ (7 * w) ≤ 2 ^ 56
    most = let bounds = width_bounds b in let few : 7 * w ≤ 56 = omega (arith, bounds.1) in pow_mono {j = 56} few

    narrow : IsNarrow n
    narrow = (fits_width w n.value (width_bounds b).0 (width_bounds b).1 below, omega (arith, below, most))

    by_length : (short : Bool) → IfOk (cond short (Err Short) (Ok n)) IsNarrow
    by_length true = tt
    by_length false = narrow

    by_zero : (none : Bool) → IfOk (cond none (Err BadSize) (cond (ltb (length (b ∷ bs)) w) (Err Short) (Ok n))) IsNarrow
    by_zero true = tt
    by_zero false = by_length (ltb (length (b ∷ bs)) w)

pub coded_narrow : (octets : List ℕ) (at : ℕ) → IfOk (coded_at octets at) IsNarrow
unfolding coded_at
coded_narrow octets at = from_narrow (drop at octets)
