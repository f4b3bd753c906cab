-- Coded numbers, read back behind their marker bit.
use Rattle.std.proofs.Common.{◌≡◌, ℕ, zero, suc, ◌+◌, ◌*◌, ◌^◌, ◌<◌, ◌≤◌, refl, arith}
use Rattle.std.specs.Int.{byte_at}
use Rattle.std.proofs.lemmas.Bool.Decides.{nat_tests}
use Rattle.std.proofs.lemmas.Nat.{pow-add}
use Rattle.std.proofs.Math.Nat.{pow-suc}
use Rattle.std.proofs.Math.Pow.{pow_mono}
use Rattle.mc_ebml.specs.Element.{width}

pow256 : (n : ℕ) → 256 ^ n ≡ 2 ^ (8 * n)
pow256 zero = refl
pow256 (suc n) = let e : 8 * suc n ≡ 8 * n + 8 = omega arith in rw (pow-suc 256 n, pow256 n, e, pow-add 2 (8 * n) 8) refl

-- a number and its marker bit fit
pub marked_fits : (w n : ℕ) → 1 ≤ w → n < 2 ^ (7 * w) → 2 ^ (7 * w) + n < 256 ^ w
marked_fits (suc w) n h fits =
    let grown : 2 ^ (7 * suc w + 1) ≤ 2 ^ (8 * suc w) = pow_mono (omega arith) in
    omega (arith, pow256 (suc w), pow-add 2 (7 * suc w) 1, grown)
marked_fits zero n h fits = absurd (omega arith)

-- the first octet tells how many there are
pub first_octet : (k n : ℕ) → k < 8 → n < 2 ^ (7 * suc k) → width (byte_at k (2 ^ (7 * suc k) + n)) ≡ suc k
first_octet zero n h fits = grind (arith, nat_tests)
first_octet (suc zero) n h fits = grind (arith, nat_tests)
first_octet (suc (suc zero)) n h fits = grind (arith, nat_tests)
first_octet (suc (suc (suc zero))) n h fits = grind (arith, nat_tests)
first_octet (suc (suc (suc (suc zero)))) n h fits = grind (arith, nat_tests)
first_octet (suc (suc (suc (suc (suc zero))))) n h fits = grind (arith, nat_tests)
first_octet (suc (suc (suc (suc (suc (suc zero)))))) n h fits = grind (arith, nat_tests)
first_octet (suc (suc (suc (suc (suc (suc (suc zero))))))) n h fits = grind (arith, nat_tests)
first_octet (suc (suc (suc (suc (suc (suc (suc (suc k)))))))) n h fits = absurd (omega arith)

-- and is no zero
pub first_octet_above : (k n : ℕ) → k < 8 → n < 2 ^ (7 * suc k) → 0 < byte_at k (2 ^ (7 * suc k) + n)
first_octet_above zero n h fits = omega arith
first_octet_above (suc zero) n h fits = omega arith
first_octet_above (suc (suc zero)) n h fits = omega arith
first_octet_above (suc (suc (suc zero))) n h fits = omega arith
first_octet_above (suc (suc (suc (suc zero)))) n h fits = omega arith
first_octet_above (suc (suc (suc (suc (suc zero))))) n h fits = omega arith
first_octet_above (suc (suc (suc (suc (suc (suc zero)))))) n h fits = omega arith
first_octet_above (suc (suc (suc (suc (suc (suc (suc zero))))))) n h fits = omega arith
first_octet_above (suc (suc (suc (suc (suc (suc (suc (suc k)))))))) n h fits = absurd (omega arith)
