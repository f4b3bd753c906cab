-- An unsigned integer of octets fits 64 bits.
use Rattle.std.proofs.Common.{◌≡◌, ℕ, zero, suc, ◌^◌, ◌<◌, ◌≤◌, Bool, true, false, List, [], ◌∷◌, length, refl, arith}
use Rattle.std.specs.Prelude.{All, IfOk, Ok, Err, if◌then◌else◌, slice_index, nat_lt}
use Rattle.std.proofs.lemmas.Bool.{ltb-false}
use Rattle.std.specs.List.{AllByRecursion}
use Rattle.std.proofs.lemmas.List.Elements.{recursion_from_All}
use Rattle.std.proofs.Math.Nat.{pow-le-pow_right}
use Rattle.byteorder.specs.Endian.{big_from, big_number}
use Rattle.byteorder.specs.Numbers.{big_from-lt}
use Rattle.mc_ebml.specs.declared.read.EbmlError.{EbmlError}
use Rattle.mc_ebml.specs.declared.read.EbmlError.TheVariants.{BadUint}
use Rattle.mc_ebml.specs.Element.{uint_of}

each_octet : (body : List ℕ) → AllByRecursion (λ b. b < 256) body → (k : ℕ) → slice_index body k < 256
each_octet [] all k = omega arith
each_octet (b ∷ bs) all zero = all.0
each_octet (b ∷ bs) all (suc k) = each_octet bs all.1 k

power_fits : (n : ℕ) → n ≤ 8 → 256 ^ n ≤ 2 ^ 64
power_fits n h = pow-le-pow_right (omega arith) h

pub integer_fits : (body : List ℕ) → All (λ b. b < 256) body → IfOk (uint_of body) (λ n. n < 2 ^ 64)
unfolding uint_of
integer_fits body octets = by (nat_lt 8 (length body)) refl
  where
    by : (long : Bool) → nat_lt 8 (length body) ≡ long
        → IfOk {E = EbmlError} (if long then Err BadUint else Ok (big_number (length body) body)) (λ n. n < 2 ^ 64)
    by true e = tt
    by false e =
        let few : length body ≤ 8 = ltb-false 8 (length body) e in
        let below : big_from 0 (length body) body < 256 ^ length body = big_from-lt 0 (length body) body (each_octet body (recursion_from_All (λ b. b < 256) body octets)) in
        let power = power_fits (length body) few in
        omega (arith, below, power)
