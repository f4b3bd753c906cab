-- A checksum several octets at a time.
use Rattle.std.proofs.Common.{◌≡◌, ℕ, ◌+◌, ◌*◌, ◌/◌, ◌%◌, ◌^◌, ◌<◌, List, [], ◌∷◌, length, sym, ap, ◌∙◌, arith}
use Rattle.std.proofs.Math.Nat.{mod-add-div', add-mul-mod_self_right, mod-eq_of_lt}
use Rattle.mc_packet.specs.Payload.{checksum_from, polynomial}

-- a step needs no more of the sum before it than its remainder
mod_step : (x b : ℕ) → (x % 2 ^ 32 * 31 + b) % 2 ^ 32 ≡ (x * 31 + b) % 2 ^ 32
mod_step x b =
    let whole : x % 2 ^ 32 + x / 2 ^ 32 * 2 ^ 32 ≡ x = mod-add-div' x (2 ^ 32) in
    let split : x * 31 + b ≡ (x % 2 ^ 32 * 31 + b) + x / 2 ^ 32 * 31 * 2 ^ 32 = omega (arith, whole) in
    sym (ap (λ (n : ℕ). n % 2 ^ 32) split ∙ add-mul-mod_self_right (x % 2 ^ 32 * 31 + b) (x / 2 ^ 32 * 31) (2 ^ 32))

-- so the remainder may be taken at the end, of one octet and more
pub from_polynomial : (s b : ℕ) (bs : List ℕ) → checksum_from (s % 2 ^ 32) (b ∷ bs) ≡ polynomial s (b ∷ bs) % 2 ^ 32
from_polynomial s b [] = mod_step s b
from_polynomial s b (c ∷ bs) = ap (λ (n : ℕ). checksum_from n (c ∷ bs)) (mod_step s b) ∙ from_polynomial (s * 31 + b) c bs

-- eight octets behind some others, whose polynomial 31^8 multiplies
behind_eight : (s : ℕ) (bs : List ℕ) → length bs ≡ 8 → checksum_from (s % 2 ^ 32) bs ≡ (s * 852891037441 + polynomial 0 bs) % 2 ^ 32
behind_eight s [] long = absurd (omega (arith, long))
behind_eight s (a ∷ []) long = absurd (omega (arith, long))
behind_eight s (a ∷ b ∷ []) long = absurd (omega (arith, long))
behind_eight s (a ∷ b ∷ c ∷ []) long = absurd (omega (arith, long))
behind_eight s (a ∷ b ∷ c ∷ d ∷ []) long = absurd (omega (arith, long))
behind_eight s (a ∷ b ∷ c ∷ d ∷ e ∷ []) long = absurd (omega (arith, long))
behind_eight s (a ∷ b ∷ c ∷ d ∷ e ∷ f ∷ []) long = absurd (omega (arith, long))
behind_eight s (a ∷ b ∷ c ∷ d ∷ e ∷ f ∷ g ∷ []) long = absurd (omega (arith, long))
behind_eight s (a ∷ b ∷ c ∷ d ∷ e ∷ f ∷ g ∷ h ∷ []) long =
    from_polynomial s a (b ∷ c ∷ d ∷ e ∷ f ∷ g ∷ h ∷ []) ∙ ap (λ (n : ℕ). n % 2 ^ 32) (omega arith)
behind_eight s (a ∷ b ∷ c ∷ d ∷ e ∷ f ∷ g ∷ h ∷ i ∷ more) long = absurd (omega (arith, long))

-- remainders of two products and of a sum, and that of all
remainders : (x y q : ℕ) → ((x % 2 ^ 32 + y % 2 ^ 32) % 2 ^ 32 + q % 2 ^ 32) % 2 ^ 32 ≡ (x + y + q) % 2 ^ 32
remainders x y q = omega arith

pub sixteen_steps : (s : ℕ) (front back : List ℕ) (f b : ℕ) → s < 2 ^ 32 → length front ≡ 8 → length back ≡ 8
    → f ≡ polynomial 0 front % 2 ^ 32 → b ≡ polynomial 0 back % 2 ^ 32
    → ((s * 1353309697 % 2 ^ 32 + f * 2487512833 % 2 ^ 32) % 2 ^ 32 + b) % 2 ^ 32 ≡ checksum_from (checksum_from s front) back
sixteen_steps s front back f b small long long' is is' =
    let p = polynomial 0 front in
    let q = polynomial 0 back in
    let itself : s % 2 ^ 32 ≡ s = mod-eq_of_lt small in
    let first : checksum_from s front ≡ (s * 852891037441 + p) % 2 ^ 32 = rw itself at (behind_eight s front long) in
    let both : checksum_from (checksum_from s front) back ≡ ((s * 852891037441 + p) * 852891037441 + q) % 2 ^ 32
    = ap (λ (n : ℕ). checksum_from n back) first ∙ behind_eight (s * 852891037441 + p) back long' in
    let few : ((s * 1353309697 % 2 ^ 32 + f * 2487512833 % 2 ^ 32) % 2 ^ 32 + b) % 2 ^ 32 ≡ (s * 1353309697 + f * 2487512833 + q) % 2 ^ 32
    = rw is' (remainders (s * 1353309697) (f * 2487512833) q) in
    let whole : p % 2 ^ 32 + p / 2 ^ 32 * 2 ^ 32 ≡ p = mod-add-div' p (2 ^ 32) in
    let split : (s * 852891037441 + p) * 852891037441 + q ≡ (s * 1353309697 + f * 2487512833 + q) + (s * 169366393645104 + p * 198 + p / 2 ^ 32 * 2487512833) * 2 ^ 32
    = omega (arith, is, whole) in
    few ∙ sym (both ∙ ap (λ (n : ℕ). n % 2 ^ 32) split ∙ add-mul-mod_self_right (s * 1353309697 + f * 2487512833 + q) (s * 169366393645104 + p * 198 + p / 2 ^ 32 * 2487512833) (2 ^ 32))
