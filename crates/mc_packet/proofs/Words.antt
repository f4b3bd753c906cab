-- Eight octets of a word, side by side.
use Rattle.std.proofs.Common.{◌≡◌, ℕ, ◌+◌, ◌*◌, ◌/◌, ◌%◌, ◌^◌, ◌<◌, List, [], ◌∷◌, length, ap, ◌∙◌, arith}
use Rattle.std.proofs.Math.ListN.{get_or}
use Rattle.std.specs.Int.{from_le_bytes, w64}
use Rattle.mc_packet.specs.Payload.{polynomial}
use Rattle.std.proofs.Math.Nat.{add-mul-mod_self_right, mod-eq_of_lt}
use Rattle.std.proofs.lemmas.Nat.{and_block, and_mask}
use Rattle.std.specs.Int.Bits.{bit_and}

both : (k : ℕ) {x x' y y' : ℕ} → x ≡ x' → y ≡ y' → x * k + y ≡ x' * k + y'
both k {x} {x'} {y} {y'} e e' = ap (λ (n : ℕ). n * k + y) e ∙ ap (λ (n : ℕ). x' * k + n) e'

-- of two parts side by side, a mask leaves the lower one
lower : (x y : ℕ) → x < 256 → bit_and (x + y * 256) 255 ≡ x
lower x y small = and_mask (x + y * 256) 8 ∙ add-mul-mod_self_right x y 256 ∙ mod-eq_of_lt small

lower_pair : (x y : ℕ) → x < 65536 → bit_and (x + y * 65536) 65535 ≡ x
lower_pair x y small = and_mask (x + y * 65536) 16 ∙ add-mul-mod_self_right x y 65536 ∙ mod-eq_of_lt small

-- every second octet of four, and of eight
pub of_four : (a b c d : ℕ) → a < 256 → b < 256 → c < 256 → bit_and ((c + d * 256) * 2 ^ 16 + (a + b * 256)) (255 * 2 ^ 16 + 255) ≡ c * 2 ^ 16 + a
of_four a b c d la lb lc =
    let fits : a + b * 256 < 2 ^ 16 = omega (arith, la, lb) in
    and_block 16 (c + d * 256) 255 (a + b * 256) 255 fits (omega arith) ∙ both (2 ^ 16) (lower c d lc) (lower a b la)

pub of_eight : (a b c d e f g h : ℕ) → a < 256 → b < 256 → c < 256 → d < 256 → e < 256 → f < 256 → g < 256
    → bit_and (((g + h * 256) * 2 ^ 16 + (e + f * 256)) * 2 ^ 32 + ((c + d * 256) * 2 ^ 16 + (a + b * 256))) ((255 * 2 ^ 16 + 255) * 2 ^ 32 + (255 * 2 ^ 16 + 255))
    ≡ (g * 2 ^ 16 + e) * 2 ^ 32 + (c * 2 ^ 16 + a)
of_eight a b c d e f g h la lb lc ld le lf lg =
    let fits : (c + d * 256) * 2 ^ 16 + (a + b * 256) < 2 ^ 32 = omega (arith, la, lb, lc, ld) in
    and_block 32 ((g + h * 256) * 2 ^ 16 + (e + f * 256)) (255 * 2 ^ 16 + 255) ((c + d * 256) * 2 ^ 16 + (a + b * 256)) (255 * 2 ^ 16 + 255) fits (omega arith)
    ∙ both (2 ^ 32) (of_four e f g h le lf lg) (of_four a b c d la lb lc)

-- every second pair of four
pub of_pairs : (w x y z : ℕ) → w < 65536 → x < 65536 → y < 65536 → bit_and ((y + z * 65536) * 2 ^ 32 + (w + x * 65536)) (65535 * 2 ^ 32 + 65535) ≡ y * 2 ^ 32 + w
of_pairs w x y z lw lx ly =
    let fits : w + x * 65536 < 2 ^ 32 = omega (arith, lw, lx) in
    and_block 32 (y + z * 65536) 65535 (w + x * 65536) 65535 fits (omega arith) ∙ both (2 ^ 32) (lower_pair y z ly) (lower_pair w x lw)

-- 31 times the first octet of each pair, and the other one
pub pairs_of : (a b c d e f g h : ℕ) → a < 256 → b < 256 → c < 256 → d < 256 → e < 256 → f < 256 → g < 256 → h < 256
    → (w : ℕ) → w ≡ a + b * 256 + c * 65536 + d * 16777216 + e * 4294967296 + f * 1099511627776 + g * 281474976710656 + h * 72057594037927936
    → bit_and w 71777214294589695 * 31 + bit_and (w / 256) 71777214294589695
    ≡ (a * 31 + b) + (c * 31 + d) * 65536 + (e * 31 + f) * 4294967296 + (g * 31 + h) * 281474976710656
pairs_of a b c d e f g h la lb lc ld le lf lg lh w is =
    let nested : w ≡ ((g + h * 256) * 2 ^ 16 + (e + f * 256)) * 2 ^ 32 + ((c + d * 256) * 2 ^ 16 + (a + b * 256)) = omega (arith, is) in
    let above : w / 256 ≡ ((h + 0 * 256) * 2 ^ 16 + (f + g * 256)) * 2 ^ 32 + ((d + e * 256) * 2 ^ 16 + (b + c * 256)) = omega (arith, is, la) in
    let first : bit_and w 71777214294589695 ≡ (g * 2 ^ 16 + e) * 2 ^ 32 + (c * 2 ^ 16 + a) = ap (λ (n : ℕ). bit_and n 71777214294589695) nested ∙ of_eight a b c d e f g h la lb lc ld le lf lg in
    let second : bit_and (w / 256) 71777214294589695 ≡ (h * 2 ^ 16 + f) * 2 ^ 32 + (d * 2 ^ 16 + b) = ap (λ (n : ℕ). bit_and n 71777214294589695) above ∙ of_eight b c d e f g h 0 lb lc ld le lf lg lh in
    omega (arith, first, second)

-- 961 times the first pair of each two, and the other one
pub fours_of : (w x y z : ℕ) → w < 65536 → x < 65536 → y < 65536 → z < 65536
    → (p : ℕ) → p ≡ w + x * 65536 + y * 4294967296 + z * 281474976710656
    → bit_and p 281470681808895 * 961 + bit_and (p / 65536) 281470681808895 ≡ (w * 961 + x) + (y * 961 + z) * 4294967296
fours_of w x y z lw lx ly lz p is =
    let nested : p ≡ (y + z * 65536) * 2 ^ 32 + (w + x * 65536) = omega (arith, is) in
    let above : p / 65536 ≡ (z + 0 * 65536) * 2 ^ 32 + (x + y * 65536) = omega (arith, is, lw) in
    let first : bit_and p 281470681808895 ≡ y * 2 ^ 32 + w = ap (λ (n : ℕ). bit_and n 281470681808895) nested ∙ of_pairs w x y z lw lx ly in
    let second : bit_and (p / 65536) 281470681808895 ≡ z * 2 ^ 32 + x = ap (λ (n : ℕ). bit_and n 281470681808895) above ∙ of_pairs x y z 0 lx ly lz in
    omega (arith, first, second)

-- both halves together
pub halves_of : (m n f : ℕ) → m < 4294967296 → f ≡ m + n * 4294967296 → f % 4294967296 * 923521 + f / 4294967296 ≡ m * 923521 + n
halves_of m n f small is =
    let low : f % 4294967296 ≡ m = omega (arith, is, small) in
    let high : f / 4294967296 ≡ n = omega (arith, is, small) in
    omega (arith, low, high)

-- what a word of eight octets is taken to
abbrev pub fold_pairs : ℕ → ℕ
fold_pairs w = bit_and w 71777214294589695 * 31 + bit_and (w / 256) 71777214294589695

abbrev pub fold_fours : ℕ → ℕ
fold_fours p = bit_and p 281470681808895 * 961 + bit_and (p / 65536) 281470681808895

abbrev pub fold_halves : ℕ → ℕ
fold_halves f = f % 4294967296 * 923521 + f / 4294967296

pub of_octets : (a b c d e f g h : ℕ) → a < 256 → b < 256 → c < 256 → d < 256 → e < 256 → f < 256 → g < 256 → h < 256
    → (w : ℕ) → w ≡ a + b * 256 + c * 65536 + d * 16777216 + e * 4294967296 + f * 1099511627776 + g * 281474976710656 + h * 72057594037927936
    → fold_halves (fold_fours (fold_pairs w)) ≡ polynomial 0 (a ∷ b ∷ c ∷ d ∷ e ∷ f ∷ g ∷ h ∷ [])
of_octets a b c d e f g h la lb lc ld le lf lg lh w is =
    let pairs : fold_pairs w ≡ (a * 31 + b) + (c * 31 + d) * 65536 + (e * 31 + f) * 4294967296 + (g * 31 + h) * 281474976710656 = pairs_of a b c d e f g h la lb lc ld le lf lg lh w is in
    let fours : fold_fours (fold_pairs w) ≡ ((a * 31 + b) * 961 + (c * 31 + d)) + ((e * 31 + f) * 961 + (g * 31 + h)) * 4294967296
    = fours_of (a * 31 + b) (c * 31 + d) (e * 31 + f) (g * 31 + h) (omega (arith, la, lb)) (omega (arith, lc, ld)) (omega (arith, le, lf)) (omega (arith, lg, lh)) (fold_pairs w) pairs in
    let whole = halves_of ((a * 31 + b) * 961 + (c * 31 + d)) ((e * 31 + f) * 961 + (g * 31 + h)) (fold_fours (fold_pairs w)) (omega (arith, la, lb, lc, ld)) fours in
    whole ∙ (omega arith)

pub of_word : (bs : List ℕ) (w : ℕ) → length bs ≡ 8 → ((i : ℕ) → get_or bs i 0 < 256) → w ≡ from_le_bytes w64 bs
    → fold_halves (fold_fours (fold_pairs w)) % 2 ^ 32 ≡ polynomial 0 bs % 2 ^ 32
of_word [] w long small is = absurd (omega (arith, long))
of_word (a ∷ []) w long small is = absurd (omega (arith, long))
of_word (a ∷ b ∷ []) w long small is = absurd (omega (arith, long))
of_word (a ∷ b ∷ c ∷ []) w long small is = absurd (omega (arith, long))
of_word (a ∷ b ∷ c ∷ d ∷ []) w long small is = absurd (omega (arith, long))
of_word (a ∷ b ∷ c ∷ d ∷ e ∷ []) w long small is = absurd (omega (arith, long))
of_word (a ∷ b ∷ c ∷ d ∷ e ∷ f ∷ []) w long small is = absurd (omega (arith, long))
of_word (a ∷ b ∷ c ∷ d ∷ e ∷ f ∷ g ∷ []) w long small is = absurd (omega (arith, long))
of_word (a ∷ b ∷ c ∷ d ∷ e ∷ f ∷ g ∷ h ∷ []) w long small is =
    ap (λ (n : ℕ). n % 2 ^ 32) (of_octets a b c d e f g h (small 0) (small 1) (small 2) (small 3) (small 4) (small 5) (small 6) (small 7) w (is ∙ (omega arith)))
of_word (a ∷ b ∷ c ∷ d ∷ e ∷ f ∷ g ∷ h ∷ i ∷ more) w long small is = absurd (omega (arith, long))
