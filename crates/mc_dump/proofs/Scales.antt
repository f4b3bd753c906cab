-- The scale of a film that is written divides every time, and no time that is not refused is too low for a block.
use Rattle.std.proofs.Common.{◌≡◌, ℕ, suc, ◌*◌, ◌/◌, ◌<◌, ◌≤◌, Bool, true, false, ◌&&◌, cond, List, [], ◌∷◌, Option, Some, None, refl, ap, arith}
use Rattle.std.proofs.Math.Nat.{div-le_of_le-mul}
use Rattle.std.proofs.lemmas.Int.{ints, rem_below}
use Rattle.std.specs.Prelude.{pos, negsuc, neg_ℤ, int_le, int_lt, find, option_map, ℤ}
use Rattle.std.specs.Int.RustNames.{int_div, int_rem, unsigned_abs}
use Rattle.std.specs.List.{AllByRecursion, list_all}
use Rattle.std.specs.Ordering.{int_eq}
use Rattle.mc_packet.specs.declared.packet.Packet.{Packet}
use Rattle.mc_packet.specs.declared.packet.Pos.{Pos}
use Rattle.mc_dump.specs.Clustered.{is_multiple, scale_for, units, is_low, first_low}

-- ---- the scale

abbrev pub Divides : ℕ → Packet → Type 0
Divides g p = int_rem p.time (pos g) ≡ pos 0

none : (z : ℤ) → unsigned_abs z < 1 → z ≡ pos 0
none (pos n) h = ap pos (omega arith)
none (negsuc n) h = absurd (omega arith)

one_divides : (p : Packet) → Divides 1 p
one_divides p = none (int_rem p.time (pos 1)) (rem_below p.time (pos 1) (omega arith))

each_one : (ps : List Packet) → AllByRecursion (Divides 1) ps
each_one [] = tt
each_one (p ∷ ps) = (one_divides p, each_one ps)

is_zero : (z : ℤ) → int_eq z (pos 0) ≡ true → z ≡ pos 0
is_zero z h = grind (arith, ints)

both : (a b : Bool) → (a && b) ≡ true → (a ≡ true) × (b ≡ true)
both true b e = (refl, e)
both false b e = cc e

each_multiple : (g : ℕ) (ps : List Packet) → list_all (is_multiple g) ps ≡ true → AllByRecursion (Divides g) ps
each_multiple g [] h = tt
each_multiple g (p ∷ ps) h =
    let parts = both (is_multiple g p) (list_all (is_multiple g) ps) h in
    (is_zero (int_rem p.time (pos g)) parts.0, each_multiple g ps parts.1)

pub scale_divides : (scale : ℕ) (ps : List Packet) → AllByRecursion (Divides (scale_for scale ps)) ps
scale_divides scale ps = by_test (list_all (is_multiple scale) ps) refl
  where
    by_test : (b : Bool) → list_all (is_multiple scale) ps ≡ b → AllByRecursion (Divides (cond b scale 1)) ps
    by_test true e = each_multiple scale ps e
    by_test false e = each_one ps

-- ---- the lowest time

abbrev pub IsHigh : ℕ → Packet → Type 0
IsHigh g p = int_le (neg_ℤ (pos 32768)) (units g p) ≡ true

negated : (q : ℕ) → q ≤ 32768 → int_le (neg_ℤ (pos 32768)) (neg_ℤ (pos q)) ≡ true
negated q h = grind (arith, ints)

not_under : (g n : ℕ) → int_lt (negsuc n) (neg_ℤ (pos (32768 * g))) ≡ false → suc n ≤ 32768 * g
not_under g n h = grind (arith, ints)

high : (g : ℕ) (time : ℤ) → int_lt time (neg_ℤ (pos (32768 * g))) ≡ false → int_le (neg_ℤ (pos 32768)) (int_div time (pos g)) ≡ true
high g (pos n) h = grind (arith, ints)
high g (negsuc n) h = negated (suc n / g) (div-le_of_le-mul g (omega (arith, not_under g n h)))

pub each_high : (g : ℕ) (ps : List Packet) → first_low g ps ≡ None → AllByRecursion (IsHigh g) ps
each_high g [] h = tt
each_high g (p ∷ ps) h = by_test (is_low g p) refl h (λ e. each_high g ps e)
  where
    by_test : (b : Bool) → is_low g p ≡ b → option_map (λ (p : Packet). p.pos) (cond b (Some p) (find (is_low g) ps)) ≡ None
        → (first_low g ps ≡ None → AllByRecursion (IsHigh g) ps) → AllByRecursion (IsHigh g) (p ∷ ps)
    by_test true e f rest = absurd (cc f)
    by_test false e f rest = (high g p.time e, rest f)
