-- What lies between two places of a list whose places and times rise.
use Rattle.std.proofs.Common.{◌≡◌, ℕ, ◌<◌, ◌≤◌, true, false, List, [], ◌∷◌, ℤ, arith, refl, inl, inr}
use Rattle.std.specs.Prelude.{nat_le, nat_lt, ◌&&◌, ◌<ℤ◌, ◌≤ℤ◌}
use Rattle.std.specs.List.{AllByRecursion}
use Rattle.std.proofs.lemmas.Int.{ints}
use Rattle.std.proofs.lemmas.Bool.{cases_Bool}
use Rattle.std.proofs.lemmas.Bool.Decides.{nat_tests}
use Rattle.mc_packet.specs.declared.packet.Packet.{Packet}
use Rattle.mc_journal.specs.Films.{at}
use Rattle.mc_journal.specs.Ranges.{within}
use Rattle.mc_journal.proofs.Lists.{all_to}

pub in_yes : (from to a : ℕ) → from ≤ a → a < to → (nat_le from a && nat_lt a to) ≡ true
in_yes from to a f t = grind (arith, nat_tests)

pub in_below : (from to a : ℕ) → a < from → (nat_le from a && nat_lt a to) ≡ false
in_below from to a f = grind (arith, nat_tests)

pub in_past : (from to a : ℕ) → to ≤ a → (nat_le from a && nat_lt a to) ≡ false
in_past from to a f = grind (arith, nat_tests)

-- nothing lies inside where all lies past
pub within-past : (from to : ℕ) (ps : List Packet) → AllByRecursion (λ p. to ≤ at p) ps → within from to ps ≡ []
within-past from to [] h = refl
within-past from to (p ∷ ps) h =
    let e = within-past from to ps h.1 in
    rw (in_past from to (at p) h.0, e)

-- all lies inside where all does
pub within-whole : (from to : ℕ) (ps : List Packet) → AllByRecursion (λ p. from ≤ at p) ps → AllByRecursion (λ p. at p < to) ps → within from to ps ≡ ps
within-whole from to [] low high = refl
within-whole from to (p ∷ ps) low high =
    let e = within-whole from to ps low.1 high.1 in
    rw (in_yes from to (at p) low.0 high.0, e)

-- what lies inside lies at the begin or behind it
pub within-low : (from to : ℕ) (ps : List Packet) → AllByRecursion (λ p. from ≤ at p) (within from to ps)
within-low from to [] = tt
within-low from to (p ∷ ps) =
    let e = within-low from to ps in
    elim (cases_Bool (nat_le from (at p) && nat_lt (at p) to)) [ inl y ↦ rw y (grind (arith, nat_tests), e) | inr n ↦ rw n e ]

-- where the first lies past a place all do
pub past_all : (to : ℕ) (p : Packet) (ps : List Packet) → to ≤ at p → AllByRecursion (λ q. at p < at q) ps → AllByRecursion (λ q. to ≤ at q) ps
past_all to p ps h all = all_to (λ q. at p < at q) (λ q. to ≤ at q) (λ q l. omega arith) ps all

-- where the first is not before a time all others are later
pub late_all : (t : ℤ) (p : Packet) (ps : List Packet) → t ≤ℤ p.time → AllByRecursion (λ q. p.time <ℤ q.time) ps → AllByRecursion (λ q. t <ℤ q.time) ps
late_all t p ps h all = all_to (λ q. p.time <ℤ q.time) (λ q. t <ℤ q.time) (λ q l. grind (arith, ints)) ps all

pub all_low : (ps : List Packet) → AllByRecursion (λ p. 0 ≤ at p) ps
all_low [] = tt
all_low (p ∷ ps) = (omega arith, all_low ps)
