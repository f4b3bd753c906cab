-- The weight of the packets from a place on, as the place moves.
use Rattle.std.proofs.Common.{◌≡◌, ℕ, ◌+◌, ◌≤◌, true, false, zero, suc, List, [], ◌∷◌, ◌++◌, drop, length, arith, refl, ap, sym, ◌∙◌, inl, inr}
use Rattle.std.specs.Prelude.{nat_le, if◌then◌else◌}
use Rattle.std.specs.List.{AllWithin}
use Rattle.std.proofs.lemmas.Bool.{cases_Bool, ltb-true, ltb-false, le-leb, lt-leb, leb-false}
use Rattle.std.proofs.lemmas.List.Sums.{sum_by-cons}
use Rattle.mc_packet.specs.declared.packet.Packet.{Packet}
use Rattle.mc_packet.specs.declared.packet.Pos.{Pos}
use Rattle.mc_journal.specs.Films.{rank}
use Rattle.mc_queue.specs.Union.{later}
use Rattle.mc_queue.specs.Places.{place, weight_of, weights, is_before, is_from}
use Rattle.mc_journal.specs.Views.{from_place}
use Rattle.mc_queue.proofs.Rising.{weights_of_two, from_two}

-- where those before an index stand before the place, and the others do not, these are those from the place on
pub rest_is : (cut : ℕ) (ps : List Packet) (i : ℕ) → AllWithin (λ p. is_before cut p ≡ true) ps 0 i → AllWithin (λ p. is_before cut p ≡ false) ps i (length ps)
    → drop i ps ≡ from_place cut ps
rest_is cut [] zero h k = refl
rest_is cut [] (suc i) h k = refl
rest_is cut (p ∷ ps) zero h k =
    let n = k 0 p (omega arith) (omega arith) in
    let y = le-leb cut (place p) (ltb-false (place p) cut n) in
    let more = rest_is cut ps zero (λ a d x z. absurd (omega arith)) (λ a d x z. k (suc a) d (omega arith) (omega arith)) in
    rw y (ap (λ qs. p ∷ qs) more)
rest_is cut (p ∷ ps) (suc i) h k =
    let y = h 0 p (omega arith) (omega arith) in
    let n = lt-leb cut (place p) (ltb-true (place p) cut y) in
    rw n (rest_is cut ps i (λ a d x z. h (suc a) d (omega arith) (omega arith)) (λ a d x z. k (suc a) d (omega arith) (omega arith)))

pub rest_within : (ps : List Packet) (i : ℕ) → weights (drop i ps) ≤ weights ps
rest_within [] zero = omega arith
rest_within [] (suc i) = omega arith
rest_within (p ∷ ps) zero = omega arith
rest_within (p ∷ ps) (suc i) = let more = rest_within ps i in let all = sum_by-cons weight_of p ps in omega arith

-- those from a place on that stand behind a cut, where the place is there or behind it
pub from_again : (cut head : ℕ) (ps : List Packet) → cut ≤ head → from_place head (from_place cut ps) ≡ from_place head ps
from_again cut head [] l = refl
from_again cut head (p ∷ ps) l = elim (cases_Bool (is_from cut p)) [
  | inl y ↦ elim (cases_Bool (is_from head p)) [
    | inl z ↦ rw (y, z) (ap (λ qs. p ∷ qs) (from_again cut head ps l))
    | inr n ↦ rw (y, n) (from_again cut head ps l)
  ]
  | inr n ↦
      let m = leb-false cut (place p) n in
      let z = lt-leb head (place p) (omega arith) in
      rw (n, z) (from_again cut head ps l)
]

-- the place that a queue looks from, and the weight from there, after a drop
pub kept_ahead : (look cut l : Pos) (old new : List Packet) (ahead w a : ℕ) → new ≡ from_place (rank cut) old → w ≡ weights new → ahead ≡ weights (from_place (rank look) old)
    → l ≡ later look cut → a ≡ (if nat_le (rank look) (rank cut) then w else ahead) → a ≡ weights (from_place (rank l) new)
kept_ahead look cut l old new ahead w a e f g h k = elim (cases_Bool (nat_le (rank look) (rank cut))) [
  | inl y ↦
      let p : l ≡ cut = rw y at h in
      let q : a ≡ w = rw y at k in
      let z : from_place (rank cut) new ≡ new = ap (λ ps. from_place (rank cut) ps) e ∙ from_again (rank cut) (rank cut) old (omega arith) ∙ sym e in
      q ∙ f ∙ ap (λ ps. weights ps) (sym z) ∙ ap (λ (x : Pos). weights (from_place (rank x) new)) (sym p)
  | inr n ↦
      let m = leb-false (rank look) (rank cut) n in
      let p : l ≡ look = rw n at h in
      let q : a ≡ ahead = rw n at k in
      let z : from_place (rank look) new ≡ from_place (rank look) old = ap (λ ps. from_place (rank look) ps) e ∙ from_again (rank cut) (rank look) old (omega arith) in
      q ∙ g ∙ ap (λ ps. weights ps) (sym z) ∙ ap (λ (x : Pos). weights (from_place (rank x) new)) (sym p)
]

-- and after packets were put behind the others
pub more_ahead : (look : ℕ) (old added new : List Packet) (ahead more : ℕ) → new ≡ old ++ added → ahead ≡ weights (from_place look old) → more ≡ weights (from_place look added)
    → ahead + more ≡ weights (from_place look new)
more_ahead look old added new ahead more e f g =
    let w = weights_of_two (from_place look old) (from_place look added) in
    let z : weights (from_place look new) ≡ weights (from_place look old ++ from_place look added) = ap (λ ps. weights (from_place look ps)) e ∙ ap (λ ps. weights ps) (from_two look old added) in
    omega arith
