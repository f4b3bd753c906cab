-- What is left of a track from a place on.
use Rattle.std.proofs.Common.{◌≡◌, ℕ, ◌+◌, ◌*◌, ◌<◌, ◌≤◌, ◌==◌, true, false, ◌&&◌, List, [], ◌∷◌, Some, None, arith, refl, ap, subst, inl, inr}
use Rattle.std.specs.Prelude.{nat_le, nat_lt}
use Rattle.std.specs.List.{filter, AllByRecursion}
use Rattle.std.proofs.lemmas.Bool.{cases_Bool, cases_lt}
use Rattle.std.proofs.lemmas.Bool.Decides.{nat_tests}
use Rattle.mc_packet.specs.declared.packet.Packet.{Packet}
use Rattle.mc_journal.specs.Films.{fresh, at, rank, first_lane, first, track_of, IsRising, HasLanes}
use Rattle.mc_journal.specs.Ranges.{within}
use Rattle.mc_journal.specs.Views.{from_place}
use Rattle.mc_journal.specs.Legal.{IsEnd}
use Rattle.mc_journal.proofs.Lists.{all_to}
use Rattle.mc_journal.proofs.Within.{past_all, within-past, in_yes}

-- the packets of a track from a place on
abbrev pub rest : ℕ → ℕ → List Packet → List Packet
rest k place ps = filter (λ p. p.track == k && nat_le place (at p)) ps

pub rest-track : (k n : ℕ) (ps : List Packet) → rest k n ps ≡ from_place n (track_of k ps)
rest-track k n [] = refl
rest-track k n (p ∷ ps) =
    let e = rest-track k n ps in
    elim (cases_Bool (p.track == k)) [
      | inl y ↦ elim (cases_Bool (nat_le n (at p))) [ inl m ↦ rw (y, m, e) | inr m ↦ rw (y, m, e) ]
      | inr off ↦ rw (off, e)
    ]

in_block : (block lane b : ℕ) → lane < 65536 → nat_le (b * 65536) (block * 65536 + lane) ≡ nat_le b block
in_block block lane b h = grind (arith, nat_tests)

-- from lane 0 of a block on is from the block on
pub rest-fresh : (k b : ℕ) (ps : List Packet) → AllByRecursion HasLanes ps → rest k (first_lane b) ps ≡ fresh k b ps
unfolding rank first_lane
rest-fresh k b [] h = refl
rest-fresh k b (p ∷ ps) h =
    let e = rest-fresh k b ps h.1 in
    let same = in_block p.pos.block p.pos.lane b h.0.0 in
    rw (same, e)

pub from_place-all : (n : ℕ) (ps : List Packet) → AllByRecursion (λ p. n ≤ at p) ps → from_place n ps ≡ ps
from_place-all n [] h = refl
from_place-all n (p ∷ ps) h =
    let e = from_place-all n ps h.1 in
    let y : nat_le n (at p) ≡ true = grind (arith, nat_tests) in
    rw (y, e)

pub le_yes : (n m : ℕ) → n ≤ m → nat_le n m ≡ true
le_yes n m h = grind (arith, nat_tests)

pub le_no : (n m : ℕ) → m < n → nat_le n m ≡ false
le_no n m h = grind (arith, nat_tests)

pub first_kept : (n : ℕ) (p : Packet) (ps : List Packet) → first (from_place n ps) ≡ Some p → n ≤ at p
first_kept n p [] h = absurd (cc)
first_kept n p (q ∷ ps) h =
    elim (cases_Bool (nat_le n (at q))) [
      | inl y ↦ let same : Some q ≡ Some p = rw y at h in let e : q ≡ p = cc in rw (← e) (grind (arith, nat_tests))
      | inr off ↦ first_kept n p ps (rw off at h)
    ]

-- the packet at the place, by a span that holds what is there
pub from_place-next : (from to n : ℕ) (p : Packet) (ps : List Packet) → IsRising ps → from ≤ n
    → first (from_place n (within from to ps)) ≡ Some p
    → from_place n ps ≡ p ∷ from_place (at p + 1) ps
from_place-next from to n p [] rise ahead h = absurd (cc)
from_place-next from to n p (q ∷ ps) rise ahead h =
    elim (cases_lt (at q) n) [
      | inl before ↦
          let off = le_no n (at q) before in
          elim (cases_Bool (nat_le from (at q) && nat_lt (at q) to)) [
            | inl y ↦
                let h' : first (from_place n (within from to ps)) ≡ Some p = rw (y, off) at h in
                let past = first_kept n p (within from to ps) h' in
                let off' = le_no (at p + 1) (at q) (omega arith) in
                rw (off, off') (from_place-next from to n p ps rise.1 ahead h')
            | inr out ↦
                let h' : first (from_place n (within from to ps)) ≡ Some p = rw out at h in
                let past = first_kept n p (within from to ps) h' in
                let off' = le_no (at p + 1) (at q) (omega arith) in
                rw (off, off') (from_place-next from to n p ps rise.1 ahead h')
          ]
      | inr here ↦
          let yes = le_yes n (at q) here in
          elim (cases_lt (at q) to) [
            | inl below ↦
                let y = in_yes from to (at q) (omega arith) below in
                let same : Some q ≡ Some p = rw (y, yes) at h in
                let e : q ≡ p = cc in
                let off' = le_no (at q + 1) (at q) (omega arith) in
                let all : from_place n ps ≡ ps = from_place-all n ps (all_to (λ r. at q < at r) (λ r. n ≤ at r) (λ r l. omega arith) ps rise.0) in
                let all' : from_place (at q + 1) ps ≡ ps = from_place-all (at q + 1) ps (all_to (λ r. at q < at r) (λ r. at q + 1 ≤ at r) (λ r l. omega arith) ps rise.0) in
                let here' : from_place n (q ∷ ps) ≡ q ∷ from_place (at q + 1) (q ∷ ps) = rw (yes, off', all, all') refl in
                subst (λ (x : Packet). from_place n (q ∷ ps) ≡ x ∷ from_place (at x + 1) (q ∷ ps)) e here'
            | inr past ↦
                let none : within from to (q ∷ ps) ≡ [] = within-past from to (q ∷ ps) (past, past_all to q ps past rise.0) in
                absurd (let f : first (from_place n []) ≡ Some p = rw none at h in cc)
          ]
    ]

-- nothing is left, where the span holds nothing from there on and reaches past all
pub from_place-end : (from to n : ℕ) (ps : List Packet) → from ≤ n → AllByRecursion (λ p. at p < to) ps
    → first (from_place n (within from to ps)) ≡ None
    → from_place n ps ≡ []
from_place-end from to n [] ahead all h = refl
from_place-end from to n (q ∷ ps) ahead all h =
    elim (cases_lt (at q) n) [
      | inl before ↦
          let off = le_no n (at q) before in
          elim (cases_Bool (nat_le from (at q) && nat_lt (at q) to)) [
            | inl y ↦ rw off (from_place-end from to n ps ahead all.1 (rw (y, off) at h))
            | inr out ↦ rw off (from_place-end from to n ps ahead all.1 (rw out at h))
          ]
      | inr here ↦
          let yes = le_yes n (at q) here in
          let y = in_yes from to (at q) (omega arith) all.0 in
          absurd (let f : Some q ≡ None = rw (y, yes) at h in cc)
    ]

-- it is an end of the track
pub from_place-suffix : (n : ℕ) (ps : List Packet) → IsRising ps → IsEnd (from_place n ps) ps
from_place-suffix n [] rise = ([], refl)
from_place-suffix n (q ∷ ps) rise =
    elim (cases_lt (at q) n) [
      | inl before ↦
          let r = from_place-suffix n ps rise.1 in
          let off = le_no n (at q) before in
          rw off (q ∷ r.0, ap (λ xs. q ∷ xs) r.1)
      | inr here ↦
          ([], from_place-all n (q ∷ ps) (here, all_to (λ r. at q < at r) (λ r. n ≤ at r) (λ r l. omega arith) ps rise.0))
    ]
