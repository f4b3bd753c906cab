-- Places as numbers.
use Rattle.std.proofs.Common.{◌≡◌, ℕ, ◌+◌, ◌*◌, ◌≤◌, arith, refl, inl, inr}
use Rattle.std.proofs.lemmas.Bool.{cases_Bool, leb-true, leb-false}
use Rattle.std.specs.Prelude.{nat_le}
use Rattle.mc_packet.specs.declared.packet.Pos.{Pos}
use Rattle.mc_journal.specs.Films.{rank, first_lane}
use Rattle.mc_queue.specs.Union.{later}
use Rattle.mc_range.specs.Range.{place_at}

pub rank_is : (p : Pos) → rank p ≡ p.block * 65536 + p.lane
unfolding rank
rank_is p = refl

pub lane_is : (n : ℕ) → first_lane n ≡ n * 65536
unfolding first_lane
lane_is n = refl

pub same_lane : (n : ℕ) → rank (place_at n) ≡ first_lane n
same_lane n = let a = lane_is n in let b = rank_is (place_at n) in omega arith

-- a mark's place is at or before one behind it
pub lane_upto : (m n : ℕ) → m ≤ n → first_lane m ≤ rank (place_at n)
lane_upto m n l =
    let a = lane_is m in
    let b = rank_is (place_at n) in
    rw (a, b) (omega arith)

pub later_is_upto : (p q : Pos) → (rank p ≤ rank (later p q)) × (rank q ≤ rank (later p q))
later_is_upto p q = elim (cases_Bool (nat_le (rank p) (rank q))) [
  | inl y ↦ let l = leb-true (rank p) (rank q) y in rw y (l, omega arith)
  | inr n ↦ let l = leb-false (rank p) (rank q) n in rw n (omega arith, omega arith)
]
