-- Where a queue is cut lies in its interval, behind its first packet.
use Rattle.std.proofs.Common.{◌≡◌, ℕ, ◌+◌, ◌<◌, ◌≤◌, Bool, List, [], ◌∷◌, drop, arith, refl, inl, inr}
use Rattle.std.specs.Prelude.{Option, Some, None, IfSome}
use Rattle.std.proofs.lemmas.Bool.{cases_Bool}
use Rattle.mc_packet.specs.declared.packet.Packet.{Packet}
use Rattle.mc_journal.specs.Films.{rank}
use Rattle.mc_queue.specs.Places.{place, Rise}
use Rattle.mc_packet.specs.declared.packet.Pos.{Pos}
use Rattle.mc_queue.specs.Queue.{QueueState, IsQueue, first_that, is_sync, place_or, next_cut}
use Rattle.mc_queue.proofs.Rising.{rise_bounds}

-- what is found lies in the interval
pub found_within : (test : Packet → Bool) (track from to : ℕ) (ps : List Packet) → Rise track from to ps → IfSome (first_that test ps) (λ p. (from ≤ rank p) × (rank p < to))
found_within test track from to [] r = tt
found_within test track from to (p ∷ ps) r =
    let m = r.1 in
    let l = rise_bounds track (place p + 1) to ps r.2 in
    elim (cases_Bool (test p)) [
      | inl y ↦ rw y (m, omega arith)
      | inr n ↦ rw n (wider (first_that test ps) (found_within test track (place p + 1) to ps r.2))
    ]
  where
    wider : (o : Option Pos) → IfSome o (λ q. (place p + 1 ≤ rank q) × (rank q < to)) → IfSome o (λ q. (from ≤ rank q) × (rank q < to))
    wider None h = tt
    wider (Some q) h = let a = h.0 in let b = h.1 in let m = r.1 in (omega arith, b)

cut_by : (from to : ℕ) (end : Pos) (o : Option Pos) → to ≡ rank end → from ≤ to → IfSome o (λ p. (from ≤ rank p) × (rank p < to)) → (from ≤ rank (place_or end o)) × (rank (place_or end o) ≤ to)
cut_by from to end None e l h = (omega arith, omega arith)
cut_by from to end (Some p) e l h = let a = h.0 in let b = h.1 in (a, omega arith)

pub cut_within : (q : QueueState) → Rise q.track (rank q.from) (rank q.to) q.packets → (rank q.from ≤ rank (next_cut q)) × (rank (next_cut q) ≤ rank q.to)
cut_within q r = by q.packets r
  where
    by : (ps : List Packet) → Rise q.track (rank q.from) (rank q.to) ps → (rank q.from ≤ rank (place_or q.to (first_that is_sync (drop 1 ps)))) × (rank (place_or q.to (first_that is_sync (drop 1 ps))) ≤ rank q.to)
    by [] r = (r, omega arith)
    by (p ∷ ps) r =
        let m = r.1 in
        let l = rise_bounds q.track (place p + 1) (rank q.to) ps r.2 in
        let c = cut_by (place p + 1) (rank q.to) q.to (first_that is_sync ps) refl l (found_within is_sync q.track (place p + 1) (rank q.to) ps r.2) in
        let a = c.0 in
        (omega arith, c.1)

-- it lies behind the first packet
pub cut_behind : (q : QueueState) (p : Packet) (ps : List Packet) → IsQueue q → q.packets ≡ p ∷ ps → place p < rank (next_cut q)
cut_behind q p ps i e =
    let r : Rise q.track (rank q.from) (rank q.to) (p ∷ ps) = rw e at i.rise in
    let l = rise_bounds q.track (place p + 1) (rank q.to) ps r.2 in
    let c = cut_by (place p + 1) (rank q.to) q.to (first_that is_sync ps) refl l (found_within is_sync q.track (place p + 1) (rank q.to) ps r.2) in
    let a = c.0 in
    rw e (omega arith)

pub cut_seen : (q q' : QueueState) (x : Pos) → q ≡ q' → Rise q.track (rank q.from) (rank q.to) q.packets → x ≡ next_cut q → (rank q'.from ≤ rank x) × (rank x ≤ rank q'.to)
cut_seen q q' x e r f = rw (← e) (rw f (cut_within q r))
