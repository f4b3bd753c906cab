-- The packets of a chunk rise up to its end.
use Rattle.std.proofs.Common.{◌≡◌, ℕ, suc, ◌+◌, ◌*◌, ◌<◌, ◌≤◌, List, [], ◌∷◌, length, arith, refl, inl, inr}
use Rattle.std.specs.Prelude.{nat_le, pos, true, All, IsTrue, ◌^◌, sum_by}
use Rattle.std.specs.List.{AllByRecursion}
use Rattle.std.proofs.lemmas.Bool.{le-leb}
use Rattle.mc_packet.specs.declared.packet.Packet.{Packet}
use Rattle.mc_packet.specs.Shape.{StandsBefore, InOrder, AreBetween, is_near}
use Rattle.mc_journal.specs.Films.{rank}
use Rattle.mc_queue.specs.Places.{place, Rise, weights}
use Rattle.mc_range.specs.Range.{place_at}
use Rattle.mc_range.specs.Growing.{RiseTogether}
use Rattle.mc_range.proofs.Places.{rank_is}

head_of : (P : Packet → Type 0) (p : Packet) (ps : List Packet) → All P (p ∷ ps) → P p
head_of P p ps h = h 0 p (omega arith)

rest_of : (P : Packet → Type 0) (p : Packet) (ps : List Packet) → All P (p ∷ ps) → All P ps
rest_of P p ps h = λ k d l. h (suc k) d (omega arith)

above : (p : Packet) (ps : List Packet) → p.pos.lane < 256 → AllByRecursion (λ q. StandsBefore p q) ps → AllByRecursion (λ q. place p + 1 ≤ place q) ps
above p [] l h = tt
above p (q ∷ qs) l h = (one h.0, above p qs l h.1)
  where
    one : StandsBefore p q → place p + 1 ≤ place q
    one (inl b) = let e = rank_is p.pos in let f = rank_is q.pos in omega arith
    one (inr b) = let e = rank_is p.pos in let f = rank_is q.pos in let s = b.0 in let m = b.1 in omega arith

rises : (k low from to : ℕ) (ps : List Packet) → low ≤ to * 65536 → AllByRecursion (λ (q : Packet). q.track ≡ k) ps → InOrder ps
    → All (λ (q : Packet). (from ≤ q.pos.block) × (q.pos.block < to)) ps → All (λ (q : Packet). q.pos.lane < 256) ps
    → AllByRecursion (λ q. low ≤ place q) ps → Rise k low (to * 65536) ps
rises k low from to [] l t o b n h = l
rises k low from to (p ∷ ps) l t o b n h =
    let e = rank_is p.pos in
    let m = (head_of (λ (q : Packet). (from ≤ q.pos.block) × (q.pos.block < to)) p ps b).1 in
    let lane = head_of (λ (q : Packet). q.pos.lane < 256) p ps n in
    (t.0, h.0, rises k (place p + 1) from to ps (omega arith) t.1 o.1 (rest_of (λ (q : Packet). (from ≤ q.pos.block) × (q.pos.block < to)) p ps b) (rest_of (λ (q : Packet). q.pos.lane < 256) p ps n) (above p ps lane o.0))

all_low : (ps : List Packet) → AllByRecursion (λ q. 0 ≤ place q) ps
all_low [] = tt
all_low (p ∷ ps) = (omega arith, all_low ps)

pub shape_rises : (from to : ℕ) (ps : List Packet) → AreBetween from to ps → RiseTogether (place_at to) ps
shape_rises from to [] h = tt
shape_rises from to (p ∷ ps) h =
    let e : rank (place_at to) ≡ to * 65536 = (let a = rank_is (place_at to) in omega arith) in
    rw e (rises p.track 0 from to (p ∷ ps) (omega arith) (refl, h.one_track.2) h.in_order h.places h.lanes (all_low (p ∷ ps)))

all_one : (P : Packet → Type 0) (p : Packet) → P p → All P (p ∷ [])
all_one P p h = λ k d l. let z : k ≡ 0 = omega arith in rw z h

all_none : (P : Packet → Type 0) → All P []
all_none P = λ k d l. absurd (omega arith)

pub near : (n : ℕ) → n < 65536 → IsTrue (is_near (pos n))
near n l = (let y : nat_le n (2 ^ 62) ≡ true = le-leb n (2 ^ 62) (omega arith) in rw y refl)

-- one packet without octets, and none
pub one_shape : (from to : ℕ) (p : Packet) (ps : List Packet) → ps ≡ p ∷ [] → 0 < p.track → p.track < 10 → from ≤ p.pos.block → p.pos.block < to
    → p.pos.lane < 256 → IsTrue (is_near p.time) → p.body ≡ [] → AreBetween from to ps × (weights ps < 1000)
one_shape from to p ps z t u f b l n e = rw z (
  record {
    few = omega arith;
    one_track = (t, omega arith, tt);
    in_order = (tt, tt);
    places = all_one (λ (q : Packet). (from ≤ q.pos.block) × (q.pos.block < to)) p (f, b);
    lanes = all_one (λ (q : Packet). q.pos.lane < 256) p l;
    times = all_one (λ (q : Packet). IsTrue (is_near q.time)) p n;
    payloads = let c : sum_by (λ (q : Packet). length q.body) (p ∷ []) ≡ 0 = rw e refl in omega arith;
  },
  let c : weights (p ∷ []) ≡ 64 = rw e refl in omega arith,
)

pub no_shape : (from to : ℕ) → AreBetween from to []
no_shape from to = record {
  few = omega arith;
  one_track = tt;
  in_order = tt;
  places = all_none (λ (q : Packet). (from ≤ q.pos.block) × (q.pos.block < to));
  lanes = all_none (λ (q : Packet). q.pos.lane < 256);
  times = all_none (λ (q : Packet). IsTrue (is_near q.time));
  payloads = omega arith;
}
