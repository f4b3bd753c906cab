-- The one packet of a part has its shape.
use Rattle.std.proofs.Common.{◌≡◌, ℕ, ◌+◌, ◌<◌, ◌≤◌, List, [], ◌∷◌, length, Option, Some, None, arith, refl, sym, ◌∙◌}
use Rattle.std.specs.Prelude.{nat_le, pos, true, All, IsTrue, IsSomeAnd, ◌^◌, sum_by}
use Rattle.std.proofs.lemmas.Bool.{le-leb}
use Rattle.std.proofs.lemmas.List.Sums.{sum_by-cons}
use Rattle.mc_packet.specs.declared.packet.Packet.{Packet}
use Rattle.mc_packet.specs.declared.walk.Mark.{Mark}
use Rattle.mc_packet.specs.Shape.{AreBetween, is_near}
use Rattle.mc_queue.specs.Places.{weight_of as weight_of_packet, weights}
use Rattle.mc_range.specs.Range.{RangeState}
use Rattle.mc_cache.specs.Cache.{mark_in}
use Rattle.mc_cache.specs.Changing.{RoomierIn}
use Rattle.cache_bench.specs.Film.{IsOfFilm}

all_one : (P : Packet → Type 0) (p : Packet) → P p → All P (p ∷ [])
all_one P p h = λ k d l. let z : k ≡ 0 = omega arith in rw z h

pub near : (n : ℕ) → n ≤ 2 ^ 62 → IsTrue (is_near (pos n))
near n l = (let y : nat_le n (2 ^ 62) ≡ true = le-leb n (2 ^ 62) l in rw y refl)

pub one_shape : (from to : ℕ) (p : Packet) (ps : List Packet) → ps ≡ p ∷ [] → IsOfFilm from p → from < to → AreBetween from to ps × (weights ps < 1000)
one_shape from to p ps z f l =
    let octets : sum_by (λ (q : Packet). length q.body) (p ∷ []) ≡ length p.body + 0 = sum_by-cons (λ (q : Packet). length q.body) p [] in
    let weight : weights (p ∷ []) ≡ weight_of_packet p + 0 = sum_by-cons weight_of_packet p [] in
    let n = f.octets in
    let b = f.block_is in
    let k = f.lane_is in
    let t = f.some in
    let u = f.few in
    rw z (
      record {
        few = omega arith;
        one_track = (t, omega arith, tt);
        in_order = (tt, tt);
        places = all_one (λ (q : Packet). (from ≤ q.pos.block) × (q.pos.block < to)) p (omega arith, omega arith);
        lanes = all_one (λ (q : Packet). q.pos.lane < 256) p (omega arith);
        times = all_one (λ (q : Packet). IsTrue (is_near q.time)) p f.near;
        payloads = omega arith;
      },
      omega arith,
    )

-- room leaves the current range's mark
pub still_marked : (c d : Option RangeState) (m : Mark) → mark_in c ≡ Some m → RoomierIn c d → IsSomeAnd d (λ r. m ≡ r.mark)
still_marked None d m e r = absurd (cc)
still_marked (Some a) None m e r = absurd r
still_marked (Some a) (Some b) m e r = let s : a.mark ≡ m = cc e in sym s ∙ sym r.mark_is
