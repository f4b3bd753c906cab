-- Packets that are cut into Clusters keep their order, and all that is told of them.
use Rattle.std.proofs.Common.{◌≡◌, ℕ, zero, suc, ◌+◌, ◌<◌, ◌≤◌, ◌^◌, Bool, true, false, cond, List, [], ◌∷◌, length, take, drop, map, refl, sym, ap, ◌∙◌, arith, length-take, length-drop, ℤ}
use Rattle.std.proofs.Math.IntN.{+ℤ_idr}
use Rattle.std.proofs.lemmas.Int.{ints, quot-rem, quot_fits}
use Rattle.std.proofs.lemmas.List.{length-map, map-append, take-append-drop}
use Rattle.std.proofs.lemmas.List.Sums.{prefix_len-le-length}
use Rattle.std.specs.Prelude.{pos, negsuc, neg_ℤ, ◌+ℤ◌, ◌-ℤ◌, ◌*ℤ◌, int_le, FitsSigned}
use Rattle.std.specs.Int.{w16, w64}
use Rattle.std.specs.Int.RustNames.{int_div, int_rem}
use Rattle.std.specs.List.{AllByRecursion, prefix_len}
use Rattle.mc_packet.specs.declared.packet.Packet.{Packet}
use Rattle.mc_packet.specs.Contents.{content, contents}
use Rattle.mc_packet.specs.Shape.{is_near}
use Rattle.mc_ebml.specs.Written.{coded_width}
use Rattle.mc_tracks.specs.declared.track.Track.{Track}
use Rattle.mc_tracks.specs.TrackList.{is_known}
use Rattle.mc_written.specs.Elements.{element_text}
use Rattle.mc_written.specs.Clusters.{Cluster, block, block_time, cluster, packets_at, blocks_begin, clusters_packets, CanBeRead, CanBeEntered}
use Rattle.mc_dump.specs.Clustered.{units, not_negative, fits_in, block_with, blocks_with, cluster_len, cluster_with, begin_with, clusters_from}
use Rattle.mc_dump.proofs.Scales.{Divides, IsHigh}

-- what is asked of a packet that is written in units of a scale
pub record CanBeKept (tracks : List Track) (g : ℕ) (p : Packet) : Type 0 where
  pub known : is_known tracks p.track ≡ true
  pub narrow : p.track < 2 ^ 56
  pub near : is_near p.time ≡ true
  pub size : coded_width p.track + 3 + length p.body ≤ 67108864
  pub whole : Divides g p
  pub high : IsHigh g p

-- ---- a block

back : (c u : ℤ) → c +ℤ (u -ℤ c) ≡ u
back c u = omega (arith, ints)

time_back : (tracks : List Track) (g time : ℕ) (p : Packet) → CanBeKept tracks g p → block_time g time (block_with g time p) ≡ p.time
time_back tracks g time p can =
    let none : int_div p.time (pos g) *ℤ pos g +ℤ int_rem p.time (pos g) ≡ p.time = quot-rem p.time (pos g) in
    let exact = rw can.whole at none in
    rw (back (pos time) (units g p)) (sym (+ℤ_idr (units g p *ℤ pos g)) ∙ exact)

relative_fits : (time : ℕ) (u : ℤ) → fits_in time u ≡ true → FitsSigned w16 (u -ℤ pos time)
relative_fits time u h = grind (arith, ints)

block_can : (tracks : List Track) (g time : ℕ) (p : Packet) → CanBeKept tracks g p → fits_in time (units g p) ≡ true → CanBeRead tracks g time (block_with g time p)
block_can tracks g time p can fits = record {
  known = can.known;
  narrow = can.narrow;
  relative = relative_fits time (units g p) fits;
  size = can.size;
  near = rw (time_back tracks g time p can) can.near;
}

-- ---- a Cluster

blocks_can : (tracks : List Track) (g time : ℕ) (ps : List Packet) → AllByRecursion (CanBeKept tracks g) ps → AllByRecursion (λ (p : Packet). fits_in time (units g p) ≡ true) ps
    → AllByRecursion (CanBeRead tracks g time) (blocks_with g time ps)
blocks_can tracks g time [] kept fit = tt
blocks_can tracks g time (p ∷ ps) kept fit = (block_can tracks g time p kept.0 fit.0, blocks_can tracks g time ps kept.1 fit.1)

contents_in : (tracks : List Track) (g time at : ℕ) (ps : List Packet) → AllByRecursion (CanBeKept tracks g) ps → contents (packets_at g time at (blocks_with g time ps)) ≡ contents ps
contents_in tracks g time at [] kept = refl
contents_in tracks g time at (p ∷ ps) kept =
    rw (time_back tracks g time p kept.0, contents_in tracks g time (at + length (element_text (block (block_with g time p)))) ps kept.1) refl

-- what stands in front passes the test
passing : {X : Type 0} (q : X → Bool) (n : ℕ) (xs : List X) → AllByRecursion (λ (x : X). q x ≡ true) (take (prefix_len q (take n xs)) xs)
passing q zero xs = tt
passing q (suc n) [] = tt
passing {X} q (suc n) (x ∷ xs) = by_test (q x) refl (passing q n xs)
  where
    by_test : (b : Bool) → q x ≡ b → AllByRecursion (λ (x : X). q x ≡ true) (take (prefix_len q (take n xs)) xs)
        → AllByRecursion (λ (x : X). q x ≡ true) (take (cond b (1 + prefix_len q (take n xs)) 0) (x ∷ xs))
    by_test true e rest = let next : 1 + prefix_len q (take n xs) ≡ suc (prefix_len q (take n xs)) = omega arith in rw next (e, rest)
    by_test false e rest = tt

all_taken : {X : Type 0} (P : X → Type 0) (n : ℕ) (xs : List X) → AllByRecursion P xs → AllByRecursion P (take n xs)
all_taken P zero xs all = tt
all_taken P (suc n) [] all = tt
all_taken P (suc n) (x ∷ xs) all = (all.0, all_taken P n xs all.1)

all_dropped : {X : Type 0} (P : X → Type 0) (n : ℕ) (xs : List X) → AllByRecursion P xs → AllByRecursion P (drop n xs)
all_dropped P zero xs all = all
all_dropped P (suc n) [] all = tt
all_dropped P (suc n) (x ∷ xs) all = all_dropped P n xs all.1

pub cluster_few : (g time : ℕ) (ps : List Packet) → length (take (cluster_len g time ps) ps) ≤ 1024
cluster_few g time ps =
    omega (arith, length-take (cluster_len g time ps) ps, length-take 1024 ps, prefix_len-le-length (λ (p : Packet). fits_in time (units g p)) (take 1024 ps))

cluster_can : (tracks : List Track) (g time : ℕ) (ps : List Packet) → time < 2 ^ 64 → AllByRecursion (CanBeKept tracks g) ps → CanBeEntered tracks g (cluster_with g time ps)
cluster_can tracks g time ps small kept =
    let mine : List Packet = take (cluster_len g time ps) ps in
    record {
      time = small;
      few = omega (arith, cluster_few g time ps, length-map mine (block_with g time));
      blocks = blocks_can tracks g time mine (all_taken (CanBeKept tracks g) (cluster_len g time ps) ps kept) (passing (λ (p : Packet). fits_in time (units g p)) 1024 ps);
    }

-- ---- all Clusters

near_fits : (z : ℤ) → is_near z ≡ true → FitsSigned w64 z
near_fits z h = grind (arith, ints)

begin_small : (u : ℤ) → FitsSigned w64 u → not_negative u < 2 ^ 64
begin_small (pos n) fits = omega (arith, ints)
begin_small (negsuc n) fits = omega arith

begin_is_small : (tracks : List Track) (g : ℕ) (p : Packet) → 0 < g → CanBeKept tracks g p → begin_with g p < 2 ^ 64
begin_is_small tracks g p positive can = begin_small (units g p) (quot_fits w64 p.time (pos g) (near_fits p.time can.near) (grind (arith, ints)))

-- the first packet stands in the Cluster that it begins
first_fits : (u : ℤ) → int_le (neg_ℤ (pos 32768)) u ≡ true → fits_in (not_negative u) u ≡ true
first_fits (pos n) h = grind (arith, ints)
first_fits (negsuc n) h = grind (arith, ints)

takes_first : (tracks : List Track) (g : ℕ) (p : Packet) (ps : List Packet) → CanBeKept tracks g p → 0 < cluster_len g (begin_with g p) (p ∷ ps)
takes_first tracks g p ps can = rw (first_fits (units g p) can.high) (omega arith)

pub clusters_can : (n : ℕ) (tracks : List Track) (g : ℕ) (ps : List Packet) → 0 < g → AllByRecursion (CanBeKept tracks g) ps → AllByRecursion (CanBeEntered tracks g) (clusters_from n g ps)
unfolding clusters_from
clusters_can zero tracks g ps positive kept = tt
clusters_can (suc n) tracks g [] positive kept = tt
clusters_can (suc n) tracks g (p ∷ ps) positive kept = (
  cluster_can tracks g (begin_with g p) (p ∷ ps) (begin_is_small tracks g p positive kept.0) kept,
  clusters_can n tracks g (drop (cluster_len g (begin_with g p) (p ∷ ps)) (p ∷ ps)) positive (all_dropped (CanBeKept tracks g) (cluster_len g (begin_with g p) (p ∷ ps)) (p ∷ ps) kept),
)

pub clusters_contents : (n : ℕ) (tracks : List Track) (g at : ℕ) (ps : List Packet) → length ps ≤ n → AllByRecursion (CanBeKept tracks g) ps → contents (clusters_packets g at (clusters_from n g ps)) ≡ contents ps
unfolding clusters_from
clusters_contents zero tracks g at [] enough kept = refl
clusters_contents zero tracks g at (p ∷ ps) enough kept = absurd (omega arith)
clusters_contents (suc n) tracks g at [] enough kept = refl
clusters_contents (suc n) tracks g at (p ∷ ps) enough kept =
    let time : ℕ = begin_with g p in
    let k : ℕ = cluster_len g time (p ∷ ps) in
    let c : Cluster = cluster_with g time (p ∷ ps) in
    let some = takes_first tracks g p ps kept.0 in
    let here = contents_in tracks g time (blocks_begin at c) (take k (p ∷ ps)) (all_taken (CanBeKept tracks g) k (p ∷ ps) kept) in
    let rest = clusters_contents n tracks g (at + length (element_text (cluster c))) (drop k (p ∷ ps)) (omega (arith, length-drop k (p ∷ ps))) (all_dropped (CanBeKept tracks g) k (p ∷ ps) kept) in
    map-append content (packets_at g time (blocks_begin at c) (map (block_with g time) (take k (p ∷ ps)))) (clusters_packets g (at + length (element_text (cluster c))) (clusters_from n g (drop k (p ∷ ps))))
    ∙ rw (here, rest) (sym (map-append content (take k (p ∷ ps)) (drop k (p ∷ ps))) ∙ ap contents (take-append-drop k (p ∷ ps)))
