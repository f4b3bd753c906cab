-- A generated film is read back as its packets.
use Rattle.std.proofs.Common.{◌≡◌, ℕ, zero, suc, ◌+◌, ◌-◌, ◌*◌, ◌%◌, ◌/◌, ◌<◌, ◌≤◌, ◌^◌, min, Bool, true, List, [], ◌∷◌, ◌++◌, length, map, refl, sym, ap, ◌∙◌, arith, ℤ}
use Rattle.std.proofs.Math.IntN.{pos-*ℤ-pos}
use Rattle.std.proofs.lemmas.Int.{ints}
use Rattle.std.proofs.lemmas.List.{map-append}
use Rattle.std.proofs.lemmas.List.FromFn.{length-map-range_with_len}
use Rattle.std.proofs.lemmas.Grind.{flat_map-append}
use Rattle.std.specs.Prelude.{pos, ◌+ℤ◌, ◌*ℤ◌, FitsSigned}
use Rattle.std.specs.Int.{w16}
use Rattle.std.specs.List.{AllByRecursion, range_with_len, flat_map}
use Rattle.mc_packet.specs.Contents.{Content, content, contents}
use Rattle.mc_packet.specs.declared.packet.Packet.{Packet}
use Rattle.mc_block.specs.Block.{in_range}
use Rattle.mc_written.specs.Elements.{element_text}
use Rattle.mc_written.specs.Clusters.{Block, Cluster, block, block_time, cluster, packets_at, blocks_begin, clusters_packets, CanBeRead, CanBeEntered}
use Rattle.mc_written.specs.Films.{AnyTracksReadBack, film_as, CanBeFilmed}
use Rattle.mc_written.specs.Fronts.{front_with}
use Rattle.mc_gen.specs.Made.{made_body, made_tracks}
use Rattle.mc_gen.specs.Generated.{blocks, is_key, picture, sound, picture_body, picture_octet, picture_size, sound_body, picture_block, sound_block, shown, cluster_at, generated, generated_clusters, IsPoint, GeneratedReadBack}
use Rattle.mc_gen.proofs.Made.{made_read, made_short}

-- ---- a block

near_pos : (n : ℕ) → n ≤ 2 ^ 62 → in_range (pos n) ≡ true
near_pos n h = grind (arith, ints)

near : (time relative : ℕ) → time + relative ≤ 9000000 → in_range ((pos time +ℤ pos relative) *ℤ pos 1000000) ≡ true
near time relative h = ap in_range (pos-*ℤ-pos (time + relative) 1000000) ∙ near_pos ((time + relative) * 1000000) (omega arith)

fits : (relative : ℕ) → relative < 1000 → FitsSigned w16 (pos relative)
fits relative h = grind (arith, ints)

picture_can : (time i : ℕ) → time ≤ 8000000 → CanBeRead made_tracks 1000000 time (picture_block i)
picture_can time i h = record {
  known = refl;
  narrow = omega arith;
  relative = fits (40 * (i % 12)) (omega arith);
  size = omega (arith, length-map-range_with_len (picture_octet i) 0 (picture_size i));
  near = near time (40 * (i % 12)) (omega arith);
}

sound_can : (time i relative : ℕ) → time ≤ 8000000 → relative < 1000 → CanBeRead made_tracks 1000000 time (sound_block i relative)
sound_can time i relative h small = record {
  known = refl;
  narrow = omega arith;
  relative = fits relative small;
  size = omega arith;
  near = near time relative (omega arith);
}

blocks_can : (time a c : ℕ) → time ≤ 8000000 → AllByRecursion (CanBeRead made_tracks 1000000 time) (flat_map blocks (range_with_len a c))
blocks_can time a zero h = tt
blocks_can time a (suc c) h =
    (picture_can time a h, (sound_can time a (40 * (a % 12)) h (omega arith), (sound_can time a (40 * (a % 12) + 20) h (omega arith), blocks_can time (a + 1) c h)))

blocks_few : (a c : ℕ) → length (flat_map blocks (range_with_len a c)) ≡ 3 * c
blocks_few a zero = refl
blocks_few a (suc c) = omega (arith, blocks_few (a + 1) c)

-- ---- a Cluster

-- a block's time in milliseconds, in nanoseconds
in_nanoseconds : (time relative n : ℕ) → (time + relative) * 1000000 ≡ n → (pos time +ℤ pos relative) *ℤ pos 1000000 ≡ pos n
in_nanoseconds time relative n is = pos-*ℤ-pos (time + relative) 1000000 ∙ ap pos is

at_time : (k a : ℕ) → 12 * k ≤ a → a < 12 * k + 12 → (40 * (12 * k) + 40 * (a % 12)) * 1000000 ≡ 40000000 * a
at_time k a low high = let place : a % 12 ≡ a - 12 * k = omega arith in omega (arith, place)

later_time : (k a : ℕ) → 12 * k ≤ a → a < 12 * k + 12 → (40 * (12 * k) + (40 * (a % 12) + 20)) * 1000000 ≡ 40000000 * a + 20000000
later_time k a low high = let place : a % 12 ≡ a - 12 * k = omega arith in omega (arith, place)

abbrev content_with : ℕ → ℤ → Bool → List ℕ → Content
content_with track time key body = record { track = track; time = time; key = key; body = body }

three : (a b c x y z : Content) (ps qs : List Content) → a ≡ x → b ≡ y → c ≡ z → ps ≡ qs → a ∷ b ∷ c ∷ ps ≡ x ∷ y ∷ z ∷ qs
three a b c x y z ps qs e f g h = rw (e, f, g, h) refl

contents_in : (k at a c : ℕ) → 12 * k ≤ a → a + c ≤ 12 * k + 12 → contents (packets_at 1000000 (40 * (12 * k)) at (flat_map blocks (range_with_len a c))) ≡ flat_map shown (range_with_len a c)
contents_in k at a zero low high = refl
contents_in k at a (suc c) low high =
    let time : ℕ = 40 * (12 * k) in
    let since : ℕ = 40 * (a % 12) in
    let p : Block = picture_block a in
    let s : Block = sound_block a since in
    let l : Block = sound_block a (since + 20) in
    let behind : ℕ = at + length (element_text (block p)) + length (element_text (block s)) + length (element_text (block l)) in
    let now = in_nanoseconds time since (40000000 * a) (at_time k a low (omega arith)) in
    let later = in_nanoseconds time (since + 20) (40000000 * a + 20000000) (later_time k a low (omega arith)) in
    three (content_with 1 (block_time 1000000 time p) (is_key a) (picture_body a)) (content_with 2 (block_time 1000000 time s) true (sound_body a)) (content_with 2 (block_time 1000000 time l) true (sound_body a))
    (picture a) (sound a (40000000 * a)) (sound a (40000000 * a + 20000000))
    (contents (packets_at 1000000 time behind (flat_map blocks (range_with_len (a + 1) c)))) (flat_map shown (range_with_len (a + 1) c))
    (ap (λ (t : ℤ). content_with 1 t (is_key a) (picture_body a)) now) (ap (λ (t : ℤ). content_with 2 t true (sound_body a)) now) (ap (λ (t : ℤ). content_with 2 t true (sound_body a)) later)
    (contents_in k behind (a + 1) c (omega arith) (omega arith))

cluster_can : (n k : ℕ) → 12 * k ≤ 200000 → CanBeEntered made_tracks 1000000 (cluster_at n (12 * k))
cluster_can n k low = record {
  time = omega arith;
  few = omega (arith, blocks_few (12 * k) (min 12 (n - 12 * k)));
  blocks = blocks_can (40 * (12 * k)) (12 * k) (min 12 (n - 12 * k)) (omega arith);
}

-- ---- all of them

clusters_can : (n k m : ℕ) → 12 * (k + m) ≤ 200012 → AllByRecursion (CanBeEntered made_tracks 1000000) (map (λ k. cluster_at n (12 * k)) (range_with_len k m))
clusters_can n k zero low = tt
clusters_can n k (suc m) low = (cluster_can n k (omega arith), clusters_can n (k + 1) m (omega arith))

pub range_parted : (a x y : ℕ) → range_with_len a (x + y) ≡ range_with_len a x ++ range_with_len (a + x) y
range_parted a zero y =
    let none : 0 + y ≡ y = omega arith in
    let same : a + 0 ≡ a = omega arith in
    rw (none, same) refl
range_parted a (suc x) y =
    let next : suc x + y ≡ suc (x + y) = omega arith in
    let same : a + 1 + x ≡ a + suc x = omega arith in
    rw (next, range_parted (a + 1) x y, same) refl

-- a start does not count where nothing begins
next_range : (a b left : ℕ) → (0 < left → a ≡ b) → range_with_len a left ≡ range_with_len b left
next_range a b zero h = refl
next_range a b (suc left) h = ap (λ (x : ℕ). range_with_len x (suc left)) (h (omega arith))

joined : (a b x y : List Content) → a ≡ x → b ≡ y → a ++ b ≡ x ++ y
joined a b x y e f = rw (e, f) refl

contents_all : (n k m at : ℕ) → contents (clusters_packets 1000000 at (map (λ k. cluster_at n (12 * k)) (range_with_len k m))) ≡ flat_map shown (range_with_len (12 * k) (min (12 * m) (n - 12 * k)))
contents_all n k zero at = let none : min (12 * 0) (n - 12 * k) ≡ 0 = omega arith in rw none refl
contents_all n k (suc m) at =
    let c : Cluster = cluster_at n (12 * k) in
    let mine : ℕ = min 12 (n - 12 * k) in
    let left : ℕ = min (12 * m) (n - 12 * (k + 1)) in
    let behind : ℕ = at + length (element_text (cluster c)) in
    let here : List Packet = packets_at 1000000 (40 * (12 * k)) (blocks_begin at c) c.blocks in
    let there : List Packet = clusters_packets 1000000 behind (map (λ k. cluster_at n (12 * k)) (range_with_len (k + 1) m)) in
    let all : mine + left ≡ min (12 * suc m) (n - 12 * k) = omega arith in
    let next : range_with_len (12 * k + mine) left ≡ range_with_len (12 * (k + 1)) left = next_range (12 * k + mine) (12 * (k + 1)) left (λ some. omega arith) in
    let range : range_with_len (12 * k) mine ++ range_with_len (12 * (k + 1)) left ≡ range_with_len (12 * k) (min (12 * suc m) (n - 12 * k))
    = ap (λ (x : List ℕ). range_with_len (12 * k) mine ++ x) (sym next) ∙ sym (range_parted (12 * k) mine left) ∙ ap (range_with_len (12 * k)) all in
    map-append content here there
    ∙ joined (contents here) (contents there) (flat_map shown (range_with_len (12 * k) mine)) (flat_map shown (range_with_len (12 * (k + 1)) left))
    (contents_in k (blocks_begin at c) (12 * k) mine (omega arith) (omega arith)) (contents_all n (k + 1) m behind)
    ∙ sym (flat_map-append shown (range_with_len (12 * k) mine) (range_with_len (12 * (k + 1)) left))
    ∙ ap (flat_map shown) range

-- ---- sync points

all_joined : {X : Type 0} (P : X → Type 0) (xs ys : List X) → AllByRecursion P xs → AllByRecursion P ys → AllByRecursion P (xs ++ ys)
all_joined P [] ys a b = b
all_joined P (x ∷ xs) ys a b = (a.0, all_joined P xs ys a.1 b)

blocks_points : (time at : ℕ) (bs : List Block) → AllByRecursion IsPoint (packets_at 1000000 time at bs)
blocks_points time at [] = tt
blocks_points time at (b ∷ bs) = (refl, blocks_points time (at + length (element_text (block b))) bs)

clusters_points : (at : ℕ) (cs : List Cluster) → AllByRecursion IsPoint (clusters_packets 1000000 at cs)
clusters_points at [] = tt
clusters_points at (c ∷ cs) =
    let behind : ℕ = at + length (element_text (cluster c)) in
    all_joined IsPoint (packets_at 1000000 c.time (blocks_begin at c) c.blocks) (clusters_packets 1000000 behind cs) (blocks_points c.time (blocks_begin at c) c.blocks) (clusters_points behind cs)

pub generated_reads_back : AnyTracksReadBack → GeneratedReadBack
unfolding generated
generated_reads_back films n few =
    let m : ℕ = (n + 11) / 12 in
    let cs : List Cluster = generated_clusters n in
    let can : CanBeFilmed 1000000 made_body made_tracks cs = record {
      positive = omega arith;
      fits = omega arith;
      short = made_short;
      read = made_read;
      entered = clusters_can n 0 m (omega arith);
    } in
    let all : min (12 * m) (n - 12 * 0) ≡ n = omega arith in
    let packets = contents_all n 0 m (length (front_with 1000000 made_body)) in (
      film_as 1000000 made_body made_tracks cs,
      films 1000000 made_body made_tracks cs can,
      record {
        scale = refl;
        listed = refl;
        packets = packets ∙ ap (λ (x : ℕ). flat_map shown (range_with_len 0 x)) all;
        points = clusters_points (length (front_with 1000000 made_body)) cs;
        ending = refl;
      },
    )
