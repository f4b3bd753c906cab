-- The blocks of pictures, one behind the other, and that they come again.
use Rattle.std.proofs.Common.{◌≡◌, ℕ, zero, suc, ◌+◌, ◌-◌, ◌*◌, ◌%◌, ◌/◌, ◌^◌, ◌<◌, ◌≤◌, min, List, [], ◌∷◌, ◌++◌, length, map, get_or, refl, sym, ap, ◌∙◌, append_assoc, length-append, arith}
use Rattle.std.specs.Prelude.{Vec}
use Rattle.std.specs.List.{range_with_len, flat_map}
use Rattle.std.specs.declared.alloc.Global.{Global}
use Rattle.std.proofs.lemmas.Bool.Decides.{nat_tests}
use Rattle.std.proofs.lemmas.List.{map-append, get_or-map, length-map}
use Rattle.std.proofs.lemmas.List.FromFn.{get_or-map-range_with_len, length-map-range_with_len, map-range_with_len_more}
use Rattle.std.proofs.lemmas.Grind.{flat_map-append}
use Rattle.byteorder.specs.Endian.{big_bytes}
use Rattle.byteorder.specs.Numbers.{length-bytes_high_first}
use Rattle.mc_ebml.specs.declared.read.Size.TheVariants.{Known}
use Rattle.mc_ebml.specs.Written.{octets_of, coded_octets, coded_width, head_octets, size_octets, element_octets}
use Rattle.mc_written.specs.Elements.{Element, element_text, elements}
use Rattle.mc_written.specs.Clusters.{Block, block, block_octets, blocks_text}
use Rattle.mc_gen.specs.Generated.{blocks, cluster_at, picture_block, picture_body, picture_octet, picture_size, sound_block}
use Rattle.mc_gen.specs.Rounds.{pictures_text, whole_text, octets_of_each, IsRound}
use Rattle.mc_gen.proofs.Read.{range_parted}

-- ---- one behind the other

elements_append : (es fs : List Element) → elements (es ++ fs) ≡ elements es ++ elements fs
elements_append [] fs = refl
elements_append (e ∷ es) fs = rw (elements_append es fs) (sym (append_assoc (element_text e) (elements es) (elements fs)))

blocks_append : (bs cs : List Block) → blocks_text (bs ++ cs) ≡ blocks_text bs ++ blocks_text cs
blocks_append bs cs = ap elements (map-append block bs cs) ∙ elements_append (map block bs) (map block cs)

pub no_pictures : (first : ℕ) → pictures_text first 0 ≡ []
unfolding pictures_text
no_pictures first = refl

pub one_picture : (i : ℕ) → pictures_text i 1 ≡ blocks_text (blocks i)
unfolding pictures_text
one_picture i = refl

pub pictures_parted : (first x y : ℕ) → pictures_text first (x + y) ≡ pictures_text first x ++ pictures_text (first + x) y
unfolding pictures_text
pictures_parted first x y =
    rw (range_parted first x y, flat_map-append blocks (range_with_len first x) (range_with_len (first + x) y))
    (blocks_append (flat_map blocks (range_with_len first x)) (flat_map blocks (range_with_len (first + x) y)))

-- one picture more
pub pictures_more : (first i : ℕ) → first ≤ i → pictures_text first (i + 1 - first) ≡ pictures_text first (i - first) ++ blocks_text (blocks i)
pictures_more first i le =
    let count : i + 1 - first ≡ (i - first) + 1 = omega arith in
    let place : first + (i - first) ≡ i = omega arith in
    rw (count, pictures_parted first (i - first) 1, place, one_picture i) refl

-- one octet more of what a picture shows
pub octet_more : (i j : ℕ) (xs : List ℕ) → xs ≡ map (picture_octet i) (range_with_len 0 j) → xs ++ (i % 256 + j) % 256 ∷ [] ≡ map (picture_octet i) (range_with_len 0 (j + 1))
octet_more i j xs so_far =
    let octet : (i % 256 + j) % 256 ≡ (i + j) % 256 = omega arith in
    rw (so_far, octet) (sym (map-range_with_len_more (picture_octet i) 0 j j (omega arith)))

pub body_short : (i : ℕ) → length (picture_body i) ≤ 39
body_short i = omega (arith, length-map-range_with_len (picture_octet i) 0 (picture_size i))

-- ---- they come again

same_octets : (i q : ℕ) (js : List ℕ) → map (picture_octet (i + 768 * q)) js ≡ map (picture_octet i) js
same_octets i q [] = refl
same_octets i q (j ∷ js) =
    let one : (i + 768 * q + j) % 256 ≡ (i + j) % 256 = omega arith in
    rw (one, same_octets i q js) refl

same_body : (i q : ℕ) → picture_body (i + 768 * q) ≡ picture_body i
same_body i q =
    let size : (i + 768 * q) % 32 ≡ i % 32 = omega arith in
    rw size (same_octets i q (range_with_len 0 (8 + i % 32)))

same_blocks : (i q : ℕ) → blocks (i + 768 * q) ≡ blocks i
same_blocks i q =
    let octet : (i + 768 * q) % 256 ≡ i % 256 = omega arith in
    let place : (i + 768 * q) % 12 ≡ i % 12 = omega arith in
    rw (same_body i q, octet, place) refl

both : (a b x y : List Block) → a ≡ b → x ≡ y → a ++ x ≡ b ++ y
both a b x y e f = rw (e, f) refl

same_pictures : (a q c : ℕ) → flat_map blocks (range_with_len (a + 768 * q) c) ≡ flat_map blocks (range_with_len a c)
same_pictures a q zero = refl
same_pictures a q (suc c) =
    let next : a + 768 * q + 1 ≡ a + 1 + 768 * q = omega arith in
    both (blocks (a + 768 * q)) (blocks a) (flat_map blocks (range_with_len (a + 768 * q + 1) c)) (flat_map blocks (range_with_len (a + 1) c)) (same_blocks a q)
    (ap (λ (b : ℕ). flat_map blocks (range_with_len b c)) next ∙ same_pictures (a + 1) q c)

pub comes_again : (k : ℕ) → whole_text (k % 64) ≡ whole_text k
unfolding pictures_text
comes_again k =
    let place : 12 * k ≡ 12 * (k % 64) + 768 * (k / 64) = omega arith in
    rw place (ap blocks_text (sym (same_pictures (12 * (k % 64)) (k / 64) 12)))

-- ---- a round of them

pub one_more_whole : (vs : List (Vec ℕ Global)) (v : Vec ℕ Global) (k : ℕ) → octets_of_each vs ≡ map whole_text (range_with_len 0 k) → v.items ≡ whole_text k
    → octets_of_each (vs ++ v ∷ []) ≡ map whole_text (range_with_len 0 (k + 1))
one_more_whole vs v k so_far is =
    map-append (λ (v : Vec ℕ Global). v.items) vs (v ∷ [])
    ∙ rw (so_far, is) (sym (map-range_with_len_more whole_text 0 k k (omega arith)))

pub round_long : (vs : List (Vec ℕ Global)) → IsRound vs → length vs ≡ 64
round_long vs is = omega (arith, ap length is, length-map-range_with_len whole_text 0 64, length-map vs (λ (v : Vec ℕ Global). v.items))

pub round_has : (vs : List (Vec ℕ Global)) (j : ℕ) (d : Vec ℕ Global) → IsRound vs → j < 64 → (get_or vs j d).items ≡ whole_text j
round_has vs j d is lt =
    let long = round_long vs is in
    sym (get_or-map (λ (v : Vec ℕ Global). v.items) vs j d [] (omega arith))
    ∙ ap (λ (xs : List (List ℕ)). get_or xs j []) is
    ∙ get_or-map-range_with_len whole_text 0 64 j j [] lt (omega arith)

-- ---- how long they are

octets_few : (n : ℕ) → octets_of n ≤ 8
octets_few n = grind (arith, nat_tests)

coded_few : (n : ℕ) → coded_width n ≤ 8
coded_few n = grind (arith, nat_tests)

head_short : (id n : ℕ) → length (head_octets id (Known n)) ≤ 16
unfolding head_octets
head_short id n = omega (
  arith,
  length-append (big_bytes (octets_of id) id) (size_octets (Known n)),
  length-bytes_high_first (octets_of id) id,
  length-bytes_high_first (coded_width (n + 1)) (2 ^ (7 * coded_width (n + 1)) + n),
  octets_few id,
  coded_few (n + 1),
)

element_short : (e : Element) → length (element_text e) ≤ 16 + length e.1
unfolding element_octets
element_short e = omega (arith, length-append (head_octets e.0 (Known (length e.1))) e.1, head_short e.0 (length e.1))

picture_short : (i : ℕ) → length (block_octets (picture_block i)) ≤ 43
unfolding coded_octets
picture_short i = omega (arith, length-map-range_with_len (picture_octet i) 0 (picture_size i))

blocks_short : (i : ℕ) → length (blocks_text (blocks i)) ≤ 107
unfolding coded_octets
blocks_short i =
    let p = block (picture_block i) in
    let s = block (sound_block i (40 * (i % 12))) in
    let l = block (sound_block i (40 * (i % 12) + 20)) in
    omega (
      arith,
      element_short p,
      element_short s,
      element_short l,
      picture_short i,
      length-append (element_text p) (element_text s ++ (element_text l ++ [])),
      length-append (element_text s) (element_text l ++ []),
      length-append (element_text l) [],
    )

pub pictures_short : (first count : ℕ) → length (pictures_text first count) ≤ 107 * count
unfolding pictures_text
pictures_short first zero = omega arith
pictures_short first (suc count) = omega (
  arith,
  ap length (blocks_append (blocks first) (flat_map blocks (range_with_len (first + 1) count))),
  length-append (blocks_text (blocks first)) (blocks_text (flat_map blocks (range_with_len (first + 1) count))),
  blocks_short first,
  pictures_short (first + 1) count,
)

pub whole_short : (k : ℕ) → length (whole_text k) < 2 ^ 48
whole_short k = let few = pictures_short (12 * k) 12 in omega arith

pub rest_short : (first count : ℕ) → count < 2 ^ 32 → length (pictures_text first count) < 2 ^ 48
rest_short first count lt = let few = pictures_short first count in omega arith

-- ---- the blocks of a Cluster

pub whole_is : (n k : ℕ) → 12 ≤ n - 12 * k → blocks_text (cluster_at n (12 * k)).blocks ≡ whole_text k
unfolding pictures_text
whole_is n k ge = let count : min 12 (n - 12 * k) ≡ 12 = omega arith in rw count refl

pub rest_is : (n k : ℕ) → n - 12 * k ≤ 12 → blocks_text (cluster_at n (12 * k)).blocks ≡ pictures_text (12 * k) (n - 12 * k)
unfolding pictures_text
rest_is n k le = let count : min 12 (n - 12 * k) ≡ n - 12 * k = omega arith in rw count refl
