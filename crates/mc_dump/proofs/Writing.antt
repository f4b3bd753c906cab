-- What is written of packets is the text of their blocks and Clusters.
use Rattle.std.proofs.Common.{◌≡◌, ℕ, zero, suc, ◌+◌, ◌-◌, ◌*◌, ◌^◌, ◌<◌, ◌≤◌, All, take, drop, get_or, map, List, [], ◌∷◌, ◌++◌, length, refl, sym, subst, ap, ◌∙◌, append_assoc, length-append, length-take, arith, Bool}
use Rattle.std.proofs.lemmas.List.{append-nil, take_more, take-append-drop, map-append, get_or-take}
use Rattle.std.proofs.lemmas.List.Sums.{prefix_len-le-length, prefix_len_passes}
use Rattle.std.proofs.lemmas.Bool.Decides.{nat_tests}
use Rattle.byteorder.specs.Numbers.{length-bytes_high_first}
use Rattle.mc_packet.specs.declared.packet.Packet.{Packet}
use Rattle.mc_ebml.specs.declared.read.Size.TheVariants.{Known}
use Rattle.mc_ebml.specs.Ids.{SIMPLE_BLOCK}
use Rattle.mc_ebml.specs.Written.{coded_octets, coded_width, head_octets, element_octets}
use Rattle.mc_written.specs.Elements.{Element, element_text, elements}
use Rattle.mc_written.specs.Clusters.{Block, block, block_octets, blocks_text, cluster, clusters_text}
use Rattle.mc_dump.specs.Clustered.{block_with, blocks_with, units, fits_in, cluster_len, cluster_with, begin_with, clusters_from, CanBeBlock, CanBeLaid}

-- ---- lengths

coded_few : (n : ℕ) → coded_width n ≤ 8
coded_few n = grind (arith, nat_tests)

pub coded_short : (n : ℕ) → length (coded_octets n) ≤ 8
unfolding coded_octets
coded_short n = omega (arith, length-bytes_high_first (coded_width n) (2 ^ (7 * coded_width n) + n), coded_few n)

pub element_length : (len : ℕ) (b : Block) → len ≡ length (block_octets b) → length (head_octets SIMPLE_BLOCK (Known len)) + len ≡ length (element_text (block b))
unfolding element_octets
element_length len b is = rw is (sym (length-append (head_octets SIMPLE_BLOCK (Known (length (block_octets b)))) (block_octets b)))

-- ---- one behind the other

-- one element more at the end
elements_push : (es : List Element) (e : Element) → elements (es ++ e ∷ []) ≡ elements es ++ element_text e
elements_push [] e = append-nil (element_text e)
elements_push (d ∷ es) e = rw (elements_push es e) (sym (append_assoc (element_text d) (elements es) (element_text e)))

elements_append : (es fs : List Element) → elements (es ++ fs) ≡ elements es ++ elements fs
elements_append [] fs = refl
elements_append (e ∷ es) fs = rw (elements_append es fs) (sym (append_assoc (element_text e) (elements es) (elements fs)))

pub blocks_split : (g time i : ℕ) (ps : List Packet) → blocks_text (blocks_with g time (take i ps)) ++ blocks_text (blocks_with g time (drop i ps)) ≡ blocks_text (blocks_with g time ps)
blocks_split g time i ps =
    sym (elements_append (map block (blocks_with g time (take i ps))) (map block (blocks_with g time (drop i ps))))
    ∙ ap elements (sym (map-append block (blocks_with g time (take i ps)) (blocks_with g time (drop i ps)))
    ∙ ap (λ (x : List Block). map block x) (sym (map-append (block_with g time) (take i ps) (drop i ps)) ∙ ap (λ (x : List Packet). blocks_with g time x) (take-append-drop i ps)))

pub blocks_push : (g time i : ℕ) (ps : List Packet) (p : Packet) → i < length ps → p ≡ get_or ps i p
    → blocks_text (blocks_with g time (take (i + 1) ps)) ≡ blocks_text (blocks_with g time (take i ps)) ++ element_text (block (block_with g time p))
blocks_push g time i ps p lt is =
    let parts : take (i + 1) ps ≡ take i ps ++ p ∷ [] = take_more ps i p lt ∙ ap (λ (q : Packet). take i ps ++ q ∷ []) (sym is) in
    rw (parts, map-append (block_with g time) (take i ps) (p ∷ []), map-append block (blocks_with g time (take i ps)) (block_with g time p ∷ []))
    (elements_push (map block (blocks_with g time (take i ps))) (block (block_with g time p)))

-- the blocks of packets are those of the first ones, that of the next, and those behind it
pub blocks_parted : (g time i : ℕ) (ps : List Packet) (p : Packet) → i < length ps → p ≡ get_or ps i p
    → (blocks_text (blocks_with g time (take i ps)) ++ element_text (block (block_with g time p))) ++ blocks_text (blocks_with g time (drop (i + 1) ps))
    ≡ blocks_text (blocks_with g time ps)
blocks_parted g time i ps p lt is =
    ap (λ (x : List ℕ). x ++ blocks_text (blocks_with g time (drop (i + 1) ps))) (sym (blocks_push g time i ps p lt is))
    ∙ blocks_split g time (i + 1) ps

-- what a Cluster takes fits in it
pub are_laid : (g time : ℕ) (ps : List Packet) → All CanBeBlock ps → All (CanBeLaid g time) (take (cluster_len g time ps) ps)
are_laid g time ps blocks k d lt =
    let q : Packet → Bool = λ p. fits_in time (units g p) in
    let n : ℕ = cluster_len g time ps in
    let few : n ≤ length (take 1024 ps) = prefix_len-le-length q (take 1024 ps) in
    let in_n : k < n = omega (arith, length-take n ps) in
    let in_all : k < length ps = omega (arith, length-take n ps) in
    let same : get_or (take n ps) k d ≡ get_or ps k d = get_or-take n ps k d in_n in
    let same' : get_or (take 1024 ps) k d ≡ get_or ps k d = get_or-take 1024 ps k d (omega (arith, length-take 1024 ps)) in
    let passes = rw same' at (prefix_len_passes q (take 1024 ps) k d in_n) in
    rw same (record { block = blocks k d in_all; fits = passes })

-- ---- the Clusters, one behind the other

pub begins : (n g : ℕ) (ps : List Packet) → clusters_from (n - 0) g ps ≡ clusters_from n g ps
begins n g ps = let same : n - 0 ≡ n = omega arith in rw same refl

pub ends : (n g : ℕ) (ps : List Packet) (done total : List ℕ) → length ps ≡ 0 → done ++ clusters_text (clusters_from n g ps) ≡ total → done ≡ total
unfolding clusters_from
ends zero g ps done total none so_far = sym (append-nil done) ∙ so_far
ends (suc n) g [] done total none so_far = sym (append-nil done) ∙ so_far
ends (suc n) g (p ∷ ps) done total none so_far = absurd (omega arith)

pub is_done : (n i g : ℕ) (ps : List Packet) (done total : List ℕ) → n ≤ i → done ++ clusters_text (clusters_from (n - i) g ps) ≡ total → done ≡ total
unfolding clusters_from
is_done n i g ps done total le so_far =
    let none : n - i ≡ 0 = omega arith in
    sym (append-nil done) ∙ rw none at so_far

one_more_cluster : (m g : ℕ) (ps : List Packet) (p : Packet) → 0 < length ps → p ≡ get_or ps 0 p
    → clusters_text (clusters_from (suc m) g ps)
    ≡ element_text (cluster (cluster_with g (begin_with g p) ps)) ++ clusters_text (clusters_from m g (drop (cluster_len g (begin_with g p) ps) ps))
unfolding clusters_from
one_more_cluster m g [] p some is = absurd (omega arith)
one_more_cluster m g (q ∷ qs) p some is =
    subst (λ (x : Packet). clusters_text (clusters_from (suc m) g (q ∷ qs))
    ≡ element_text (cluster (cluster_with g (begin_with g x) (q ∷ qs))) ++ clusters_text (clusters_from m g (drop (cluster_len g (begin_with g x) (q ∷ qs)) (q ∷ qs)))) (sym is) refl

-- the next Cluster, and those behind it
pub goes_on : (n i g : ℕ) (ps : List Packet) (p : Packet) (done total : List ℕ) → i < n → 0 < length ps → p ≡ get_or ps 0 p
    → done ++ clusters_text (clusters_from (n - i) g ps) ≡ total
    → (done ++ element_text (cluster (cluster_with g (begin_with g p) ps))) ++ clusters_text (clusters_from (n - (i + 1)) g (drop (cluster_len g (begin_with g p) ps) ps)) ≡ total
goes_on n i g ps p done total lt some is so_far =
    let k : n - i ≡ suc (n - (i + 1)) = omega arith in
    let mine : List ℕ = element_text (cluster (cluster_with g (begin_with g p) ps)) in
    let rest : List ℕ = clusters_text (clusters_from (n - (i + 1)) g (drop (cluster_len g (begin_with g p) ps) ps)) in
    append_assoc done mine rest
    ∙ ap (λ (x : List ℕ). done ++ x) (sym (one_more_cluster (n - (i + 1)) g ps p some is))
    ∙ ap (λ (m : ℕ). done ++ clusters_text (clusters_from m g ps)) (sym k) ∙ so_far

-- the head of a Cluster and its blocks
pub cluster_parted : (g time : ℕ) (ps mine : List Packet) (head : List ℕ) → mine ≡ take (cluster_len g time ps) ps
    → head ++ blocks_text (blocks_with g time mine) ≡ element_text (cluster (record { time = time; blocks = blocks_with g time mine }))
    → head ++ blocks_text (blocks_with g time mine) ≡ element_text (cluster (cluster_with g time ps))
cluster_parted g time ps mine head is whole =
    whole ∙ ap (λ (xs : List Packet). element_text (cluster (record { time = time; blocks = blocks_with g time xs }))) is
