-- How long elements, blocks and Clusters are.
use Rattle.std.proofs.Common.{◌≡◌, ℕ, ◌+◌, ◌-◌, ◌*◌, ◌<◌, ◌≤◌, ◌^◌, List, [], ◌∷◌, length, map, arith, length-append}
use Rattle.std.proofs.lemmas.Bool.Decides.{nat_tests}
use Rattle.std.specs.Int.{byte_at, cast_unsigned, w16}
use Rattle.std.specs.List.{AllByRecursion}
use Rattle.byteorder.specs.Endian.{big_bytes}
use Rattle.byteorder.specs.Numbers.{length-bytes_high_first}
use Rattle.mc_ebml.specs.declared.read.Size.TheVariants.{Known}
use Rattle.mc_ebml.specs.Ids.{TIMESTAMP}
use Rattle.mc_ebml.specs.Written.{octets_of, coded_octets, coded_width, head_octets, size_octets, element_octets}
use Rattle.mc_block.specs.Written.{key_flags}
use Rattle.mc_tracks.specs.declared.track.Track.{Track}
use Rattle.mc_written.specs.Elements.{Element, element_text, elements, number}
use Rattle.mc_written.specs.Clusters.{Block, Cluster, block, block_octets, blocks_text, cluster_body, CanBeRead, CanBeEntered}
use Rattle.mc_written.proofs.Standing.{head_long}

octets_few : (n : ℕ) → octets_of n ≤ 8
octets_few n = grind (arith, nat_tests)

coded_few : (n : ℕ) → coded_width n ≤ 8
coded_few n = grind (arith, nat_tests)

head_short : (id n : ℕ) → length (head_octets id (Known n)) ≤ 16
unfolding head_octets
head_short id n = omega (
  arith,
  length-append (big_bytes (octets_of id) id) (size_octets (Known n)),
  length-bytes_high_first (octets_of id) id,
  length-bytes_high_first (coded_width (n + 1)) (2 ^ (7 * coded_width (n + 1)) + n),
  octets_few id,
  coded_few (n + 1),
)

-- an element takes an octet at least
pub element_long : (e : Element) → 0 < length (element_text e)
unfolding element_octets
element_long e = omega (arith, length-append (head_octets e.0 (Known (length e.1))) e.1, head_long e.0 (Known (length e.1)))

pub one_more : (e : Element) (es : List Element) → length (elements (e ∷ es)) ≤ 16 + length e.1 + length (elements es)
unfolding element_octets
one_more e es = omega (arith, length-append (element_text e) (elements es), length-append (head_octets e.0 (Known (length e.1))) e.1, head_short e.0 (length e.1))

pub number_small : (n : ℕ) → length (big_bytes (octets_of n) n) ≤ 8
number_small n = rw (length-bytes_high_first (octets_of n) n) (octets_few n)

-- ---- a block, and a Cluster

length-coded : (n : ℕ) → length (coded_octets n) ≡ coded_width n
unfolding coded_octets
length-coded n = length-bytes_high_first (coded_width n) (2 ^ (7 * coded_width n) + n)

length-block : (b : Block) → length (block_octets b) ≡ coded_width b.track + 3 + length b.body
length-block b =
    let u : ℕ = cast_unsigned w16 b.relative in
    omega (arith, length-coded b.track, length-append (coded_octets b.track) (byte_at 1 u ∷ byte_at 0 u ∷ key_flags b.key ∷ b.body))

pub block_short : (tracks : List Track) (scale time : ℕ) (b : Block) → CanBeRead tracks scale time b → length (block_octets b) ≤ 67108864
block_short tracks scale time b can = let size = can.size in omega (arith, length-block b)

blocks_short : (tracks : List Track) (scale time : ℕ) (bs : List Block) → AllByRecursion (CanBeRead tracks scale time) bs → length (blocks_text bs) ≤ length bs * 67108880
blocks_short tracks scale time [] all = omega arith
blocks_short tracks scale time (b ∷ bs) all =
    omega (arith, one_more (block b) (map block bs), block_short tracks scale time b all.0, blocks_short tracks scale time bs all.1)

pub cluster_short : (tracks : List Track) (scale : ℕ) (c : Cluster) → CanBeEntered tracks scale c → length (cluster_body c) < 2 ^ 56 - 1
cluster_short tracks scale c can =
    let few = can.few in
    let stamp : List ℕ = element_text (number TIMESTAMP c.time) in
    omega (
      arith,
      length-append stamp (blocks_text c.blocks),
      one_more (number TIMESTAMP c.time) [],
      length-append stamp [],
      number_small c.time,
      blocks_short tracks scale c.time c.blocks can.blocks,
    )
