-- Clusters of a written film (RFC 9559, sections 5.1.3 and 10.2), and the packets that they stand for.
use Rattle.std.specs.Prelude.{ℕ, ◌+◌, ◌^◌, ◌<◌, ◌≤◌, Bool, IsTrue, List, [], ◌∷◌, ◌++◌, length, map, FitsSigned, ℤ, pos, ◌+ℤ◌, ◌*ℤ◌}
use Rattle.std.specs.Int.{w16}
use Rattle.std.specs.List.{AllByRecursion}
use Rattle.mc_packet.specs.declared.packet.Packet.{Packet}
use Rattle.mc_ebml.specs.declared.read.Size.TheVariants.{Known}
use Rattle.mc_ebml.specs.Ids.{CLUSTER, TIMESTAMP, SIMPLE_BLOCK}
use Rattle.mc_ebml.specs.Written.{coded_width, head_octets}
use Rattle.mc_block.specs.Block.{in_range}
use Rattle.mc_block.specs.Written.{plain_block}
use Rattle.mc_tracks.specs.declared.track.Track.{Track}
use Rattle.mc_tracks.specs.TrackList.{is_known}
use Rattle.mc_written.specs.Elements.{Element, element_text, elements, number}

-- ---- what is written

-- an unlaced block, with its time in units of the film's scale, relative to its Cluster's
pub record Block : Type 0 where
  pub track : ℕ
  pub relative : ℤ
  pub key : Bool
  pub body : List ℕ

-- its time in units of the film's scale, and its blocks
pub record Cluster : Type 0 where
  pub time : ℕ
  pub blocks : List Block

abbrev pub block_octets : Block → List ℕ
block_octets b = plain_block b.track b.relative b.key b.body

-- a block is a SimpleBlock
abbrev pub block : Block → Element
block b = (SIMPLE_BLOCK, block_octets b)

abbrev pub blocks_text : List Block → List ℕ
blocks_text bs = elements (map block bs)

-- a Cluster's Timestamp, and its blocks behind it
abbrev pub cluster_body : Cluster → List ℕ
cluster_body c = element_text (number TIMESTAMP c.time) ++ blocks_text c.blocks

abbrev pub cluster : Cluster → Element
cluster c = (CLUSTER, cluster_body c)

abbrev pub clusters_text : List Cluster → List ℕ
clusters_text cs = elements (map cluster cs)

-- ---- its packets

-- in nanoseconds
abbrev pub block_time : ℕ → ℕ → Block → ℤ
block_time scale time b = (pos time +ℤ b.relative) *ℤ pos scale

-- the packet of a block whose element stands at a place, in a Cluster of this time
abbrev pub packet_at : ℕ → ℕ → ℕ → Block → Packet
packet_at scale time at b = record {
  track = b.track;
  pos = record { block = at; lane = 0 };
  time = block_time scale time b;
  sync = b.key;
  key = b.key;
  body = b.body;
}

abbrev pub packets_at : ℕ → ℕ → ℕ → List Block → List Packet
packets_at scale time at [] = []
packets_at scale time at (b ∷ bs) = packet_at scale time at b ∷ packets_at scale time (at + length (element_text (block b))) bs

-- where the blocks of a Cluster at a place begin, behind its head and its Timestamp
abbrev pub blocks_begin : ℕ → Cluster → ℕ
blocks_begin at c = at + length (head_octets CLUSTER (Known (length (cluster_body c)))) + length (element_text (number TIMESTAMP c.time))

-- the packets of Clusters that begin at a place
abbrev pub clusters_packets : ℕ → ℕ → List Cluster → List Packet
clusters_packets scale at [] = []
clusters_packets scale at (c ∷ cs) =
    packets_at scale c.time (blocks_begin at c) c.blocks ++ clusters_packets scale (at + length (element_text (cluster c))) cs

-- ---- what can be read back

-- a block of a known track, which is with its number, its time and its flags no larger than a film's blocks may be, and whose
-- time is in range
pub record CanBeRead (tracks : List Track) (scale time : ℕ) (b : Block) : Type 0 where
  pub known : IsTrue (is_known tracks b.track)
  pub narrow : b.track < 2 ^ 56
  pub relative : FitsSigned w16 b.relative
  pub size : coded_width b.track + 3 + length b.body ≤ 67108864
  pub near : IsTrue (in_range (block_time scale time b))

-- a Cluster of at most 65,536 such blocks, so that its size can be written
pub record CanBeEntered (tracks : List Track) (scale : ℕ) (c : Cluster) : Type 0 where
  pub time : c.time < 2 ^ 64
  pub few : length c.blocks ≤ 65536
  pub blocks : AllByRecursion (CanBeRead tracks scale c.time) c.blocks
