-- Packets as they are written: in units of which scale, in which Clusters, and in which of them each stands.
use Rattle.std.specs.Prelude.{◌≡◌, ℕ, zero, suc, ◌*◌, ◌^◌, ◌<◌, ◌≤◌, Bool, ◌&&◌, if◌then◌else◌, List, [], ◌∷◌, length, map, take, drop, find, option_map, Option, IsTrue, ℤ, pos, negsuc, neg_ℤ, ◌-ℤ◌, int_le, int_lt}
use Rattle.std.specs.Int.RustNames.{int_div, int_rem}
use Rattle.std.specs.List.{prefix_len, list_all}
use Rattle.std.specs.Ordering.{int_eq}
use Rattle.mc_packet.specs.declared.packet.Packet.{Packet}
use Rattle.mc_packet.specs.declared.packet.Pos.{Pos}
use Rattle.mc_written.specs.Clusters.{Block, Cluster}

-- ---- the scale

abbrev pub is_multiple : ℕ → Packet → Bool
is_multiple g p = int_eq (int_rem p.time (pos g)) (pos 0)

-- the scale that is handed in where it divides every time, else a nanosecond
abbrev pub scale_for : ℕ → List Packet → ℕ
scale_for scale ps = if list_all (is_multiple scale) ps then scale else 1

-- a time in whole units, rounded toward 0
abbrev pub units : ℕ → Packet → ℤ
units g p = int_div p.time (pos g)

-- ---- what cannot be written

-- earlier than any block, since a Cluster's time is not negative, and a block's is at most 32,768 units before it
abbrev pub is_low : ℕ → Packet → Bool
is_low g p = int_lt p.time (neg_ℤ (pos (32768 * g)))

-- the place of the first packet that is
abbrev pub first_low : ℕ → List Packet → Option Pos
first_low g ps = option_map (λ (p : Packet). p.pos) (find (is_low g) ps)

-- ---- Clusters

abbrev pub not_negative : ℤ → ℕ
not_negative (pos n) = n
not_negative (negsuc n) = 0

-- what a block's two octets can say of a time in a Cluster
abbrev pub fits_in : ℕ → ℤ → Bool
fits_in time u = int_le (neg_ℤ (pos 32768)) (u -ℤ pos time) && int_le (u -ℤ pos time) (pos 32767)

abbrev pub block_with : ℕ → ℕ → Packet → Block
block_with g time p = record { track = p.track; relative = units g p -ℤ pos time; key = p.key; body = p.body }

abbrev pub blocks_with : ℕ → ℕ → List Packet → List Block
blocks_with g time ps = map (block_with g time) ps

-- how many of these packets a Cluster of that time takes: at most 1,024, up to the first whose time it cannot say
abbrev pub cluster_len : ℕ → ℕ → List Packet → ℕ
cluster_len g time ps = prefix_len (λ (p : Packet). fits_in time (units g p)) (take 1024 ps)

abbrev pub cluster_with : ℕ → ℕ → List Packet → Cluster
cluster_with g time ps = record { time = time; blocks = blocks_with g time (take (cluster_len g time ps) ps) }

-- the time of the Cluster that begins with a packet
abbrev pub begin_with : ℕ → Packet → ℕ
begin_with g p = not_negative (units g p)

-- the Clusters of packets, at most so many
unfoldable pub clusters_from : ℕ → ℕ → List Packet → List Cluster
clusters_from zero g ps = []
clusters_from (suc n) g [] = []
clusters_from (suc n) g (p ∷ ps) =
    cluster_with g (begin_with g p) (p ∷ ps) ∷ clusters_from n g (drop (cluster_len g (begin_with g p) (p ∷ ps)) (p ∷ ps))

-- each takes a packet at least
abbrev pub clusters_of : ℕ → List Packet → List Cluster
clusters_of g ps = clusters_from (length ps) g ps

-- ---- what a block asks of a packet

-- a number that can be coded, and a payload that a film's block may have
pub record CanBeBlock (p : Packet) : Type 0 where
  pub narrow : p.track < 2 ^ 56
  pub short : length p.body ≤ 67108864

-- and a time that a Cluster can say
pub record CanBeLaid (g time : ℕ) (p : Packet) : Type 0 where
  pub block : CanBeBlock p
  pub fits : IsTrue (fits_in time (units g p))
