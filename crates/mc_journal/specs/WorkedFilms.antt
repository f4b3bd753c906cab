-- Two films of one-octet frames, whose journals are worked out by hand in specs/Rows: their packets, parts and marks.
use Rattle.std.specs.Prelude.{ℕ, ◌==◌, nat_lt, nat_le, Bool, true, false, if◌then◌else◌, List, [], ◌∷◌, Some, None, pos}
use Rattle.mc_packet.specs.declared.choice.Kind.{Kind}
use Rattle.mc_packet.specs.declared.choice.Kind.TheVariants.{Video, Audio, Sub}
use Rattle.mc_packet.specs.declared.walk.Ending.TheVariants.{Clean}
use Rattle.mc_packet.specs.declared.walk.Level.TheVariants as levels
use Rattle.mc_packet.specs.declared.walk.Mark.{Mark}
use Rattle.mc_packet.specs.declared.packet.Packet.{Packet}
use Rattle.mc_journal.specs.Films.{Film, Part}

-- a frame of one octet: its track, block, time in nanoseconds, payload and mark
abbrev pub packet : ℕ → ℕ → ℕ → ℕ → Bool → Packet
packet track block time octet sync =
    record { track = track; pos = record { block = block; lane = 0 }; time = pos time; body = octet ∷ []; sync = sync; key = sync }

abbrev pub opening : Mark
opening = record { pos = 0; level = levels.Segment }

-- a mark in a Cluster of this time and end
abbrev pub in_cluster : ℕ → ℕ → ℕ → Mark
in_cluster time end n = record { pos = n; level = levels.Cluster (Some time) (Some end) }

-- a block: its place, and the mark just past it
pub record Block : Type 0 where
  pub place : ℕ
  pub past : Mark

-- the part from a mark runs to just past the next block, or to the end
abbrev pub part_by : List Block → Mark → Part
part_by [] m = record { to = m; ending = Some Clean }
part_by (b ∷ bs) m = if nat_le m.pos b.place then record { to = b.past; ending = None } else part_by bs m

-- ---- the first film: three Clusters, at 78, 135 and 192; a video track with keyframes at 0, 120 and 240 ms, and an audio
-- track every 30 ms

abbrev pub v86 : Packet
v86 = packet 1 86 0 16 true

abbrev pub a93 : Packet
a93 = packet 2 93 0 32 true

abbrev pub a100 : Packet
a100 = packet 2 100 30000000 33 true

abbrev pub v107 : Packet
v107 = packet 1 107 40000000 17 false

abbrev pub a114 : Packet
a114 = packet 2 114 60000000 34 true

abbrev pub v121 : Packet
v121 = packet 1 121 80000000 18 false

abbrev pub a128 : Packet
a128 = packet 2 128 90000000 35 true

abbrev pub v143 : Packet
v143 = packet 1 143 120000000 19 true

abbrev pub a150 : Packet
a150 = packet 2 150 120000000 36 true

abbrev pub a157 : Packet
a157 = packet 2 157 150000000 37 true

abbrev pub v164 : Packet
v164 = packet 1 164 160000000 20 false

abbrev pub a171 : Packet
a171 = packet 2 171 180000000 38 true

abbrev pub v178 : Packet
v178 = packet 1 178 200000000 21 false

abbrev pub a185 : Packet
a185 = packet 2 185 210000000 39 true

abbrev pub v200 : Packet
v200 = packet 1 200 240000000 22 true

abbrev pub a207 : Packet
a207 = packet 2 207 240000000 40 true

abbrev pub a214 : Packet
a214 = packet 2 214 270000000 41 true

abbrev pub v221 : Packet
v221 = packet 1 221 280000000 23 false

abbrev pub one_packets : List Packet
one_packets =
    v86 ∷ a93 ∷ a100 ∷ v107 ∷ a114 ∷ v121 ∷ a128
    ∷ v143 ∷ a150 ∷ a157 ∷ v164 ∷ a171 ∷ v178 ∷ a185
    ∷ v200 ∷ a207 ∷ a214 ∷ v221 ∷ []

abbrev pub c0 : ℕ → Mark
c0 n = in_cluster 0 135 n

abbrev pub c1 : ℕ → Mark
c1 n = in_cluster 120 192 n

abbrev pub c2 : ℕ → Mark
c2 n = in_cluster 240 228 n

abbrev pub block : ℕ → Mark → Block
block place past = record { place = place; past = past }

abbrev pub one_blocks : List Block
one_blocks =
    block 86 (c0 93) ∷ block 93 (c0 100) ∷ block 100 (c0 107) ∷ block 107 (c0 114)
    ∷ block 114 (c0 121) ∷ block 121 (c0 128) ∷ block 128 (c0 135) ∷ block 143 (c1 150)
    ∷ block 150 (c1 157) ∷ block 157 (c1 164) ∷ block 164 (c1 171) ∷ block 171 (c1 178)
    ∷ block 178 (c1 185) ∷ block 185 (c1 192) ∷ block 200 (c2 207) ∷ block 207 (c2 214)
    ∷ block 214 (c2 221) ∷ block 221 (c2 228) ∷ []

abbrev pub one_mark : ℕ → Mark
one_mark n = if n == 0 then opening else (if nat_lt n 135 then c0 n else (if nat_lt n 192 then c1 n else c2 n))

abbrev pub one_known : Kind → ℕ → Bool
one_known Video track = track == 1
one_known Audio track = track == 2
one_known Sub track = false

abbrev pub one : Film
one = record { packets = one_packets; ending = Clean; known = one_known; part = part_by one_blocks; mark_at = one_mark }

-- ---- the second film: one Cluster, at 98; a video track with keyframes at 0 and 160 ms, and two audio tracks

abbrev pub v106 : Packet
v106 = packet 1 106 0 16 true

abbrev pub a113 : Packet
a113 = packet 2 113 0 32 true

abbrev pub b120 : Packet
b120 = packet 3 120 0 48 true

abbrev pub a127 : Packet
a127 = packet 2 127 60000000 33 true

abbrev pub v134 : Packet
v134 = packet 1 134 80000000 17 false

abbrev pub b141 : Packet
b141 = packet 3 141 100000000 49 true

abbrev pub a148 : Packet
a148 = packet 2 148 120000000 34 true

abbrev pub v155 : Packet
v155 = packet 1 155 160000000 18 true

abbrev pub a162 : Packet
a162 = packet 2 162 180000000 35 true

abbrev pub b169 : Packet
b169 = packet 3 169 200000000 50 true

abbrev pub two_packets : List Packet
two_packets = v106 ∷ a113 ∷ b120 ∷ a127 ∷ v134 ∷ b141 ∷ a148 ∷ v155 ∷ a162 ∷ b169 ∷ []

abbrev pub d0 : ℕ → Mark
d0 n = in_cluster 0 176 n

abbrev pub two_blocks : List Block
two_blocks =
    block 106 (d0 113) ∷ block 113 (d0 120) ∷ block 120 (d0 127) ∷ block 127 (d0 134)
    ∷ block 134 (d0 141) ∷ block 141 (d0 148) ∷ block 148 (d0 155) ∷ block 155 (d0 162)
    ∷ block 162 (d0 169) ∷ block 169 (d0 176) ∷ []

abbrev pub two_mark : ℕ → Mark
two_mark n = if n == 0 then opening else d0 n

abbrev pub is_either : ℕ → ℕ → ℕ → Bool
is_either a b n = if n == a then true else n == b

abbrev pub two_known : Kind → ℕ → Bool
two_known Video track = track == 1
two_known Audio track = is_either 2 3 track
two_known Sub track = false

abbrev pub two : Film
two = record { packets = two_packets; ending = Clean; known = two_known; part = part_by two_blocks; mark_at = two_mark }
