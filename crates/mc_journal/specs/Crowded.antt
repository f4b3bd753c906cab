-- A film with many keyframes, and a journal over it by whose seeks an eleventh range comes to stand, worked out by hand.
use Rattle.std.specs.Prelude.{ℕ, ◌==◌, Bool, false, if◌then◌else◌, List, [], ◌∷◌, ◌++◌, Some, None, pos, true}
use Rattle.mc_packet.specs.declared.choice.Choice.{Choice}
use Rattle.mc_packet.specs.declared.choice.Dir.TheVariants.{Back}
use Rattle.mc_packet.specs.declared.choice.Kind.{Kind}
use Rattle.mc_packet.specs.declared.choice.Kind.TheVariants.{Video, Audio, Sub}
use Rattle.mc_packet.specs.declared.walk.Ending.TheVariants.{Clean}
use Rattle.mc_packet.specs.declared.walk.Mark.{Mark}
use Rattle.mc_journal.specs.declared.record.Cause.TheVariants.{TooMany}
use Rattle.mc_journal.specs.declared.record.Sought.TheVariants.{Sent}
use Rattle.mc_journal.specs.declared.record.DemuxRecord.{DemuxRecord}
use Rattle.mc_journal.specs.declared.record.DemuxRecord.TheVariants.{Opened, Sought, Dropped}
use Rattle.mc_packet.specs.declared.packet.Packet.{Packet}
use Rattle.mc_journal.specs.Films.{Film}
use Rattle.mc_journal.specs.WorkedFilms.{Block, block, in_cluster, opening, packet, part_by}
use Rattle.mc_journal.specs.Worked.{found, place, read, tracks}
use Rattle.mc_journal.specs.Used.{onto}

-- ---- the film: one Cluster; an audio track with a keyframe every 10 ms, each in a block of 7 octets, from 100 on

abbrev pub m : ℕ → Mark
m n = in_cluster 0 254 n

abbrev pub many_packets : List Packet
many_packets =
    packet 1 100 0 16 true ∷ packet 1 107 10000000 17 true ∷ packet 1 114 20000000 18 true ∷ packet 1 121 30000000 19 true
    ∷ packet 1 128 40000000 20 true ∷ packet 1 135 50000000 21 true ∷ packet 1 142 60000000 22 true ∷ packet 1 149 70000000 23 true
    ∷ packet 1 156 80000000 24 true ∷ packet 1 163 90000000 25 true ∷ packet 1 170 100000000 26 true ∷ packet 1 177 110000000 27 true
    ∷ packet 1 184 120000000 28 true ∷ packet 1 191 130000000 29 true ∷ packet 1 198 140000000 30 true ∷ packet 1 205 150000000 31 true
    ∷ packet 1 212 160000000 32 true ∷ packet 1 219 170000000 33 true ∷ packet 1 226 180000000 34 true ∷ packet 1 233 190000000 35 true
    ∷ packet 1 240 200000000 36 true ∷ packet 1 247 210000000 37 true ∷ []

abbrev pub many_blocks : List Block
many_blocks =
    block 100 (m 107) ∷ block 107 (m 114) ∷ block 114 (m 121) ∷ block 121 (m 128)
    ∷ block 128 (m 135) ∷ block 135 (m 142) ∷ block 142 (m 149) ∷ block 149 (m 156)
    ∷ block 156 (m 163) ∷ block 163 (m 170) ∷ block 170 (m 177) ∷ block 177 (m 184)
    ∷ block 184 (m 191) ∷ block 191 (m 198) ∷ block 198 (m 205) ∷ block 205 (m 212)
    ∷ block 212 (m 219) ∷ block 219 (m 226) ∷ block 226 (m 233) ∷ block 233 (m 240)
    ∷ block 240 (m 247) ∷ block 247 (m 254) ∷ []

abbrev pub many_known : Kind → ℕ → Bool
many_known Video track = false
many_known Audio track = track == 1
many_known Sub track = false

abbrev pub many : Film
many = record { packets = many_packets; ending = Clean; known = many_known; part = part_by many_blocks; mark_at = λ n. if n == 0 then opening else m n }

-- ---- ten seeks, each to a keyframe that isn't cached, behind each of which one part is read; then an eleventh

abbrev pub alone : Choice
alone = tracks None (Some 1)

abbrev pub begun : List DemuxRecord
begun = Opened 0 alone ∷ []

-- a seek to a time that starts at a block
abbrev pub seek_to : ℕ → ℕ → List DemuxRecord
seek_to t at = Sought 0 alone (pos t) Back Sent ∷ found None (Some at) (m at) ∷ []

abbrev pub seek_and_read : ℕ → ℕ → ℕ → List DemuxRecord
seek_and_read t at past = seek_to t at ++ read (m at) (m past) 1 ∷ []

abbrev pub five_ranges : List DemuxRecord
five_ranges =
    seek_and_read 0 100 107
    ++ seek_and_read 20000000 114 121
    ++ seek_and_read 40000000 128 135
    ++ seek_and_read 60000000 142 149
    ++ seek_and_read 80000000 156 163

abbrev pub ten_ranges : List DemuxRecord
ten_ranges =
    seek_and_read 100000000 170 177
    ++ seek_and_read 120000000 184 191
    ++ seek_and_read 140000000 198 205
    ++ seek_and_read 160000000 212 219
    ++ seek_and_read 180000000 226 233

abbrev pub drops_part : ℕ → ℕ → DemuxRecord
drops_part from to = Dropped 5 (record { track = 1; from = place from 0; to = place to 0; cause = TooMany 11 })

-- the range that was used longest ago goes, which is the first
abbrev pub eleventh : List DemuxRecord
eleventh = seek_to 200000000 240 ++ drops_part 100 107 ∷ []

abbrev pub crowded : List DemuxRecord
crowded = onto eleventh (onto ten_ranges (onto five_ranges begun))

-- and not the newest one
abbrev pub newest_dropped : List DemuxRecord
newest_dropped = drops_part 226 233 ∷ onto (seek_to 200000000 240) (onto ten_ranges (onto five_ranges begun))
