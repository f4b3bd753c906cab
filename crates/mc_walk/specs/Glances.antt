-- What the first octets of a block tell of its packets.
use Rattle.std.specs.Prelude.{◌≡◌, ℕ, zero, suc, ◌+◌, Bool, true, false, not, ◌&&◌, if◌then◌else◌, List, [], ◌∷◌, drop, slice_range, Option, Some, None, option_map, Result, Ok, Err, ℤ, ⊤, ◌<◌}
use Rattle.mc_packet.specs.declared.packet.Packet.{Packet}
use Rattle.mc_packet.specs.declared.walk.Fault.{Fault}
use Rattle.mc_packet.specs.declared.walk.Fault.TheVariants as faults
use Rattle.mc_block.specs.declared.error.BlockError.{BlockError}
use Rattle.mc_block.specs.declared.parts.Place.{Place}
use Rattle.mc_block.specs.declared.parts.BlockHead.{BlockHead}
use Rattle.mc_block.specs.declared.parts.BlockBody.{BlockBody}
use Rattle.mc_ebml.specs.declared.whole.WholeElement.{WholeElement}
use Rattle.mc_block.specs.declared.group.GroupParts.{GroupParts}
use Rattle.mc_block.specs.declared.lace_reader.LaceReader.{LaceReader}
use Rattle.mc_block.specs.Block.{track_of, head_of, frame_time, in_range, time_of, is_key, packets_behind}
use Rattle.mc_block.specs.Frames.{is_laced}
use Rattle.mc_block.specs.Fronts.{is_good}
use Rattle.mc_tracks.specs.declared.track.Track.{Track}
use Rattle.mc_walk.specs.declared.front.BlockMark.{BlockMark}
use Rattle.mc_walk.specs.declared.front.LacedBlock.{LacedBlock}
use Rattle.mc_walk.specs.declared.front.Glance.{Glance}
use Rattle.mc_walk.specs.declared.front.Glance.TheVariants as glances
use Rattle.mc_walk.specs.Blocks.{faulted, known_track, opened}

-- a packet in short
abbrev pub block_mark : Packet → BlockMark
block_mark p = record { track = p.track; pos = p.pos.block; time = p.time; key = p.key }

-- the first packet of a block element in short
abbrev pub first_mark : List Packet → Option BlockMark
first_mark [] = None
first_mark (p ∷ ps) = Some (block_mark p)

-- the same, unless there is a fault
abbrev pub marked : Result (List Packet) Fault → Result (Option BlockMark) Fault
marked (Ok packets) = Ok (first_mark packets)
marked (Err fault) = Err fault

-- ---- the first of a block's frames

abbrev pub mark_at : Place → BlockHead → Bool → ℤ → BlockMark
mark_at place head key time = record { track = head.track; pos = place.pos; time = time; key = key }

-- whether the times of so many frames, from a lane on, lie in range
abbrev pub times_fit : Place → ℤ → ℕ → ℕ → Bool
times_fit place relative lane zero = true
times_fit place relative lane (suc n) = in_range (frame_time place relative lane) && times_fit place relative (lane + 1) n

-- the first of so many frames in short, unless the time of one is out of range
abbrev pub frames_mark : Place → BlockHead → Bool → ℕ → Result (Option BlockMark) Fault
frames_mark place head key n =
    if times_fit place head.relative 0 n then Ok (Some (mark_at place head key (frame_time place head.relative 0))) else Err faults.TimeRange

-- the first frame of a good lace, or the fault of a bad one
abbrev pub lace_mark : LacedBlock → Bool → Result (Option BlockMark) Fault
lace_mark b good = if good then frames_mark b.place b.head b.key (b.count + 1) else Err faults.BadLace

-- a mark, or the fault of a time out of range
abbrev pub or_range : Option BlockMark → Result (Option BlockMark) Fault
or_range None = Err faults.TimeRange
or_range (Some m) = Ok (Some m)

-- ---- a glance at a block's front

abbrev pub timed_frame : Place → BlockHead → Bool → Option ℤ → Glance
timed_frame place head key None = glances.Fault faults.TimeRange
timed_frame place head key (Some time) = glances.Frame (mark_at place head key time)

-- a lace begins with a count octet
abbrev pub laced_glance : Place → BlockHead → Bool → List ℕ → Glance
laced_glance place head key [] = glances.Fault faults.BadLace
laced_glance place head key (n ∷ rest) = glances.Laced (record { place = place; head = head; key = key; count = n })

abbrev pub unless_laced : Bool → Place → BlockHead → Bool → List ℕ → Glance
unless_laced true place head key front = laced_glance place head key (drop head.at front)
unless_laced false place head key front = timed_frame place head key (time_of place head.relative 0)

-- by the block's head
abbrev pub headed_glance : Place → Option Bool → List ℕ → Result BlockHead BlockError → Glance
headed_glance place keyframe front (Err e) = glances.Fault faults.ShortBlock
headed_glance place keyframe front (Ok head) = unless_laced (is_laced head.flags) place head (is_key keyframe head.flags) front

abbrev pub timed_glance : ℕ → ℕ → Option ℕ → Option Bool → List ℕ → Option ℕ → Glance
timed_glance place scale None keyframe front duration = glances.Fault faults.NoTime
timed_glance place scale (Some time) keyframe front duration =
    headed_glance (record { pos = place; cluster_time = time; scale = scale; duration = duration }) keyframe front (head_of front)

-- a block of a track that is not known is passed over
abbrev pub tracked_glance : ℕ → ℕ → Option ℕ → Option Bool → List ℕ → Option Track → Glance
tracked_glance place scale time keyframe front None = glances.Skipped
tracked_glance place scale time keyframe front (Some t) = timed_glance place scale time keyframe front t.duration

abbrev pub numbered_glance : List Track → ℕ → ℕ → Option ℕ → Option Bool → List ℕ → Result ℕ BlockError → Glance
numbered_glance tracks place scale time keyframe front (Err e) = glances.Fault faults.ShortBlock
numbered_glance tracks place scale time keyframe front (Ok n) = tracked_glance place scale time keyframe front (known_track tracks n)

-- the first octets of a block of the element at a place, in a Cluster of this time
abbrev pub glance_of : List Track → ℕ → ℕ → Option ℕ → Option Bool → List ℕ → Glance
glance_of tracks scale place time keyframe front = numbered_glance tracks place scale time keyframe front (track_of front)

-- ---- what that tells

-- a block with a lace, whose octets these are, and the first of its packets in short
pub record IsLace (b : LacedBlock) (octets : List ℕ) (first : Result (Option BlockMark) Fault) : Type 0 where
  pub laced : is_laced b.head.flags ≡ true
  pub counted : drop b.head.at octets ≡ b.count ∷ drop (b.head.at + 1) octets
  pub same : first ≡ marked (faulted (packets_behind b.place b.head b.key (drop b.head.at octets)))

-- what a glance tells of the first of a block's packets
abbrev pub Tells : List ℕ → Glance → Result (Option BlockMark) Fault → Type 0
Tells octets glances.Skipped first = first ≡ Ok None
Tells octets (glances.Fault fault) first = first ≡ Err fault
Tells octets (glances.Frame mark) first = first ≡ Ok (Some mark)
Tells octets (glances.Laced b) first = IsLace b octets first

-- a lace's count octet is one of so many
abbrev pub CountsIn : ℕ → Glance → Type 0
CountsIn len glances.Skipped = ⊤
CountsIn len (glances.Fault fault) = ⊤
CountsIn len (glances.Frame mark) = ⊤
CountsIn len (glances.Laced b) = b.head.at < len

-- what the reader of a lace's sizes tells, before any is read
abbrev pub LaceTells : LacedBlock → List ℕ → Result (Option BlockMark) Fault → Option LaceReader → Type 0
LaceTells b octets first None = first ≡ Err faults.BadLace
LaceTells b octets first (Some lace) = first ≡ lace_mark b (is_good lace (drop (b.head.at + 1) octets))

-- ---- groups

-- the Block that was found in a group's body
abbrev pub block_with : List ℕ → Bool → WholeElement → BlockBody
block_with body refers c = record { octets = slice_range body c.at c.stop; keyframe = Some (not refers) }

-- the packets of a group with that body, by what its children tell
abbrev pub opened_among : List Track → ℕ → ℕ → Option ℕ → List ℕ → Option GroupParts → Result (List Packet) Fault
opened_among tracks place scale time body None = Err faults.BadGroup
opened_among tracks place scale time body (Some found) = opened tracks place scale time (option_map (block_with body found.refers) found.block)
