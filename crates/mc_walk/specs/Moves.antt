-- What the head of an element asks of the walk, and how the walk ends at the film's or the Segment's end.
use Rattle.std.specs.Prelude.{◌≡◌, ℕ, ◌+◌, ◌<◌, ◌≤◌, Bool, true, false, ◌&&◌, ◌||◌, nat_lt, ◌==◌, if◌then◌else◌, Option, Some, None, ⊤}
use Rattle.mc_packet.specs.declared.walk.Fault.TheVariants.{NoSize, Overrun}
use Rattle.mc_packet.specs.declared.walk.Ending.{Ending}
use Rattle.mc_packet.specs.declared.walk.Ending.TheVariants.{Clean, Cut}
use Rattle.mc_packet.specs.declared.walk.Level.{Level}
use Rattle.mc_packet.specs.declared.walk.Level.TheVariants as levels
use Rattle.mc_ebml.specs.declared.read.Size.{Size}
use Rattle.mc_ebml.specs.declared.read.Size.TheVariants.{Known, Unknown}
use Rattle.mc_ebml.specs.Ids.{SEEK_HEAD, INFO, TRACKS, CLUSTER, CUES, CHAPTERS, TAGS, ATTACHMENTS, TIMESTAMP, SIMPLE_BLOCK, BLOCK_GROUP}
use Rattle.mc_walk.specs.declared.movement.Role.{Role}
use Rattle.mc_walk.specs.declared.movement.Role.TheVariants as roles
use Rattle.mc_walk.specs.declared.movement.Move.{Move}
use Rattle.mc_walk.specs.declared.movement.Move.TheVariants as moves

-- a Cluster of known size is left at its end
abbrev pub settle : Level → ℕ → Level
settle levels.Segment place = levels.Segment
settle (levels.Cluster time None) place = levels.Cluster time None
settle (levels.Cluster time (Some end)) place = if end == place then levels.Segment else levels.Cluster time (Some end)

-- these elements stand in the Segment alone
abbrev pub is_segment_child : ℕ → Bool
is_segment_child id = id == CLUSTER || id == SEEK_HEAD || id == INFO || id == TRACKS || id == CUES || id == CHAPTERS || id == TAGS || id == ATTACHMENTS

-- a Cluster of unknown size ends before the next of them
abbrev pub reenter : Level → ℕ → Level
reenter levels.Segment id = levels.Segment
reenter (levels.Cluster time None) id = if is_segment_child id then levels.Segment else levels.Cluster time None
reenter (levels.Cluster time (Some end)) id = levels.Cluster time (Some end)

abbrev pub level_end : Level → Option ℕ
level_end levels.Segment = None
level_end (levels.Cluster time end) = end

abbrev pub is_segment : Level → Bool
is_segment levels.Segment = true
is_segment (levels.Cluster time end) = false

-- an offset is past an end, where that is known
abbrev pub runs_past : Option ℕ → ℕ → Bool
runs_past None place = false
runs_past (Some end) place = nat_lt end place

-- an end, where it is known, is past a film of so many octets
abbrev pub cuts_off : Option ℕ → ℕ → Bool
cuts_off None len = false
cuts_off (Some end) len = nat_lt len end

-- the walk stands at the film's end or the Segment's: it is cut there where more was announced
abbrev pub last_of : Option ℕ → ℕ → ℕ → Level → Ending
last_of segment_end len place level =
    if place == len && (cuts_off segment_end len || cuts_off (level_end level) len) then Cut place else Clean

-- what an element is to the walk
abbrev pub role_of : Level → ℕ → Role
role_of levels.Segment id = roles.Other
role_of (levels.Cluster time end) id =
    if id == TIMESTAMP then roles.Timestamp else (if id == SIMPLE_BLOCK then roles.SimpleBlock
    else (if id == BLOCK_GROUP then roles.BlockGroup else roles.Other))

abbrev pub opens_cluster : Level → ℕ → Bool
opens_cluster level id = id == CLUSTER && is_segment level

-- only a Cluster of the Segment may have no known size; nothing runs past the end of its Cluster or of the Segment;
-- a Cluster is entered, and everything else has to lie in the film
abbrev pub move_in : Option ℕ → Level → ℕ → ℕ → Size → Move
move_in segment_end level id at Unknown =
    if opens_cluster level id
    then (if runs_past segment_end at then moves.Fault Overrun else moves.Enter at (levels.Cluster None None))
    else moves.Fault NoSize
move_in segment_end level id at (Known size) =
    if runs_past (level_end level) (at + size) || runs_past segment_end (at + size) then moves.Fault Overrun
    else (if opens_cluster level id then moves.Enter at (levels.Cluster None (Some (at + size)))
    else moves.Pass (role_of level id) at (at + size) level)

-- what the walk does at an element with a good head, whose body begins at an offset
abbrev pub move_of : Option ℕ → Level → ℕ → ℕ → Size → Move
move_of segment_end level id at size = move_in segment_end (reenter level id) id at size

-- what stands behind the head begins where it says
abbrev pub MovesOn : ℕ → Move → Type 0
MovesOn at (moves.Fault fault) = ⊤
MovesOn at (moves.Enter to level) = to ≡ at
MovesOn at (moves.Pass role from stop level) = (from ≡ at) × (at ≤ stop)

-- the head stands behind a place, and within so many octets
abbrev pub StartsBehind : ℕ → ℕ → Move → Type 0
StartsBehind place len (moves.Fault fault) = ⊤
StartsBehind place len (moves.Enter to level) = (place < to) × (to ≤ len)
StartsBehind place len (moves.Pass role at stop level) = (place < at) × (at ≤ len) × (at ≤ stop)
