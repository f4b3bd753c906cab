-- The walk over a film's Segment, one place after the other.
use Rattle.std.specs.Prelude.{ℕ, zero, suc, ◌+◌, ◌<◌, ◌≤◌, Bool, false, ◌||◌, nat_lt, ◌==◌, if◌then◌else◌, List, [], ◌++◌, length, Option, Some, None, Result, Ok, Err, slice_range, ⊤}
use Rattle.mc_packet.specs.declared.packet.Packet.{Packet}
use Rattle.mc_packet.specs.declared.walk.Fault.{Fault}
use Rattle.mc_packet.specs.declared.walk.Fault.TheVariants as faults
use Rattle.mc_packet.specs.declared.walk.Ending.{Ending}
use Rattle.mc_packet.specs.declared.walk.Ending.TheVariants.{Clean, Cut, Damaged}
use Rattle.mc_packet.specs.declared.walk.Level.{Level}
use Rattle.mc_packet.specs.declared.walk.Level.TheVariants as levels
use Rattle.mc_ebml.specs.declared.read.Head.{Head}
use Rattle.mc_ebml.specs.declared.read.EbmlError.{EbmlError}
use Rattle.mc_ebml.specs.declared.read.EbmlError.TheVariants as errors
use Rattle.mc_ebml.specs.Element.{head_at, uint_of}
use Rattle.mc_walk.specs.declared.plan.Plan.{Plan}
use Rattle.mc_walk.specs.declared.plan.Step.{Step}
use Rattle.mc_walk.specs.declared.plan.Step.TheVariants.{End, On}
use Rattle.mc_walk.specs.declared.movement.Role.{Role}
use Rattle.mc_walk.specs.declared.movement.Role.TheVariants as roles
use Rattle.mc_walk.specs.declared.movement.Move.{Move}
use Rattle.mc_walk.specs.declared.movement.Move.TheVariants as moves
use Rattle.mc_walk.specs.Moves.{settle, last_of, move_of}
use Rattle.mc_walk.specs.Blocks.{block_element_of}

abbrev pub stands_at : Option ℕ → ℕ → Bool
stands_at None place = false
stands_at (Some end) place = end == place

-- a Timestamp sets the Cluster's time
abbrev pub stamped : ℕ → ℕ → Level → Result ℕ EbmlError → Step
stamped place stop levels.Segment time = On stop levels.Segment None
stamped place stop (levels.Cluster old end) (Ok time) = On stop (levels.Cluster (Some time) end) None
stamped place stop (levels.Cluster old end) (Err e) = End (Damaged place faults.BadUint)

abbrev pub blocked : ℕ → ℕ → Level → Result (List Packet) Fault → Step
blocked place stop level (Ok packets) = On stop level (Some packets)
blocked place stop level (Err fault) = End (Damaged place fault)

abbrev pub time_of : Level → Option ℕ
time_of levels.Segment = None
time_of (levels.Cluster time end) = time

-- an element that lies in the film, with its body
abbrev pub passed : Plan → ℕ → Role → List ℕ → ℕ → Level → Step
passed plan place roles.Other body stop level = On stop level None
passed plan place roles.Timestamp body stop level = stamped place stop level (uint_of body)
passed plan place roles.SimpleBlock body stop level = blocked place stop level (block_element_of plan.tracks plan.scale place (time_of level) roles.SimpleBlock body)
passed plan place roles.BlockGroup body stop level = blocked place stop level (block_element_of plan.tracks plan.scale place (time_of level) roles.BlockGroup body)

-- an element that has to lie in the film is cut where it runs past it
abbrev pub moved : Plan → ℕ → Move → Step
moved plan place (moves.Fault fault) = End (Damaged place fault)
moved plan place (moves.Enter to level) = On to level None
moved plan place (moves.Pass w at stop level) =
    if nat_lt (length plan.octets) stop then End (Cut place) else passed plan place w (slice_range plan.octets at stop) stop level

-- a head that the film cuts short is a cut, any other bad one is damage
abbrev pub headed : Plan → ℕ → Level → Result Head EbmlError → Step
headed plan place level (Ok h) = moved plan place (move_of plan.segment_end level h.id h.body h.size)
headed plan place level (Err errors.Short) = End (Cut place)
headed plan place level (Err errors.BadId) = End (Damaged place faults.BadId)
headed plan place level (Err errors.BadSize) = End (Damaged place faults.BadSize)
headed plan place level (Err errors.BadUint) = End (Damaged place faults.BadSize)
headed plan place level (Err errors.BadText) = End (Damaged place faults.BadSize)

-- one step of the walk: what the first rule that holds at a place says
unfoldable pub step_at : Plan → ℕ → Level → Step
step_at plan place level =
    if stands_at plan.segment_end place || place == length plan.octets
    then End (last_of plan.segment_end (length plan.octets) place level)
    else headed plan place (settle level place) (head_at plan.octets place)

-- the packets of a block element, or none
abbrev pub packets_in : Option (List Packet) → List Packet
packets_in None = []
packets_in (Some packets) = packets

-- the packets of a walk from a place on, and how it ends
abbrev pub Rest : Type 0
Rest = List Packet × Ending

abbrev pub in_front : List Packet → Rest → Rest
in_front packets rest = (packets ++ rest.0, rest.1)

abbrev pub after : Step → (ℕ → Level → Rest) → Rest
after (End ending) on = ([], ending)
after (On to level block) on = in_front (packets_in block) (on to level)

-- the walk from a place on, of at most so many steps
unfoldable pub walk : ℕ → Plan → ℕ → Level → Rest
walk zero plan place level = ([], Clean)
walk (suc n) plan place level = after (step_at plan place level) (λ to inner. walk n plan to inner)

-- a place rises with each step, so that there are fewer steps than octets and one
abbrev pub steps : Plan → ℕ
steps plan = length plan.octets + 1

-- the film's packets in file order, and how it ends
abbrev pub film_walk : Plan → Rest
film_walk plan = walk (steps plan) plan plan.opening levels.Segment

-- a step that goes on goes onward, and not past the film's end
abbrev pub Rises : ℕ → ℕ → Step → Type 0
Rises place len (End ending) = ⊤
Rises place len (On to level block) = (place < to) × (to ≤ len)
