-- One step of the walk on demand, and how far it may read.
use Rattle.std.specs.Prelude.{ℕ, ◌+◌, ◌<◌, ◌≤◌, max, nat_lt, if◌then◌else◌, List, length, slice_range, Option, Some, None, Result, Ok, Err, ⊤}
use Rattle.mc_packet.specs.declared.packet.Packet.{Packet}
use Rattle.mc_packet.specs.declared.walk.Fault.{Fault}
use Rattle.mc_packet.specs.declared.walk.Fault.TheVariants as faults
use Rattle.mc_packet.specs.declared.walk.Ending.{Ending}
use Rattle.mc_packet.specs.declared.walk.Ending.TheVariants.{Clean, Cut, Damaged}
use Rattle.mc_packet.specs.declared.walk.Level.{Level}
use Rattle.mc_ebml.specs.declared.read.EbmlError.{EbmlError}
use Rattle.mc_ebml.specs.declared.read.EbmlError.TheVariants as errors
use Rattle.mc_walk.specs.declared.plan.Plan.{Plan}
use Rattle.mc_walk.specs.declared.plan.Step.{Step}
use Rattle.mc_walk.specs.declared.plan.Step.TheVariants.{End, On}
use Rattle.mc_walk.specs.declared.movement.Move.{Move}
use Rattle.mc_walk.specs.declared.movement.Move.TheVariants as moves
use Rattle.mc_walk.specs.declared.movement.Role.{Role}
use Rattle.mc_walk.specs.declared.movement.Role.TheVariants as roles
use Rattle.mc_walk.specs.Blocks.{block_element_of}
use Rattle.mc_walk.specs.Moves.{settle, last_of, move_of, StartsBehind}
use Rattle.mc_walk.specs.Walk.{stands_at, moved, time_of}
use Rattle.mc_cursor.specs.declared.reading.Found.{Found}
use Rattle.mc_cursor.specs.declared.reading.Found.TheVariants as found
use Rattle.mc_cursor.specs.declared.step.Unread.{Unread}
use Rattle.mc_cursor.specs.declared.step.Reached.{Reached}
use Rattle.mc_cursor.specs.declared.step.Reached.TheVariants as reached
use Rattle.mc_cursor.specs.declared.step.Turn.{Turn}
use Rattle.mc_cursor.specs.declared.step.Turn.TheVariants as turns

-- a head that the film cuts short is a cut, any other bad one is damage
abbrev pub bad_ending : ℕ → EbmlError → Ending
bad_ending place errors.Short = Cut place
bad_ending place errors.BadId = Damaged place faults.BadId
bad_ending place errors.BadSize = Damaged place faults.BadSize
bad_ending place errors.BadUint = Damaged place faults.BadSize
bad_ending place errors.BadText = Damaged place faults.BadSize

-- before the film's end the walk ends cleanly where the Segment does
abbrev pub unless_ended : Option ℕ → ℕ → Turn → Turn
unless_ended segment_end place turn = if stands_at segment_end place then turns.Ends Clean else turn

-- what the walk does at a place where this stands
abbrev pub turn_of : Option ℕ → ℕ → Level → Found → Turn
turn_of segment_end place level found.End = turns.Ends (last_of segment_end place place level)
turn_of segment_end place level (found.Element h) =
    unless_ended segment_end place (turns.Moves (move_of segment_end (settle level place) h.id h.body h.size))
turn_of segment_end place level (found.Bad e) = unless_ended segment_end place (turns.Ends (bad_ending place e))

abbrev pub turned : Plan → ℕ → Turn → Step
turned plan place (turns.Ends ending) = End ending
turned plan place (turns.Moves movement) = moved plan place movement

abbrev pub IsBlock : Role → Type 0
IsBlock roles.SimpleBlock = ⊤
IsBlock roles.BlockGroup = ⊤
IsBlock roles.Other = ⊥
IsBlock roles.Timestamp = ⊥

-- a damaged block element ends the film
abbrev pub or_damaged : ℕ → Result (List Packet) Fault → Result (List Packet) Ending
or_damaged place (Ok packets) = Ok packets
or_damaged place (Err fault) = Err (Damaged place fault)

-- the packets of a block element, or how the film ends there: it is cut where the element runs past it
abbrev pub taken_of : Plan → ℕ → Unread → Result (List Packet) Ending
taken_of plan place b = if nat_lt (length plan.octets) b.stop then Err (Cut place)
    else or_damaged place (block_element_of plan.tracks plan.scale place (time_of b.level) b.role (slice_range plan.octets b.at b.stop))

abbrev pub taken_step : Unread → Result (List Packet) Ending → Step
taken_step b (Ok packets) = On b.stop b.level (Some packets)
taken_step b (Err ending) = End ending

-- the step of the walk, where reading on demand comes to this
abbrev pub step_to : Plan → ℕ → Reached → Step
step_to plan place (reached.End ending) = End ending
step_to plan place (reached.On to level) = On to level None
step_to plan place (reached.Block b) = taken_step b (taken_of plan place b)

-- what a move leads to stands behind a place
abbrev pub LeadsOn : ℕ → Move → Type 0
LeadsOn place (moves.Fault fault) = ⊤
LeadsOn place (moves.Enter to level) = place < to
LeadsOn place (moves.Pass role at stop level) = (place < at) × (at ≤ stop)

abbrev pub TurnsOn : ℕ → Turn → Type 0
TurnsOn place (turns.Ends ending) = ⊤
TurnsOn place (turns.Moves movement) = LeadsOn place movement

-- an element that is passed over, by the level behind it or the ending at its place
abbrev pub passed_step : ℕ → Result Level Ending → Step
passed_step stop (Ok level) = On stop level None
passed_step stop (Err ending) = End ending

-- what is reached stands behind a place
abbrev pub GoesOn : ℕ → Reached → Type 0
GoesOn place (reached.End ending) = ⊤
GoesOn place (reached.On to level) = place < to
GoesOn place (reached.Block b) = (place < b.at) × (b.at ≤ b.stop) × IsBlock b.role

-- the body of a block element begins within so many octets
abbrev pub BeginsIn : ℕ → Reached → Type 0
BeginsIn len (reached.End ending) = ⊤
BeginsIn len (reached.On to level) = ⊤
BeginsIn len (reached.Block b) = b.at ≤ len

-- of a block element only the head was read
abbrev pub IsUnread : Reached → Type 0
IsUnread (reached.End ending) = ⊥
IsUnread (reached.On to level) = ⊥
IsUnread (reached.Block b) = ⊤

-- it stands within so many octets
abbrev pub TurnStarts : ℕ → ℕ → Turn → Type 0
TurnStarts place len (turns.Ends ending) = ⊤
TurnStarts place len (turns.Moves movement) = StartsBehind place len movement

-- how far a move may read
abbrev pub asked_by : Move → ℕ
asked_by (moves.Fault fault) = 0
asked_by (moves.Enter to level) = 0
asked_by (moves.Pass role at stop level) = stop

abbrev pub asked_for : Turn → ℕ
asked_for (turns.Ends ending) = 0
asked_for (turns.Moves movement) = asked_by movement

-- a step that goes on reads at most 12 octets behind the place to which it goes
abbrev pub ReadsUpTo : Step → ℕ → ℕ → Type 0
ReadsUpTo (End ending) before now = ⊤
ReadsUpTo (On to level block) before now = now ≤ max before (to + 12)
