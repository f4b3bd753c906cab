-- A step of the walk by what stands at its place, and how far it reads.
use Rattle.std.proofs.Common.{◌≡◌, ℕ, ◌+◌, ◌<◌, ◌≤◌, max, Bool, true, false, List, length, Option, Result, Ok, Err, refl, sym, ap, ◌∙◌, arith}
use Rattle.std.proofs.lemmas.Bool.{cond_both}
use Rattle.std.specs.Prelude.{nat_lt, ◌==◌, ◌||◌, IfOk, slice_range}
use Rattle.std.proofs.lemmas.Bool.Decides.{nat_tests}
use Rattle.mc_packet.specs.declared.packet.Packet.{Packet}
use Rattle.mc_packet.specs.declared.walk.Fault.{Fault}
use Rattle.mc_packet.specs.declared.walk.Ending.TheVariants.{Clean}
use Rattle.mc_packet.specs.declared.walk.Level.{Level}
use Rattle.mc_packet.specs.declared.walk.Level.TheVariants as levels
use Rattle.mc_ebml.specs.declared.read.Head.{Head}
use Rattle.mc_ebml.specs.declared.read.Size.{Size}
use Rattle.mc_ebml.specs.declared.read.Size.TheVariants.{Known, Unknown}
use Rattle.mc_ebml.specs.declared.read.EbmlError.{EbmlError}
use Rattle.mc_ebml.specs.declared.read.EbmlError.TheVariants as errors
use Rattle.mc_ebml.specs.Element.{head_at, uint_of}
use Rattle.mc_walk.specs.declared.plan.Plan.{Plan}
use Rattle.mc_walk.specs.declared.plan.Step.TheVariants.{End}
use Rattle.mc_walk.specs.declared.movement.Role.{Role}
use Rattle.mc_walk.specs.declared.movement.Role.TheVariants as roles
use Rattle.mc_walk.specs.declared.movement.Move.{Move}
use Rattle.mc_walk.specs.declared.movement.Move.TheVariants as moves
use Rattle.mc_walk.specs.Moves.{settle, reenter, level_end, runs_past, opens_cluster, last_of, move_in, move_of, MovesOn, StartsBehind}
use Rattle.mc_walk.specs.Blocks.{block_element_of}
use Rattle.mc_walk.specs.Walk.{stands_at, stamped, blocked, time_of, passed, headed, step_at}
use Rattle.mc_walk.proofs.Rising.{head-lies}
use Rattle.mc_cursor.specs.declared.reading.Found.TheVariants as found
use Rattle.mc_cursor.specs.declared.step.Turn.{Turn}
use Rattle.mc_cursor.specs.declared.step.Turn.TheVariants as turns
use Rattle.mc_cursor.specs.Reads.{found_at, found_by}
use Rattle.mc_cursor.specs.Steps.{bad_ending, turn_of, turned, asked_for, TurnStarts, ReadsUpTo}

-- ---- what a step is

bad_headed : (plan : Plan) (place : ℕ) (level : Level) (e : EbmlError) → headed plan place level (Err e) ≡ End (bad_ending place e)
bad_headed plan place level errors.Short = refl
bad_headed plan place level errors.BadId = refl
bad_headed plan place level errors.BadSize = refl
bad_headed plan place level errors.BadUint = refl
bad_headed plan place level errors.BadText = refl

-- at the film's end
at_film_end : (plan : Plan) (place : ℕ) (level : Level) → place == length plan.octets ≡ true
    → End (last_of plan.segment_end (length plan.octets) place level) ≡ turned plan place (turn_of plan.segment_end place level (found_at plan.octets place))
at_film_end plan place level at_end =
    let e : place ≡ length plan.octets = grind (arith, nat_tests) in
    let one : found_at plan.octets place ≡ found.End = rw at_end refl in
    ap (λ (n : ℕ). End (last_of plan.segment_end n place level)) (sym e) ∙ rw one refl

-- before it
goes_on : (plan : Plan) (place : ℕ) (level : Level) (head : Result Head EbmlError) → stands_at plan.segment_end place ≡ false
    → headed plan place (settle level place) head ≡ turned plan place (turn_of plan.segment_end place level (found_by head))
goes_on plan place level (Ok h) ended = rw ended refl
goes_on plan place level (Err e) ended = rw ended (bad_headed plan place (settle level place) e)

has_ended : (plan : Plan) (place : ℕ) (level : Level) (head : Result Head EbmlError) → stands_at plan.segment_end place ≡ true
    → turned plan place (turn_of plan.segment_end place level (found_by head)) ≡ End Clean
has_ended plan place level (Ok h) ended = rw ended refl
has_ended plan place level (Err e) ended = rw ended refl

step_by : (plan : Plan) (place : ℕ) (level : Level) (at_end ended : Bool) → place == length plan.octets ≡ at_end → stands_at plan.segment_end place ≡ ended
    → step_at plan place level ≡ turned plan place (turn_of plan.segment_end place level (found_at plan.octets place))
unfolding step_at
step_by plan place level true true at_end ended =
    let one : step_at plan place level ≡ End (last_of plan.segment_end (length plan.octets) place level) = rw ended refl in
    one ∙ at_film_end plan place level at_end
step_by plan place level true false at_end ended =
    let one : step_at plan place level ≡ End (last_of plan.segment_end (length plan.octets) place level) = rw (ended, at_end) refl in
    one ∙ at_film_end plan place level at_end
step_by plan place level false true at_end ended =
    let one : step_at plan place level ≡ End Clean = rw (ended, at_end) refl in
    let two : found_at plan.octets place ≡ found_by (head_at plan.octets place) = rw at_end refl in
    one ∙ rw two (sym (has_ended plan place level (head_at plan.octets place) ended))
step_by plan place level false false at_end ended =
    let one : step_at plan place level ≡ headed plan place (settle level place) (head_at plan.octets place) = rw (ended, at_end) refl in
    let two : found_at plan.octets place ≡ found_by (head_at plan.octets place) = rw at_end refl in
    one ∙ rw two (goes_on plan place level (head_at plan.octets place) ended)

-- a step is what the walk does where this stands
pub step_found : (plan : Plan) (place : ℕ) (level : Level) → step_at plan place level ≡ turned plan place (turn_of plan.segment_end place level (found_at plan.octets place))
step_found plan place level = step_by plan place level (place == length plan.octets) (stands_at plan.segment_end place) refl refl

-- ---- where it leads

moves_on : (segment_end : Option ℕ) (level : Level) (id at : ℕ) (size : Size) → MovesOn at (move_in segment_end level id at size)
moves_on segment_end level id at Unknown =
    cond_both (opens_cluster level id) _ _ (MovesOn at) (λ e. cond_both (runs_past segment_end at) _ _ (MovesOn at) (λ e. tt) (λ e. refl)) (λ e. tt)
moves_on segment_end level id at (Known size) =
    cond_both (runs_past (level_end level) (at + size) || runs_past segment_end (at + size)) _ _ (MovesOn at) (λ e. tt)
    (λ e. cond_both (opens_cluster level id) _ _ (MovesOn at) (λ e. refl) (λ e. (refl, omega arith)))

starts_behind : (place len at : ℕ) (m : Move) → place < at → at ≤ len → MovesOn at m → StartsBehind place len m
starts_behind place len at (moves.Fault fault) behind within on = tt
starts_behind place len at (moves.Enter to level) behind within on = (omega (arith, on), omega (arith, on))
starts_behind place len at (moves.Pass role from stop level) behind within on = (omega (arith, on.0), omega (arith, on.0), omega (arith, on.0, on.1))

turn_by_head : (segment_end : Option ℕ) (place len : ℕ) (level : Level) (head : Result Head EbmlError) → IfOk head (λ h. (place < h.body) × (h.body ≤ len))
    → TurnStarts place len (turn_of segment_end place level (found_by head))
turn_by_head segment_end place len level (Err e) lies = cond_both (stands_at segment_end place) _ _ (TurnStarts place len) (λ e. tt) (λ e. tt)
turn_by_head segment_end place len level (Ok h) lies =
    cond_both (stands_at segment_end place) _ _ (TurnStarts place len) (λ e. tt)
    (λ e. starts_behind place len h.body (move_of segment_end (settle level place) h.id h.body h.size) lies.0 lies.1
    (moves_on segment_end (reenter (settle level place) h.id) h.id h.body h.size))

pub turn_starts : (segment_end : Option ℕ) (octets : List ℕ) (place : ℕ) (level : Level) → place ≤ length octets
    → TurnStarts place (length octets) (turn_of segment_end place level (found_at octets place))
turn_starts segment_end octets place level within =
    cond_both (place == length octets) _ _ (λ f. TurnStarts place (length octets) (turn_of segment_end place level f)) (λ e. tt)
    (λ e. turn_by_head segment_end place (length octets) level (head_at octets place) (head-lies octets place within))

-- ---- how far it reads

blocked_reach : (place stop before now : ℕ) (level : Level) (packets : Result (List Packet) Fault) → now ≤ max before (stop + 12) → ReadsUpTo (blocked place stop level packets) before now
blocked_reach place stop before now level (Ok packets) h = h
blocked_reach place stop before now level (Err fault) h = tt

stamped_reach : (place stop before now : ℕ) (level : Level) (time : Result ℕ EbmlError) → now ≤ max before (stop + 12) → ReadsUpTo (stamped place stop level time) before now
stamped_reach place stop before now levels.Segment time h = h
stamped_reach place stop before now (levels.Cluster old end) (Ok time) h = h
stamped_reach place stop before now (levels.Cluster old end) (Err e) h = tt

passed_reach : (plan : Plan) (place : ℕ) (role : Role) (body : List ℕ) (stop : ℕ) (level : Level) (before now : ℕ) → now ≤ max before (stop + 12)
    → ReadsUpTo (passed plan place role body stop level) before now
passed_reach plan place roles.Other body stop level before now h = h
passed_reach plan place roles.Timestamp body stop level before now h = stamped_reach place stop before now level (uint_of body) h
passed_reach plan place roles.SimpleBlock body stop level before now h =
    blocked_reach place stop before now level (block_element_of plan.tracks plan.scale place (time_of level) roles.SimpleBlock body) h
passed_reach plan place roles.BlockGroup body stop level before now h =
    blocked_reach place stop before now level (block_element_of plan.tracks plan.scale place (time_of level) roles.BlockGroup body) h

turned_reach : (plan : Plan) (place len : ℕ) (turn : Turn) (before now : ℕ) → TurnStarts place len turn → now ≤ max before (max (place + 12) (asked_for turn))
    → ReadsUpTo (turned plan place turn) before now
turned_reach plan place len (turns.Ends ending) before now starts h = tt
turned_reach plan place len (turns.Moves (moves.Fault fault)) before now starts h = tt
turned_reach plan place len (turns.Moves (moves.Enter to level)) before now starts h = omega (arith, starts.0, h)
turned_reach plan place len (turns.Moves (moves.Pass role at stop level)) before now starts h =
    cond_both (nat_lt (length plan.octets) stop) _ _ (λ s. ReadsUpTo s before now) (λ e. tt)
    (λ e. passed_reach plan place role (slice_range plan.octets at stop) stop level before now (omega (arith, starts.0, starts.2, h)))

-- a step that goes on reads at most its head, and up to where it goes
pub step_reach : (plan : Plan) (place : ℕ) (level : Level) (before now : ℕ) → place ≤ length plan.octets
    → now ≤ max before (max (place + 12) (asked_for (turn_of plan.segment_end place level (found_at plan.octets place))))
    → ReadsUpTo (step_at plan place level) before now
step_reach plan place level before now within h =
    rw (step_found plan place level) (turned_reach plan place (length plan.octets) (turn_of plan.segment_end place level (found_at plan.octets place)) before now
    (turn_starts plan.segment_end plan.octets place level within) h)
