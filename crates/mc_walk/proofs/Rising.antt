-- Each step of the walk that goes on goes onward, and not past the film's end.
use Rattle.std.proofs.Common.{ℕ, ◌+◌, ◌<◌, ◌≤◌, List, [], ◌∷◌, length, drop, Option, Result, Ok, Err, arith, length-drop}
use Rattle.std.proofs.lemmas.Bool.{ltb-false, cond_both}
use Rattle.std.proofs.lemmas.Result.{IfOk-weaker}
use Rattle.std.specs.Prelude.{IfOk, ◌||◌, ◌==◌, nat_lt, slice_range}
use Rattle.mc_packet.specs.declared.packet.Packet.{Packet}
use Rattle.mc_packet.specs.declared.walk.Fault.{Fault}
use Rattle.mc_packet.specs.declared.walk.Level.{Level}
use Rattle.mc_packet.specs.declared.walk.Level.TheVariants as levels
use Rattle.mc_ebml.specs.declared.read.Head.{Head}
use Rattle.mc_ebml.specs.declared.read.Coded.{Coded}
use Rattle.mc_ebml.specs.declared.read.Size.{Size}
use Rattle.mc_ebml.specs.declared.read.Size.TheVariants.{Known, Unknown}
use Rattle.mc_ebml.specs.declared.read.EbmlError.{EbmlError}
use Rattle.mc_ebml.specs.declared.read.EbmlError.TheVariants as errors
use Rattle.mc_ebml.specs.Element.{◌>>=◌, width, id_from, coded_from, id_at, coded_at, size_at, head_at, size_of, uint_of}
use Rattle.mc_walk.specs.declared.plan.Plan.{Plan}
use Rattle.mc_walk.specs.declared.movement.Role.{Role}
use Rattle.mc_walk.specs.declared.movement.Role.TheVariants as roles
use Rattle.mc_walk.specs.declared.movement.Move.{Move}
use Rattle.mc_walk.specs.declared.movement.Move.TheVariants as moves
use Rattle.mc_walk.specs.Moves.{settle, reenter, level_end, runs_past, opens_cluster, move_in, move_of, StartsBehind}
use Rattle.mc_walk.specs.Blocks.{block_element_of}
use Rattle.mc_walk.specs.Walk.{stands_at, stamped, blocked, time_of, passed, moved, headed, step_at, Rises}

-- ---- heads

width-positive : (b : ℕ) → 1 ≤ width b
width-positive b = grind arith

id-lies : (at : ℕ) (octets : List ℕ) → IfOk (id_from at octets) (λ id. (at < id.1) × (id.1 ≤ at + length octets))
id-lies at [] = tt
id-lies at (b ∷ bs) =
    cond_both (nat_lt b 16) _ _ (λ r. IfOk r (λ id. (at < id.1) × (id.1 ≤ at + length (b ∷ bs)))) (λ e. tt) (λ e.
    cond_both (nat_lt (length (b ∷ bs)) (width b)) _ _ (λ r. IfOk r (λ id. (at < id.1) × (id.1 ≤ at + length (b ∷ bs)))) (λ e. tt) (λ e.
    omega (arith, width-positive b, ltb-false (length (b ∷ bs)) (width b) e)))

coded-lies : (octets : List ℕ) → IfOk (coded_from octets) (λ n. (0 < n.width) × (n.width ≤ length octets))
coded-lies [] = tt
coded-lies (b ∷ bs) =
    cond_both (b == 0) _ _ (λ r. IfOk r (λ n. (0 < n.width) × (n.width ≤ length (b ∷ bs)))) (λ e. tt) (λ e.
    cond_both (nat_lt (length (b ∷ bs)) (width b)) _ _ (λ r. IfOk r (λ n. (0 < n.width) × (n.width ≤ length (b ∷ bs)))) (λ e. tt) (λ e.
    omega (arith, width-positive b, ltb-false (length (b ∷ bs)) (width b) e)))

id_at-lies : (octets : List ℕ) (at : ℕ) → at ≤ length octets → IfOk (id_at octets at) (λ id. (at < id.1) × (id.1 ≤ length octets))
unfolding id_at
id_at-lies octets at in_film =
    IfOk-weaker (id_from at (drop at octets)) _ _ (λ id h. omega (arith, length-drop at octets)) (id-lies at (drop at octets))

coded_at-lies : (octets : List ℕ) (at : ℕ) → at ≤ length octets → IfOk (coded_at octets at) (λ n. (0 < n.width) × (at + n.width ≤ length octets))
unfolding coded_at
coded_at-lies octets at in_film =
    IfOk-weaker (coded_from (drop at octets)) _ _ (λ n h. omega (arith, length-drop at octets)) (coded-lies (drop at octets))

abbrev sized_by : ℕ → Coded → Result (Size × ℕ) EbmlError
sized_by at n = Ok (size_of n, at + n.width)

sized : (at len : ℕ) (n : Result Coded EbmlError) → IfOk n (λ n. (0 < n.width) × (at + n.width ≤ len))
    → IfOk (n >>= λ n. sized_by at n) (λ size. (at < size.1) × (size.1 ≤ len))
sized at len (Ok n) h = (omega arith, h.1)
sized at len (Err e) h = tt

size_at-lies : (octets : List ℕ) (at : ℕ) → at ≤ length octets → IfOk (size_at octets at) (λ size. (at < size.1) × (size.1 ≤ length octets))
unfolding size_at
size_at-lies octets at in_film = sized at (length octets) (coded_at octets at) (coded_at-lies octets at in_film)

abbrev head_by : ℕ → Size × ℕ → Result Head EbmlError
head_by id size = Ok (record { id = id; size = size.0; body = size.1 })

bodied : (at len id : ℕ) (size : Result (Size × ℕ) EbmlError) → IfOk size (λ size. (at < size.1) × (size.1 ≤ len))
    → IfOk (size >>= λ size. head_by id size) (λ (h : Head). (at < h.body) × (h.body ≤ len))
bodied at len id (Ok size) h = h
bodied at len id (Err e) h = tt

headed_by : (octets : List ℕ) (at : ℕ) (id : Result (ℕ × ℕ) EbmlError) → IfOk id (λ id. (at < id.1) × (id.1 ≤ length octets))
    → IfOk (id >>= λ id. (size_at octets id.1 >>= λ size. head_by id.0 size)) (λ (h : Head). (at < h.body) × (h.body ≤ length octets))
headed_by octets at (Err e) h = tt
headed_by octets at (Ok id) h =
    IfOk-weaker (size_at octets id.1 >>= λ size. head_by id.0 size) _ _ (λ (b : Head) g. omega arith)
    (bodied id.1 (length octets) id.0 (size_at octets id.1) (size_at-lies octets id.1 h.1))

-- an element's body begins behind its place, and within the octets
pub head-lies : (octets : List ℕ) (at : ℕ) → at ≤ length octets → IfOk (head_at octets at) (λ h. (at < h.body) × (h.body ≤ length octets))
unfolding head_at
head-lies octets at in_film = headed_by octets at (id_at octets at) (id_at-lies octets at in_film)

-- ---- moves

starts_unknown : (segment_end : Option ℕ) (level : Level) (id at place len : ℕ) → place < at → at ≤ len → StartsBehind place len (move_in segment_end level id at Unknown)
starts_unknown segment_end level id at place len behind in_film =
    cond_both (opens_cluster level id) _ _ (StartsBehind place len)
    (λ e. cond_both (runs_past segment_end at) _ _ (StartsBehind place len) (λ e. tt) (λ e. (behind, in_film))) (λ e. tt)

starts_known : (segment_end : Option ℕ) (level : Level) (id at size place len : ℕ) → place < at → at ≤ len → StartsBehind place len (move_in segment_end level id at (Known size))
starts_known segment_end level id at size place len behind in_film =
    cond_both (runs_past (level_end level) (at + size) || runs_past segment_end (at + size)) _ _ (StartsBehind place len) (λ e. tt)
    (λ e. cond_both (opens_cluster level id) _ _ (StartsBehind place len) (λ e. (behind, in_film)) (λ e. (behind, in_film, omega arith)))

starts : (segment_end : Option ℕ) (level : Level) (id at : ℕ) (size : Size) (place len : ℕ) → place < at → at ≤ len → StartsBehind place len (move_in segment_end level id at size)
starts segment_end level id at Unknown place len behind in_film = starts_unknown segment_end level id at place len behind in_film
starts segment_end level id at (Known size) place len behind in_film = starts_known segment_end level id at size place len behind in_film

-- ---- steps

stamped-rises : (place stop len : ℕ) (level : Level) (time : Result ℕ EbmlError) → place < stop → stop ≤ len → Rises place len (stamped place stop level time)
stamped-rises place stop len levels.Segment time behind in_film = (behind, in_film)
stamped-rises place stop len (levels.Cluster old end) (Ok time) behind in_film = (behind, in_film)
stamped-rises place stop len (levels.Cluster old end) (Err e) behind in_film = tt

blocked-rises : (place stop len : ℕ) (level : Level) (packets : Result (List Packet) Fault) → place < stop → stop ≤ len → Rises place len (blocked place stop level packets)
blocked-rises place stop len level (Ok packets) behind in_film = (behind, in_film)
blocked-rises place stop len level (Err fault) behind in_film = tt

passed-rises : (plan : Plan) (place : ℕ) (role : Role) (body : List ℕ) (stop : ℕ) (level : Level) → place < stop → stop ≤ length plan.octets
    → Rises place (length plan.octets) (passed plan place role body stop level)
passed-rises plan place roles.Other body stop level behind in_film = (behind, in_film)
passed-rises plan place roles.Timestamp body stop level behind in_film = stamped-rises place stop (length plan.octets) level (uint_of body) behind in_film
passed-rises plan place roles.SimpleBlock body stop level behind in_film =
    blocked-rises place stop (length plan.octets) level (block_element_of plan.tracks plan.scale place (time_of level) roles.SimpleBlock body) behind in_film
passed-rises plan place roles.BlockGroup body stop level behind in_film =
    blocked-rises place stop (length plan.octets) level (block_element_of plan.tracks plan.scale place (time_of level) roles.BlockGroup body) behind in_film

moved-rises : (plan : Plan) (place : ℕ) (m : Move) → StartsBehind place (length plan.octets) m → Rises place (length plan.octets) (moved plan place m)
moved-rises plan place (moves.Fault fault) h = tt
moved-rises plan place (moves.Enter to level) h = h
moved-rises plan place (moves.Pass role at stop level) h =
    cond_both (nat_lt (length plan.octets) stop) _ _ (Rises place (length plan.octets)) (λ e. tt)
    (λ e. passed-rises plan place role (slice_range plan.octets at stop) stop level (omega arith) (ltb-false (length plan.octets) stop e))

headed-rises : (plan : Plan) (place : ℕ) (level : Level) (h : Result Head EbmlError) → IfOk h (λ h. (place < h.body) × (h.body ≤ length plan.octets))
    → Rises place (length plan.octets) (headed plan place level h)
headed-rises plan place level (Ok h) lies =
    moved-rises plan place (move_of plan.segment_end level h.id h.body h.size)
    (starts plan.segment_end (reenter level h.id) h.id h.body h.size place (length plan.octets) lies.0 lies.1)
headed-rises plan place level (Err errors.Short) lies = tt
headed-rises plan place level (Err errors.BadId) lies = tt
headed-rises plan place level (Err errors.BadSize) lies = tt
headed-rises plan place level (Err errors.BadUint) lies = tt
headed-rises plan place level (Err errors.BadText) lies = tt

pub step-rises : (plan : Plan) (place : ℕ) (level : Level) → place ≤ length plan.octets → Rises place (length plan.octets) (step_at plan place level)
unfolding step_at
step-rises plan place level in_film =
    cond_both (stands_at plan.segment_end place || place == length plan.octets) _ _ (Rises place (length plan.octets)) (λ e. tt)
    (λ e. headed-rises plan place (settle level place) (head_at plan.octets place) (head-lies plan.octets place in_film))
