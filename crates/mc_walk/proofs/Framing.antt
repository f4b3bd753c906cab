-- A film's packets are the frames of the block elements that stand in its walk, each once and in order.
use Rattle.std.proofs.Common.{◌≡◌, ℕ, zero, suc, ◌-◌, ◌<◌, ◌≤◌, List, [], ◌∷◌, ◌++◌, length, Option, Some, None, Result, Ok, Err, refl, inl, inr, arith}
use Rattle.std.proofs.lemmas.Bool.{cond_both}
use Rattle.std.proofs.lemmas.List.Elements.{All-contains, All-from_recursion, Contains-append_left, Contains-append_right, Contains-append_cases}
use Rattle.std.specs.Prelude.{IfOk, Contains, ⊤, ◌||◌, ◌==◌, nat_lt, slice_range}
use Rattle.std.specs.List.{AllByRecursion}
use Rattle.mc_packet.specs.declared.packet.Packet.{Packet}
use Rattle.mc_packet.specs.declared.walk.Fault.{Fault}
use Rattle.mc_packet.specs.declared.walk.Level.{Level}
use Rattle.mc_packet.specs.declared.walk.Level.TheVariants as levels
use Rattle.mc_ebml.specs.declared.read.Head.{Head}
use Rattle.mc_ebml.specs.declared.read.EbmlError.{EbmlError}
use Rattle.mc_ebml.specs.declared.read.EbmlError.TheVariants as errors
use Rattle.mc_ebml.specs.Element.{head_at, uint_of}
use Rattle.mc_block.specs.declared.error.BlockError.{BlockError}
use Rattle.mc_block.specs.declared.parts.BlockBody.{BlockBody}
use Rattle.mc_block.specs.declared.parts.Place.{Place}
use Rattle.mc_block.specs.Block.{track_of, packets_of}
use Rattle.mc_tracks.specs.declared.track.Track.{Track}
use Rattle.mc_walk.specs.declared.plan.Plan.{Plan}
use Rattle.mc_walk.specs.declared.plan.Step.{Step}
use Rattle.mc_walk.specs.declared.plan.Step.TheVariants.{End, On}
use Rattle.mc_walk.specs.declared.movement.Role.{Role}
use Rattle.mc_walk.specs.declared.movement.Role.TheVariants as roles
use Rattle.mc_walk.specs.declared.movement.Move.{Move}
use Rattle.mc_walk.specs.declared.movement.Move.TheVariants as moves
use Rattle.mc_walk.specs.Moves.{settle, move_of}
use Rattle.mc_walk.specs.Blocks.{◌>>=◌, faulted, body_in, known_track, timed, tracked, opened, block_element_of}
use Rattle.mc_walk.specs.Walk.{stands_at, stamped, blocked, time_of, passed, moved, headed, step_at, steps, walk, after, packets_in, film_walk, Rest, Rises}
use Rattle.mc_packet.specs.Shape.{StandsBefore, InOrder}
use Rattle.mc_walk.specs.Frames.{Comes, IsFrame, AreItsFrames}
use Rattle.mc_walk.specs.Frames.Comes.{here, onward}
use Rattle.mc_walk.proofs.Rising.{step-rises}
use Rattle.mc_walk.proofs.Lanes.{all-weaker, IsFrom, FramesFrom, packets_of-frames}

-- ---- the packets of a block element

faulted-if_ok : {X : Type 0} (P : X → Type 0) (r : Result X BlockError) → IfOk r P → IfOk (faulted r) P
faulted-if_ok P (Ok x) h = h
faulted-if_ok P (Err e) h = tt

if_ok-then : {X Y : Type 0} (P : Y → Type 0) (r : Result X Fault) (f : X → Result Y Fault) → ((x : X) → IfOk (f x) P) → IfOk (r >>= f) P
if_ok-then P (Ok x) f each = each x
if_ok-then P (Err e) f each = tt

timed-frames : (place scale : ℕ) (time : Option ℕ) (body : BlockBody) (duration : Option ℕ) → IfOk (timed place scale time body duration) (FramesFrom place 0)
timed-frames place scale None body duration = tt
timed-frames place scale (Some time) body duration =
    let at : Place = record { pos = place; cluster_time = time; scale = scale; duration = duration } in
    faulted-if_ok (FramesFrom place 0) (packets_of at body) (packets_of-frames at body)

tracked-frames : (place scale : ℕ) (time : Option ℕ) (body : BlockBody) (track : Option Track) → IfOk (tracked place scale time body track) (FramesFrom place 0)
tracked-frames place scale time body None = (tt, tt)
tracked-frames place scale time body (Some t) = timed-frames place scale time body t.duration

opened-frames : (tracks : List Track) (place scale : ℕ) (time : Option ℕ) (body : Option BlockBody) → IfOk (opened tracks place scale time body) (FramesFrom place 0)
opened-frames tracks place scale time None = (tt, tt)
opened-frames tracks place scale time (Some body) =
    if_ok-then (FramesFrom place 0) (faulted (track_of body.octets)) _ (λ n. tracked-frames place scale time body (known_track tracks n))

block_element-frames : (tracks : List Track) (scale place : ℕ) (time : Option ℕ) (role : Role) (octets : List ℕ)
    → IfOk (block_element_of tracks scale place time role octets) (FramesFrom place 0)
unfolding block_element_of
block_element-frames tracks scale place time role octets =
    if_ok-then (FramesFrom place 0) (faulted (body_in role octets)) _ (λ body. opened-frames tracks place scale time body)

-- ---- the packets of a step

abbrev pub Framed : ℕ → Step → Type 0
Framed place (End ending) = ⊤
Framed place (On to inner None) = ⊤
Framed place (On to inner (Some packets)) = FramesFrom place 0 packets

stamped-framed : (place stop : ℕ) (level : Level) (time : Result ℕ EbmlError) → Framed place (stamped place stop level time)
stamped-framed place stop levels.Segment time = tt
stamped-framed place stop (levels.Cluster old end) (Ok time) = tt
stamped-framed place stop (levels.Cluster old end) (Err e) = tt

blocked-framed : (place stop : ℕ) (level : Level) (packets : Result (List Packet) Fault) → IfOk packets (FramesFrom place 0) → Framed place (blocked place stop level packets)
blocked-framed place stop level (Ok packets) frames = frames
blocked-framed place stop level (Err fault) frames = tt

passed-framed : (plan : Plan) (place : ℕ) (role : Role) (body : List ℕ) (stop : ℕ) (level : Level) → Framed place (passed plan place role body stop level)
passed-framed plan place roles.Other body stop level = tt
passed-framed plan place roles.Timestamp body stop level = stamped-framed place stop level (uint_of body)
passed-framed plan place roles.SimpleBlock body stop level =
    blocked-framed place stop level (block_element_of plan.tracks plan.scale place (time_of level) roles.SimpleBlock body)
    (block_element-frames plan.tracks plan.scale place (time_of level) roles.SimpleBlock body)
passed-framed plan place roles.BlockGroup body stop level =
    blocked-framed place stop level (block_element_of plan.tracks plan.scale place (time_of level) roles.BlockGroup body)
    (block_element-frames plan.tracks plan.scale place (time_of level) roles.BlockGroup body)

moved-framed : (plan : Plan) (place : ℕ) (m : Move) → Framed place (moved plan place m)
moved-framed plan place (moves.Fault fault) = tt
moved-framed plan place (moves.Enter to level) = tt
moved-framed plan place (moves.Pass role at stop level) =
    cond_both (nat_lt (length plan.octets) stop) _ _ (Framed place) (λ e. tt) (λ e. passed-framed plan place role (slice_range plan.octets at stop) stop level)

headed-framed : (plan : Plan) (place : ℕ) (level : Level) (h : Result Head EbmlError) → Framed place (headed plan place level h)
headed-framed plan place level (Ok h) = moved-framed plan place (move_of plan.segment_end level h.id h.body h.size)
headed-framed plan place level (Err errors.Short) = tt
headed-framed plan place level (Err errors.BadId) = tt
headed-framed plan place level (Err errors.BadSize) = tt
headed-framed plan place level (Err errors.BadUint) = tt
headed-framed plan place level (Err errors.BadText) = tt

pub step-framed : (plan : Plan) (place : ℕ) (level : Level) → Framed place (step_at plan place level)
unfolding step_at
step-framed plan place level =
    cond_both (stands_at plan.segment_end place || place == length plan.octets) _ _ (Framed place) (λ e. tt)
    (λ e. headed-framed plan place (settle level place) (head_at plan.octets place))

-- ---- the order of packets

abbrev StandsFrom : ℕ → Packet → Type 0
StandsFrom place p = place ≤ p.pos.block

abbrev OrderedFrom : ℕ → List Packet → Type 0
OrderedFrom place ps = AllByRecursion (StandsFrom place) ps × InOrder ps

all-append : {X : Type 0} (P : X → Type 0) (xs ys : List X) → AllByRecursion P xs → AllByRecursion P ys → AllByRecursion P (xs ++ ys)
all-append P [] ys h g = g
all-append P (x ∷ xs) ys h g = (h.0, all-append P xs ys h.1 g)

frames-then : (place to : ℕ) (ps rest : List Packet) → AllByRecursion (IsFrom place 0) ps → InOrder ps → place < to → OrderedFrom to rest → OrderedFrom place (ps ++ rest)
frames-then place to [] rest frames order behind ordered = (all-weaker (StandsFrom to) (StandsFrom place) (λ p h. omega arith) rest ordered.0, ordered.1)
frames-then place to (p ∷ ps) rest frames order behind ordered =
    let later = frames-then place to ps rest frames.1 order.1 behind ordered in (
      (omega arith, later.0),
      (all-append (StandsBefore p) ps rest order.0 (all-weaker (StandsFrom to) (StandsBefore p) (λ q h. inl (omega arith)) rest ordered.0), later.1),
    )

ordered-after : (step : Step) (place len : ℕ) (f : ℕ → Level → Rest) → Rises place len step → Framed place step
    → ((to : ℕ) (inner : Level) → place < to → to ≤ len → OrderedFrom to (f to inner).0) → OrderedFrom place (after step f).0
ordered-after (End ending) place len f rises framed on = (tt, tt)
ordered-after (On to inner None) place len f rises framed on = frames-then place to [] (f to inner).0 tt tt rises.0 (on to inner rises.0 rises.1)
ordered-after (On to inner (Some ps)) place len f rises framed on = frames-then place to ps (f to inner).0 framed.0 framed.1 rises.0 (on to inner rises.0 rises.1)

walk-ordered : (n : ℕ) (plan : Plan) (place : ℕ) (level : Level) → place ≤ length plan.octets → OrderedFrom place (walk n plan place level).0
unfolding walk
walk-ordered zero plan place level in_film = (tt, tt)
walk-ordered (suc n) plan place level in_film =
    ordered-after (step_at plan place level) place (length plan.octets) (λ to inner. walk n plan to inner) (step-rises plan place level in_film) (step-framed plan place level)
    (λ to inner onward within. walk-ordered n plan to inner within)

-- ---- each packet is a frame

pub comes-further : (plan : Plan) (place : ℕ) (level : Level) (last : ℕ) (final : Level) (to : ℕ) (inner : Level) (block : Option (List Packet))
    → Comes plan place level last final → step_at plan last final ≡ On to inner block → Comes plan place level to inner
comes-further plan place level last final to inner block (here _ _) step = onward place level to inner block to inner step (here to inner)
comes-further plan place level last final to inner block (onward _ _ to' inner' block' _ _ step' further) step =
    onward place level to' inner' block' to inner step' (comes-further plan to' inner' last final to inner block further step)

step-frames : (step : Step) (n : ℕ) (plan : Plan) (place : ℕ) (level : Level) (p : Packet) → step_at plan place level ≡ step → Framed place step
    → Comes plan plan.opening levels.Segment place level → Contains (after step (λ to inner. walk n plan to inner)).0 p
    → ((to : ℕ) (inner : Level) → Comes plan plan.opening levels.Segment to inner → Contains (walk n plan to inner).0 p → IsFrame plan p) → IsFrame plan p
step-frames (End ending) n plan place level p is framed comes among on = absurd (let h = among.1 in omega arith)
step-frames (On to inner None) n plan place level p is framed comes among on =
    on to inner (comes-further plan plan.opening levels.Segment place level to inner None comes is) among
step-frames (On to inner (Some ps)) n plan place level p is framed comes among on =
    elim (Contains-append_cases ps (walk n plan to inner).0 p among) [
      | inl here_in ↦ record {
        block = record { place = place; level = level; to = to; inner = inner; frames = ps; stands = comes; holds = is };
        among = here_in;
        offset = (All-contains (IsFrom place 0) ps p (All-from_recursion (IsFrom place 0) ps framed.0) here_in).0;
      }
      | inr later ↦ on to inner (comes-further plan plan.opening levels.Segment place level to inner (Some ps) comes is) later
    ]

walk-frames : (n : ℕ) (plan : Plan) (place : ℕ) (level : Level) (p : Packet) → Comes plan plan.opening levels.Segment place level
    → Contains (walk n plan place level).0 p → IsFrame plan p
unfolding walk
walk-frames zero plan place level p comes among = absurd (let h = among.1 in omega arith)
walk-frames (suc n) plan place level p comes among =
    step-frames (step_at plan place level) n plan place level p refl (step-framed plan place level) comes among
    (λ to inner comes' among'. walk-frames n plan to inner p comes' among')

-- ---- each frame is a packet

frames-reached : (plan : Plan) (p : Packet) (frames : List Packet) (to : ℕ) (inner : Level) (n place : ℕ) (level : Level) (last : ℕ) (final : Level)
    → Comes plan place level last final → step_at plan last final ≡ On to inner (Some frames) → Contains frames p
    → place ≤ length plan.octets → length plan.octets - place < n → Contains (walk n plan place level).0 p
unfolding walk
frames-reached plan p frames to inner zero place level last final comes holds among in_film enough = absurd (omega arith)
frames-reached plan p frames to inner (suc n) place level last final (here _ _) holds among in_film enough =
    rw holds (Contains-append_left frames (walk n plan to inner).0 p among)
frames-reached plan p frames to inner (suc n) place level last final (onward _ _ to' inner' block _ _ step further) holds among in_film enough =
    let rises = rw step at (step-rises plan place level in_film) in
    rw step (Contains-append_right (packets_in block) (walk n plan to' inner').0 p
    (frames-reached plan p frames to inner n to' inner' last final further holds among rises.1 (omega arith)))

pub are-its-frames : (plan : Plan) → plan.opening ≤ length plan.octets → AreItsFrames plan (film_walk plan).0
are-its-frames plan in_film = record {
  are_frames = λ p among. walk-frames (steps plan) plan plan.opening levels.Segment p (here plan.opening levels.Segment) among;
  has_frames = λ b p among. frames-reached plan p b.frames b.to b.inner (steps plan) plan.opening levels.Segment b.place b.level b.stands b.holds among in_film (omega arith);
  once = (walk-ordered (steps plan) plan plan.opening levels.Segment in_film).1;
}
