-- Of the packets of a block element only the first can be a sync point, and it is one where the block is a keyframe.
use Rattle.std.proofs.Common.{◌≡◌, ℕ, ◌+◌, ◌<◌, Bool, true, false, List, [], ◌∷◌, length, Option, Some, None, Result, Ok, Err, refl, arith}
use Rattle.std.proofs.lemmas.Bool.{cond_both, ne_eqb}
use Rattle.std.specs.Prelude.{IfOk, ⊤, ◌&&◌, ◌||◌, ◌==◌, drop, nat_lt, slice_range}
use Rattle.std.specs.List.{AllByRecursion}
use Rattle.mc_packet.specs.declared.packet.Packet.{Packet}
use Rattle.mc_packet.specs.declared.walk.Fault.{Fault}
use Rattle.mc_packet.specs.declared.walk.Level.{Level}
use Rattle.mc_packet.specs.declared.walk.Level.TheVariants as levels
use Rattle.mc_ebml.specs.declared.read.Head.{Head}
use Rattle.mc_ebml.specs.declared.read.EbmlError.{EbmlError}
use Rattle.mc_ebml.specs.declared.read.EbmlError.TheVariants as errors
use Rattle.mc_ebml.specs.Element.{head_at, uint_of}
use Rattle.mc_block.specs.declared.error.BlockError.{BlockError}
use Rattle.mc_block.specs.declared.parts.Place.{Place}
use Rattle.mc_block.specs.declared.parts.BlockHead.{BlockHead}
use Rattle.mc_block.specs.declared.parts.BlockBody.{BlockBody}
use Rattle.mc_block.specs.Frames.{frames_of}
use Rattle.mc_block.specs.Block.{head_of, track_of, frame_time, in_range, is_key, packets_from, packets_of}
use Rattle.mc_block.specs.Block.{◌>>=◌ as ◌and_then◌}
use Rattle.mc_tracks.specs.declared.track.Track.{Track}
use Rattle.mc_walk.specs.declared.plan.Plan.{Plan}
use Rattle.mc_walk.specs.declared.plan.Step.{Step}
use Rattle.mc_walk.specs.declared.plan.Step.TheVariants.{End, On}
use Rattle.mc_walk.specs.declared.movement.Role.{Role}
use Rattle.mc_walk.specs.declared.movement.Role.TheVariants as roles
use Rattle.mc_walk.specs.declared.movement.Move.{Move}
use Rattle.mc_walk.specs.declared.movement.Move.TheVariants as moves
use Rattle.mc_walk.specs.Moves.{settle, move_of}
use Rattle.mc_walk.specs.Blocks.{◌>>=◌, faulted, body_in, known_track, timed, tracked, opened, block_element_of}
use Rattle.mc_walk.specs.Walk.{stands_at, stamped, blocked, time_of, passed, moved, headed, step_at}

-- no sync points
abbrev pub AreLater : List Packet → Type 0
AreLater ps = AllByRecursion (λ (p : Packet). p.sync ≡ false) ps

abbrev pub AreSynced : List Packet → Type 0
AreSynced [] = ⊤
AreSynced (p ∷ ps) = (p.sync ≡ p.key) × AreLater ps

and-false : (b c : Bool) → c ≡ false → (b && c) ≡ false
and-false true c e = e
and-false false c e = refl

and-true : (b : Bool) → (b && true) ≡ b
and-true true = refl
and-true false = refl

-- ---- the frames of a block

if_ok-then : {X Y : Type 0} (P : Y → Type 0) (r : Result X BlockError) (f : X → Result Y BlockError) → ((x : X) → IfOk (f x) P) → IfOk (r and_then f) P
if_ok-then P (Ok x) f each = each x
if_ok-then P (Err e) f each = tt

and-later : (p : Packet) (packets : Result (List Packet) BlockError) → p.sync ≡ false → IfOk packets AreLater → IfOk (packets and_then (λ ps. Ok (p ∷ ps))) AreLater
and-later p (Err e) is rest = tt
and-later p (Ok ps) is rest = (is, rest)

and-synced : (p : Packet) (packets : Result (List Packet) BlockError) → p.sync ≡ p.key → IfOk packets AreLater → IfOk (packets and_then (λ ps. Ok (p ∷ ps))) AreSynced
and-synced p (Err e) is rest = tt
and-synced p (Ok ps) is rest = (is, rest)

frames-later : (place : Place) (head : BlockHead) (key : Bool) (rest : List ℕ) (lane : ℕ) (spans : List (ℕ × ℕ)) → 0 < lane
    → IfOk (packets_from place head key rest lane spans) AreLater
frames-later place head key rest lane [] behind = tt
frames-later place head key rest lane (span ∷ spans) behind =
    cond_both (in_range (frame_time place head.relative lane)) _ _ (λ packet. IfOk (packet and_then (λ p. packets_from place head key rest (lane + 1) spans and_then (λ ps. Ok (p ∷ ps)))) AreLater)
    (λ e. and-later _ (packets_from place head key rest (lane + 1) spans) (and-false key (lane == 0) (ne_eqb lane 0 (λ e. omega arith)))
    (frames-later place head key rest (lane + 1) spans (omega arith))) (λ e. tt)

frames-synced : (place : Place) (head : BlockHead) (key : Bool) (rest : List ℕ) (spans : List (ℕ × ℕ)) → IfOk (packets_from place head key rest 0 spans) AreSynced
frames-synced place head key rest [] = tt
frames-synced place head key rest (span ∷ spans) =
    cond_both (in_range (frame_time place head.relative 0)) _ _ (λ packet. IfOk (packet and_then (λ p. packets_from place head key rest (0 + 1) spans and_then (λ ps. Ok (p ∷ ps)))) AreSynced)
    (λ e. and-synced _ (packets_from place head key rest (0 + 1) spans) (and-true key) (frames-later place head key rest (0 + 1) spans (omega arith))) (λ e. tt)

packets-synced : (place : Place) (body : BlockBody) → IfOk (packets_of place body) AreSynced
unfolding packets_of
packets-synced place body =
    if_ok-then AreSynced (head_of body.octets) _ (λ head.
    if_ok-then AreSynced (frames_of head.flags (drop head.at body.octets)) _ (λ spans.
    frames-synced place head (is_key body.keyframe head.flags) (drop head.at body.octets) spans))

-- ---- a block element

faulted-if_ok : {X : Type 0} (P : X → Type 0) (r : Result X BlockError) → IfOk r P → IfOk (faulted r) P
faulted-if_ok P (Ok x) h = h
faulted-if_ok P (Err e) h = tt

if_found-then : {X Y : Type 0} (P : Y → Type 0) (r : Result X Fault) (f : X → Result Y Fault) → ((x : X) → IfOk (f x) P) → IfOk (r >>= f) P
if_found-then P (Ok x) f each = each x
if_found-then P (Err e) f each = tt

timed-synced : (place scale : ℕ) (time : Option ℕ) (body : BlockBody) (duration : Option ℕ) → IfOk (timed place scale time body duration) AreSynced
timed-synced place scale None body duration = tt
timed-synced place scale (Some time) body duration =
    let at : Place = record { pos = place; cluster_time = time; scale = scale; duration = duration } in
    faulted-if_ok AreSynced (packets_of at body) (packets-synced at body)

tracked-synced : (place scale : ℕ) (time : Option ℕ) (body : BlockBody) (track : Option Track) → IfOk (tracked place scale time body track) AreSynced
tracked-synced place scale time body None = tt
tracked-synced place scale time body (Some t) = timed-synced place scale time body t.duration

opened-synced : (tracks : List Track) (place scale : ℕ) (time : Option ℕ) (body : Option BlockBody) → IfOk (opened tracks place scale time body) AreSynced
opened-synced tracks place scale time None = tt
opened-synced tracks place scale time (Some body) =
    if_found-then AreSynced (faulted (track_of body.octets)) _ (λ n. tracked-synced place scale time body (known_track tracks n))

element-synced : (tracks : List Track) (scale place : ℕ) (time : Option ℕ) (role : Role) (octets : List ℕ)
    → IfOk (block_element_of tracks scale place time role octets) AreSynced
unfolding block_element_of
element-synced tracks scale place time role octets =
    if_found-then AreSynced (faulted (body_in role octets)) _ (λ body. opened-synced tracks place scale time body)

-- ---- a step of the walk

abbrev pub StepSynced : Step → Type 0
StepSynced (End ending) = ⊤
StepSynced (On to inner None) = ⊤
StepSynced (On to inner (Some packets)) = AreSynced packets

stamped-synced : (place stop : ℕ) (level : Level) (time : Result ℕ EbmlError) → StepSynced (stamped place stop level time)
stamped-synced place stop levels.Segment time = tt
stamped-synced place stop (levels.Cluster old end) (Ok time) = tt
stamped-synced place stop (levels.Cluster old end) (Err e) = tt

blocked-synced : (place stop : ℕ) (level : Level) (packets : Result (List Packet) Fault) → IfOk packets AreSynced → StepSynced (blocked place stop level packets)
blocked-synced place stop level (Ok packets) synced = synced
blocked-synced place stop level (Err fault) synced = tt

passed-synced : (plan : Plan) (place : ℕ) (role : Role) (body : List ℕ) (stop : ℕ) (level : Level) → StepSynced (passed plan place role body stop level)
passed-synced plan place roles.Other body stop level = tt
passed-synced plan place roles.Timestamp body stop level = stamped-synced place stop level (uint_of body)
passed-synced plan place roles.SimpleBlock body stop level =
    blocked-synced place stop level (block_element_of plan.tracks plan.scale place (time_of level) roles.SimpleBlock body)
    (element-synced plan.tracks plan.scale place (time_of level) roles.SimpleBlock body)
passed-synced plan place roles.BlockGroup body stop level =
    blocked-synced place stop level (block_element_of plan.tracks plan.scale place (time_of level) roles.BlockGroup body)
    (element-synced plan.tracks plan.scale place (time_of level) roles.BlockGroup body)

moved-synced : (plan : Plan) (place : ℕ) (m : Move) → StepSynced (moved plan place m)
moved-synced plan place (moves.Fault fault) = tt
moved-synced plan place (moves.Enter to level) = tt
moved-synced plan place (moves.Pass role at stop level) =
    cond_both (nat_lt (length plan.octets) stop) _ _ StepSynced (λ e. tt) (λ e. passed-synced plan place role (slice_range plan.octets at stop) stop level)

headed-synced : (plan : Plan) (place : ℕ) (level : Level) (h : Result Head EbmlError) → StepSynced (headed plan place level h)
headed-synced plan place level (Ok h) = moved-synced plan place (move_of plan.segment_end level h.id h.body h.size)
headed-synced plan place level (Err errors.Short) = tt
headed-synced plan place level (Err errors.BadId) = tt
headed-synced plan place level (Err errors.BadSize) = tt
headed-synced plan place level (Err errors.BadUint) = tt
headed-synced plan place level (Err errors.BadText) = tt

pub step-synced : (plan : Plan) (place : ℕ) (level : Level) → StepSynced (step_at plan place level)
unfolding step_at
step-synced plan place level =
    cond_both (stands_at plan.segment_end place || place == length plan.octets) _ _ StepSynced (λ e. tt)
    (λ e. headed-synced plan place (settle level place) (head_at plan.octets place))
