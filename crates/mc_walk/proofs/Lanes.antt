-- The packets of one block element stand at its offset, in the order of their lanes.
use Rattle.std.proofs.Common.{◌≡◌, ℕ, ◌+◌, ◌≤◌, Bool, List, [], ◌∷◌, Result, Ok, Err, refl, inr, arith}
use Rattle.std.proofs.lemmas.Bool.{cond_both}
use Rattle.std.specs.Prelude.{IfOk, drop}
use Rattle.std.specs.List.{AllByRecursion}
use Rattle.mc_packet.specs.declared.packet.Packet.{Packet}
use Rattle.mc_block.specs.declared.error.BlockError.{BlockError}
use Rattle.mc_block.specs.declared.parts.Place.{Place}
use Rattle.mc_block.specs.declared.parts.BlockHead.{BlockHead}
use Rattle.mc_block.specs.declared.parts.BlockBody.{BlockBody}
use Rattle.mc_block.specs.Frames.{frames_of}
use Rattle.mc_block.specs.Block.{head_of, frame_time, in_range, is_key, packets_from, packets_of}
use Rattle.mc_block.specs.Block.{◌>>=◌ as ◌and_then◌}
use Rattle.mc_packet.specs.Shape.{StandsBefore, InOrder}

pub all-weaker : {X : Type 0} (P Q : X → Type 0) → ((x : X) → P x → Q x) → (xs : List X) → AllByRecursion P xs → AllByRecursion Q xs
all-weaker P Q weaker [] h = tt
all-weaker P Q weaker (x ∷ xs) h = (weaker x h.0, all-weaker P Q weaker xs h.1)

-- a frame of the block element at a place, of this lane or a later one
abbrev pub IsFrom : ℕ → ℕ → Packet → Type 0
IsFrom place lane p = (p.pos.block ≡ place) × (lane ≤ p.pos.lane)

abbrev pub FramesFrom : ℕ → ℕ → List Packet → Type 0
FramesFrom place lane ps = AllByRecursion (IsFrom place lane) ps × InOrder ps

if_ok-then : {X Y : Type 0} (P : Y → Type 0) (r : Result X BlockError) (f : X → Result Y BlockError) → ((x : X) → IfOk (f x) P) → IfOk (r and_then f) P
if_ok-then P (Ok x) f each = each x
if_ok-then P (Err e) f each = tt

and-frames : (p : Packet) (place lane : ℕ) (packets : Result (List Packet) BlockError) → p.pos.block ≡ place → p.pos.lane ≡ lane
    → IfOk packets (FramesFrom place (lane + 1)) → IfOk (packets and_then (λ ps. Ok (p ∷ ps))) (FramesFrom place lane)
and-frames p place lane (Err e) at is frames = tt
and-frames p place lane (Ok ps) at is frames = (
  ((at, omega arith), all-weaker (IsFrom place (lane + 1)) (IsFrom place lane) (λ q h. (h.0, omega arith)) ps frames.0),
  (all-weaker (IsFrom place (lane + 1)) (StandsBefore p) (λ q h. inr (cc, omega arith)) ps frames.0, frames.1),
)

packets_from-frames : (place : Place) (head : BlockHead) (key : Bool) (rest : List ℕ) (lane : ℕ) (spans : List (ℕ × ℕ))
    → IfOk (packets_from place head key rest lane spans) (FramesFrom place.pos lane)
packets_from-frames place head key rest lane [] = (tt, tt)
packets_from-frames place head key rest lane (span ∷ spans) =
    cond_both (in_range (frame_time place head.relative lane)) _ _ (λ packet. IfOk (packet and_then (λ p. packets_from place head key rest (lane + 1) spans and_then (λ ps. Ok (p ∷ ps)))) (FramesFrom place.pos lane))
    (λ e. and-frames _ place.pos lane (packets_from place head key rest (lane + 1) spans) refl refl
    (packets_from-frames place head key rest (lane + 1) spans)) (λ e. tt)

pub packets_of-frames : (place : Place) (body : BlockBody) → IfOk (packets_of place body) (FramesFrom place.pos 0)
unfolding packets_of
packets_of-frames place body =
    if_ok-then (FramesFrom place.pos 0) (head_of body.octets) _ (λ head.
    if_ok-then (FramesFrom place.pos 0) (frames_of head.flags (drop head.at body.octets)) _ (λ spans.
    packets_from-frames place head (is_key body.keyframe head.flags) (drop head.at body.octets) 0 spans))
