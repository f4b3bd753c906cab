-- A good lace gives the first of its frames, where the times of all lie in range.
use Rattle.std.proofs.Common.{◌≡◌, ℕ, suc, ◌+◌, ◌-◌, ◌<◌, Bool, true, false, ◌&&◌, List, [], ◌∷◌, length, drop, Option, Some, None, Result, Ok, Err, ℤ, refl, sym, ap, ◌∙◌, arith}
use Rattle.std.specs.Prelude.{if◌then◌else◌, ⊤, ◌==◌, slice_range}
use Rattle.mc_packet.specs.declared.packet.Packet.{Packet}
use Rattle.mc_packet.specs.declared.walk.Fault.{Fault}
use Rattle.mc_packet.specs.declared.walk.Fault.TheVariants as faults
use Rattle.mc_block.specs.declared.error.BlockError.{BlockError}
use Rattle.mc_block.specs.declared.error.BlockError.TheVariants.{TimeRange, BadLace}
use Rattle.mc_block.specs.declared.parts.Place.{Place}
use Rattle.mc_block.specs.declared.parts.BlockHead.{BlockHead}
use Rattle.mc_block.specs.declared.lace_reader.LaceReader.{LaceReader}
use Rattle.mc_block.specs.Block.{◌>>=◌, frame_time, in_range, time_of, packets_from}
use Rattle.mc_block.specs.Frames.{frames_of}
use Rattle.mc_block.specs.Fronts.{counted, frames_if, is_good, Begins}
use Rattle.mc_walk.specs.declared.front.BlockMark.{BlockMark}
use Rattle.mc_walk.specs.declared.front.LacedBlock.{LacedBlock}
use Rattle.mc_walk.specs.Blocks.{faulted}
use Rattle.mc_walk.specs.Glances.{block_mark, marked, times_fit, frames_mark, IsLace, LaceTells}

-- ---- packets, lane by lane

abbrev Lanes : Bool → Result (List Packet) BlockError → Type 0
Lanes true (Ok packets) = ⊤
Lanes true (Err e) = ⊥
Lanes false (Ok packets) = ⊥
Lanes false (Err e) = e ≡ TimeRange

abbrev behind : Bool → Packet → Result (List Packet) BlockError → Result (List Packet) BlockError
behind is p others = (if is then Ok p else Err TimeRange) >>= (λ p. others >>= (λ ps. Ok (p ∷ ps)))

lane_before : (is fit : Bool) (p : Packet) (others : Result (List Packet) BlockError) → Lanes fit others → Lanes (is && fit) (behind is p others)
lane_before true true p (Ok ps) h = tt
lane_before true true p (Err e) h = absurd h
lane_before true false p (Ok ps) h = absurd h
lane_before true false p (Err e) h = h
lane_before false fit p others h = refl

abbrev packet_in : Place → BlockHead → Bool → List ℕ → ℕ → ℕ × ℕ → Packet
packet_in place head key rest lane span = record {
  track = head.track;
  pos = record { block = place.pos; lane = lane };
  time = frame_time place head.relative lane;
  sync = key && lane == 0;
  key = key;
  body = slice_range rest span.0 span.1;
}

lanes : (place : Place) (head : BlockHead) (key : Bool) (rest : List ℕ) (lane : ℕ) (spans : List (ℕ × ℕ))
    → Lanes (times_fit place head.relative lane (length spans)) (packets_from place head key rest lane spans)
lanes place head key rest lane [] = tt
lanes place head key rest lane (span ∷ spans) =
    lane_before (in_range (frame_time place head.relative lane)) (times_fit place head.relative (lane + 1) (length spans)) (packet_in place head key rest lane span)
    (packets_from place head key rest (lane + 1) spans) (lanes place head key rest (lane + 1) spans)

first_by : (is fit : Bool) (p : Packet) (others : Result (List Packet) BlockError) → Lanes fit others
    → marked (faulted (behind is p others)) ≡ (if is && fit then Ok (Some (block_mark p)) else Err faults.TimeRange)
first_by true true p (Ok ps) h = refl
first_by true true p (Err e) h = absurd h
first_by true false p (Ok ps) h = absurd h
first_by true false p (Err e) h = rw h refl
first_by false fit p others h = refl

first_of : (place : Place) (head : BlockHead) (key : Bool) (rest : List ℕ) (span : ℕ × ℕ) (spans : List (ℕ × ℕ))
    → marked (faulted (packets_from place head key rest 0 (span ∷ spans))) ≡ frames_mark place head key (length (span ∷ spans))
first_of place head key rest span spans =
    first_by (in_range (frame_time place head.relative 0)) (times_fit place head.relative 1 (length spans)) (packet_in place head key rest 0 span)
    (packets_from place head key rest 1 spans) (lanes place head key rest 1 spans)

-- ---- a lace

by_frames : (place : Place) (head : BlockHead) (key : Bool) (rest : List ℕ) (n : ℕ) (frames : Result (List (ℕ × ℕ)) BlockError) (good : Bool) → counted frames ≡ frames_if good n
    → marked (faulted (frames >>= (λ spans. packets_from place head key rest 0 spans))) ≡ (if good then frames_mark place head key (n + 1) else Err faults.BadLace)
by_frames place head key rest n (Ok []) true e = let none : 0 ≡ n + 1 = cc e in absurd (omega (arith, none))
by_frames place head key rest n (Ok (span ∷ spans)) true e =
    let many : length (span ∷ spans) ≡ n + 1 = cc e in first_of place head key rest span spans ∙ ap (frames_mark place head key) many
by_frames place head key rest n (Ok spans) false e = absurd (cc e)
by_frames place head key rest n (Err error) true e = absurd (cc e)
by_frames place head key rest n (Err error) false e = let bad : error ≡ BadLace = cc e in rw bad refl

pub lace_tells : (b : LacedBlock) (octets : List ℕ) (first : Result (Option BlockMark) Fault) (lace : Option LaceReader) → IsLace b octets first
    → Begins b.head.flags b.count (drop (b.head.at + 1) octets) lace → LaceTells b octets first lace
lace_tells b octets first None is begins =
    let bad : counted (frames_of b.head.flags (drop b.head.at octets)) ≡ frames_if false b.count = rw is.counted begins in
    is.same ∙ by_frames b.place b.head b.key (drop b.head.at octets) b.count (frames_of b.head.flags (drop b.head.at octets)) false bad
lace_tells b octets first (Some lace) is begins =
    let good : counted (frames_of b.head.flags (drop b.head.at octets)) ≡ frames_if (is_good lace (drop (b.head.at + 1) octets)) b.count = rw is.counted begins in
    is.same ∙ by_frames b.place b.head b.key (drop b.head.at octets) b.count (frames_of b.head.flags (drop b.head.at octets)) (is_good lace (drop (b.head.at + 1) octets)) good

-- ---- the times of frames

is_ranged : (place : Place) (relative : ℤ) (lane : ℕ) (t : ℤ) → Some t ≡ time_of place relative lane → in_range (frame_time place relative lane) ≡ true
is_ranged place relative lane t some = go (in_range (frame_time place relative lane)) refl some
  where
    go : (is : Bool) → in_range (frame_time place relative lane) ≡ is → Some t ≡ (if is then Some (frame_time place relative lane) else None) → in_range (frame_time place relative lane) ≡ true
    go true e some = e
    go false e some = absurd (cc some)

pub time_fits : (place : Place) (relative : ℤ) (lane count : ℕ) (t : ℤ) (total : Bool) → lane < count → Some t ≡ time_of place relative lane
    → times_fit place relative lane (count - lane) ≡ total → times_fit place relative (lane + 1) (count - (lane + 1)) ≡ total
time_fits place relative lane count t total lt some so_far =
    let k : count - lane ≡ suc (count - (lane + 1)) = omega arith in
    let one : times_fit place relative lane (count - lane) ≡ times_fit place relative (lane + 1) (count - (lane + 1)) = rw (k, is_ranged place relative lane t some) refl in
    sym one ∙ so_far

-- where the times of all frames lie in range, that of the first does
pub first_in_range : (place : Place) (relative : ℤ) (n : ℕ) → times_fit place relative 0 (n + 1) ≡ true → in_range (frame_time place relative 0) ≡ true
first_in_range place relative n fit = go (in_range (frame_time place relative 0)) (rw k at fit)
  where
    k : n + 1 ≡ suc n
    k = omega arith

    go : (is : Bool) → (is && times_fit place relative 1 n) ≡ true → is ≡ true
    go true e = refl
    go false e = absurd (cc e)
