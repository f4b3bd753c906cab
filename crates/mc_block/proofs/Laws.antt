-- What the packets of a block have in common.
use Rattle.std.proofs.Common.{◌≡◌, ℕ, ◌+◌, ◌^◌, ◌<◌, ◌-◌, ◌≤◌, ◌==◌, Bool, true, false, ◌&&◌, cond, List, [], ◌∷◌, length, drop, Result, Ok, Err, refl, ap, arith, length-drop, IfOk, map}
use Rattle.std.specs.Prelude.{slice_range, sum_by, All}
use Rattle.std.specs.List.{range_with_len}
use Rattle.std.proofs.lemmas.List.{length-take}
use Rattle.std.proofs.lemmas.List.Sums.{sum_by-cons}
use Rattle.std.proofs.lemmas.List.Elements.{All-cons}
use Rattle.mc_packet.specs.declared.packet.Packet.{Packet}
use Rattle.mc_ebml.specs.declared.read.Coded.{Coded}
use Rattle.mc_ebml.specs.declared.read.EbmlError.{EbmlError}
use Rattle.mc_ebml.specs.Element.{coded_at}
use Rattle.mc_block.specs.declared.error.BlockError.{BlockError}
use Rattle.mc_block.specs.declared.error.BlockError.TheVariants.{TimeRange}
use Rattle.mc_block.specs.declared.parts.Place.{Place}
use Rattle.mc_block.specs.declared.parts.BlockHead.{BlockHead}
use Rattle.mc_block.specs.declared.parts.BlockBody.{BlockBody}
use Rattle.mc_block.specs.Frames.{frames_of, AreRun, FillUp}
use Rattle.mc_block.specs.Block.{◌>>=◌, frame_time, in_range, packets_from, packets_behind, packets_of, is_key, head_of, number_of, behind_track, track_of, AreOfBlock}
use Rattle.mc_ebml.specs.Written.{coded_width}
use Rattle.mc_block.proofs.Narrow.{IsNarrow, coded_narrow}
use Rattle.mc_block.proofs.Runs.{frames_fill}

-- the same from a lane on, of frames that lie between two places
pub record AreFrames (place : Place) (head : BlockHead) (lane at stop : ℕ) (packets : List Packet) : Type 0 where
  pub tracks : All (λ (p : Packet). p.track ≡ head.track) packets
  pub blocks : All (λ (p : Packet). p.pos.block ≡ place.pos) packets
  pub lanes : map (λ (p : Packet). p.pos.lane) packets ≡ range_with_len lane (length packets)
  pub times : All (λ (p : Packet). in_range p.time ≡ true) packets
  pub payloads : at + sum_by (λ (p : Packet). length p.body) packets ≤ stop

slice_len : (rest : List ℕ) (a b : ℕ) → length (slice_range rest a b) ≤ b - a
slice_len rest a b = omega (arith, length-take (b - a) (drop a rest))

added : (place : Place) (head : BlockHead) (lane at stop end : ℕ) (p : Packet) (packets : List Packet) → p.track ≡ head.track → p.pos.block ≡ place.pos → p.pos.lane ≡ lane
    → in_range p.time ≡ true → length p.body ≤ end - at → at ≤ end → AreFrames place head (lane + 1) end stop packets → AreFrames place head lane at stop (p ∷ packets)
added place head lane at stop end p packets t b l r s le others = record {
  tracks = All-cons (λ (q : Packet). q.track ≡ head.track) p packets t others.tracks;
  blocks = All-cons (λ (q : Packet). q.pos.block ≡ place.pos) p packets b others.blocks;
  lanes = cc (others.lanes, l);
  times = All-cons (λ (q : Packet). in_range q.time ≡ true) p packets r others.times;
  payloads = omega (arith, sum_by-cons (λ (q : Packet). length q.body) p packets, others.payloads);
}

no_frames : (place : Place) (head : BlockHead) (lane at stop : ℕ) → at ≤ stop → AreFrames place head lane at stop []
no_frames place head lane at stop h = record {
  tracks = λ k d lt. absurd (omega arith);
  blocks = λ k d lt. absurd (omega arith);
  lanes = refl;
  times = λ k d lt. absurd (omega arith);
  payloads = omega arith;
}

-- the packet of a frame, where it has one
abbrev made : Place → BlockHead → Bool → List ℕ → ℕ → ℕ × ℕ → Packet
made place head key rest lane span = record {
  track = head.track;
  pos = record { block = place.pos; lane = lane };
  time = frame_time place head.relative lane;
  sync = key && lane == 0;
  key = key;
  body = slice_range rest span.0 span.1;
}

from_frames : (place : Place) (head : BlockHead) (key : Bool) (rest : List ℕ) (lane at stop : ℕ) (spans : List (ℕ × ℕ)) → AreRun at stop spans
    → IfOk (packets_from place head key rest lane spans) (AreFrames place head lane at stop)
from_frames place head key rest lane at stop [] run = no_frames place head lane at stop (omega arith)
from_frames place head key rest lane at stop (span ∷ spans) run =
    timed (in_range (frame_time place head.relative lane)) refl (packets_from place head key rest (lane + 1) spans)
    (from_frames place head key rest (lane + 1) span.1 stop spans run.3)
  where
    p : Packet
    p = made place head key rest lane span

    joined : (r : Result (List Packet) BlockError) → in_range (frame_time place head.relative lane) ≡ true → IfOk r (AreFrames place head (lane + 1) span.1 stop)
        → IfOk (r >>= λ packets. Ok (p ∷ packets)) (AreFrames place head lane at stop)
    joined (Err e) is others = tt
    joined (Ok packets) is others =
        added place head lane at stop span.1 p packets refl refl refl is (omega (arith, slice_len rest span.0 span.1, run.0)) run.1 others

    timed : (is : Bool) → in_range (frame_time place head.relative lane) ≡ is → (r : Result (List Packet) BlockError) → IfOk r (AreFrames place head (lane + 1) span.1 stop)
        → IfOk (cond is (Ok p) (Err TimeRange) >>= λ packet. r >>= λ packets. Ok (packet ∷ packets)) (AreFrames place head lane at stop)
    timed true e r others = joined r e others
    timed false e r others = tt

from_start : (place : Place) (head : BlockHead) (key : Bool) (rest : List ℕ) (stop : ℕ) (spans : List (ℕ × ℕ)) → FillUp stop spans
    → IfOk (packets_from place head key rest 0 spans) (AreFrames place head 0 0 stop)
from_start place head key rest stop [] fills = absurd fills
from_start place head key rest stop (span ∷ spans) fills =
    go (packets_from place head key rest 0 (span ∷ spans)) (from_frames place head key rest 0 span.0 stop (span ∷ spans) fills)
  where
    go : (r : Result (List Packet) BlockError) → IfOk r (AreFrames place head 0 span.0 stop) → IfOk r (AreFrames place head 0 0 stop)
    go (Err e) h = tt
    go (Ok packets) h = record { tracks = h.tracks; blocks = h.blocks; lanes = h.lanes; times = h.times; payloads = omega (arith, h.payloads) }

behind_frames : (place : Place) (head : BlockHead) (key : Bool) (rest : List ℕ) → IfOk (packets_behind place head key rest) (AreFrames place head 0 0 (length rest))
behind_frames place head key rest = go (frames_of head.flags rest) (frames_fill head.flags rest)
  where
    go : (r : Result (List (ℕ × ℕ)) BlockError) → IfOk r (FillUp (length rest)) → IfOk (r >>= λ spans. packets_from place head key rest 0 spans) (AreFrames place head 0 0 (length rest))
    go (Err e) fills = tt
    go (Ok spans) fills = from_start place head key rest (length rest) spans fills

abbrev pub Bears : Result ℕ BlockError → BlockHead → Type 0
Bears track h = track ≡ Ok h.track

-- a head bears the block's track number
head_track : (octets : List ℕ) → IfOk (head_of octets) (Bears (track_of octets))
unfolding head_of track_of
head_track octets = go (number_of (coded_at octets 0))
  where
    behind : (n : Coded) (rest : List ℕ) → IfOk (behind_track n rest) (Bears (Ok n.value))
    behind n [] = tt
    behind n (a ∷ []) = tt
    behind n (a ∷ b ∷ []) = tt
    behind n (a ∷ b ∷ flags ∷ rest) = refl

    go : (r : Result Coded BlockError) → IfOk (r >>= λ n. behind_track n (drop n.width octets)) (Bears (r >>= λ n. Ok n.value))
    go (Err e) = tt
    go (Ok n) = behind n (drop n.width octets)

-- behind the head, which is no shorter than it has to be
abbrev pub Rests : List ℕ → BlockHead → Type 0
Rests octets h = (coded_width h.track + 3 ≤ h.at) × (h.at ≤ length octets)

behind_rests : (octets : List ℕ) (n : Coded) (rest : List ℕ) → drop n.width octets ≡ rest → IsNarrow n → IfOk (behind_track n rest) (Rests octets)
behind_rests octets n [] is narrow = tt
behind_rests octets n (a ∷ []) is narrow = tt
behind_rests octets n (a ∷ b ∷ []) is narrow = tt
behind_rests octets n (a ∷ b ∷ flags ∷ rest) is narrow = let wide = narrow.0 in (omega arith, omega (arith, length-drop n.width octets, ap length is))

head_rests : (octets : List ℕ) → IfOk (head_of octets) (Rests octets)
unfolding head_of
head_rests octets = go (coded_at octets 0) (coded_narrow octets 0)
  where
    go : (r : Result Coded EbmlError) → IfOk r IsNarrow → IfOk (number_of r >>= λ n. behind_track n (drop n.width octets)) (Rests octets)
    go (Err e) h = tt
    go (Ok n) h = behind_rests octets n (drop n.width octets) refl h

pub track_small : (octets : List ℕ) → IfOk (track_of octets) (λ n. n < 2 ^ 56)
unfolding track_of
track_small octets = go (coded_at octets 0) (coded_narrow octets 0)
  where
    go : (r : Result Coded EbmlError) → IfOk r IsNarrow → IfOk (number_of r >>= λ n. Ok n.value) (λ n. n < 2 ^ 56)
    go (Err e) h = tt
    go (Ok n) h = h.1

-- whatever the octets are
pub packets_are_of_block : (place : Place) (body : BlockBody) → IfOk (packets_of place body) (AreOfBlock place body.octets)
unfolding packets_of
packets_are_of_block place body = go (head_of body.octets) (head_track body.octets) (head_rests body.octets)
  where
    told : (head : BlockHead) → track_of body.octets ≡ Ok head.track → Rests body.octets head → (r : Result (List Packet) BlockError)
        → IfOk r (AreFrames place head 0 0 (length (drop head.at body.octets))) → IfOk r (AreOfBlock place body.octets)
    told head e rests (Err f) h = tt
    told head e rests (Ok packets) h = record {
      tracks = λ k d lt. let t = h.tracks k d lt in cc (e, t);
      blocks = h.blocks;
      lanes = h.lanes;
      times = h.times;
      payloads = omega (arith, h.payloads, length-drop head.at body.octets);
      room = λ n is.
          let same : n ≡ head.track = cc (e, is) in
          let low = rests.0 in
          let high = rests.1 in
          rw same (omega (arith, h.payloads, length-drop head.at body.octets));
    }

    go : (r : Result BlockHead BlockError) → IfOk r (Bears (track_of body.octets)) → IfOk r (Rests body.octets)
        → IfOk (r >>= λ head. packets_behind place head (is_key body.keyframe head.flags) (drop head.at body.octets)) (AreOfBlock place body.octets)
    go (Err e) h rests = tt
    go (Ok head) h rests =
        let rest : List ℕ = drop head.at body.octets in
        let key : Bool = is_key body.keyframe head.flags in
        told head h rests (packets_behind place head key rest) (behind_frames place head key rest)
