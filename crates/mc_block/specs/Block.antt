-- The packets of a block (RFC 9559, sections 10.1 to 10.3).
use Rattle.std.specs.Prelude.{◌≡◌, ℕ, ◌+◌, ◌*◌, ◌^◌, ◌<◌, Bool, not, ◌&&◌, nat_lt, nat_le, ◌==◌, if◌then◌else◌, List, [], ◌∷◌, length, drop, slice_range, map, sum_by, All, IfOk, IsTrue, ◌≤◌, Option, Some, None, option_map, unwrap_or, Result, Ok, Err, ℤ, pos, neg_ℤ, ◌+ℤ◌, ◌*ℤ◌, int_le}
use Rattle.std.specs.Int.{cast_signed, from_be_bytes, w16}
use Rattle.std.specs.List.{range_with_len}
use Rattle.mc_packet.specs.declared.packet.Packet.{Packet}
use Rattle.mc_ebml.specs.declared.read.Coded.{Coded}
use Rattle.mc_ebml.specs.declared.read.EbmlError.{EbmlError}
use Rattle.mc_ebml.specs.Element.{coded_at}
use Rattle.mc_ebml.specs.Written.{coded_width}
use Rattle.mc_block.specs.declared.error.BlockError.{BlockError}
use Rattle.mc_block.specs.declared.error.BlockError.TheVariants.{ShortBlock, TooLarge, TimeRange, BadGroup, NoMemory}
use Rattle.mc_block.specs.declared.parts.Place.{Place}
use Rattle.mc_block.specs.declared.parts.BlockHead.{BlockHead}
use Rattle.mc_block.specs.declared.parts.BlockBody.{BlockBody}
use Rattle.mc_ebml.specs.declared.whole.WholeElement.{WholeElement}
use Rattle.mc_block.specs.Frames.{frames_of}
use Rattle.mc_block.specs.Group.{children_of, first_block, refers}

infixl 10 ◌>>=◌
abbrev pub ◌>>=◌ : {A B : Type 0} → Result A BlockError → (A → Result B BlockError) → Result B BlockError
(Ok x) >>= f = f x
(Err e) >>= f = Err e

-- what a call answered is the value of the definition, unless memory was wanting
abbrev pub Fails : {X : Type 0} → BlockError → Result X BlockError → Type 0
Fails NoMemory value = Unit {0}
Fails e value = value ≡ Err e

abbrev pub Gives : {X : Type 0} → Result X BlockError → Result X BlockError → Type 0
Gives (Ok x) value = value ≡ Ok x
Gives (Err e) value = Fails e value

-- ---- the head

-- the track number, which may be all ones
abbrev pub number_of : Result Coded EbmlError → Result Coded BlockError
number_of (Ok n) = Ok n
number_of (Err e) = Err ShortBlock

unfoldable pub track_of : List ℕ → Result ℕ BlockError
track_of octets = number_of (coded_at octets 0) >>= λ n. Ok n.value

-- a signed number of two octets
abbrev pub relative_of : ℕ → ℕ → ℤ
relative_of high low = cast_signed w16 (from_be_bytes w16 (high ∷ low ∷ []))

-- a time and flags behind the track number
abbrev pub behind_track : Coded → List ℕ → Result BlockHead BlockError
behind_track n [] = Err ShortBlock
behind_track n (a ∷ []) = Err ShortBlock
behind_track n (a ∷ b ∷ []) = Err ShortBlock
behind_track n (a ∷ b ∷ flags ∷ rest) = Ok (record { track = n.value; relative = relative_of a b; flags = flags; at = n.width + 3 })

unfoldable pub head_of : List ℕ → Result BlockHead BlockError
head_of octets = number_of (coded_at octets 0) >>= λ n. behind_track n (drop n.width octets)

-- ---- the block of an element

abbrev pub is_large : List ℕ → Bool
is_large body = nat_lt 67108864 (length body)

-- the block of a SimpleBlock
abbrev pub simple_body_of : List ℕ → Result BlockBody BlockError
simple_body_of body = if is_large body then Err TooLarge else Ok (record { octets = body; keyframe = None })

-- a Block is a keyframe where nothing refers to another
abbrev pub block_in : List ℕ → List WholeElement → WholeElement → BlockBody
block_in body cs c = record { octets = slice_range body c.at c.stop; keyframe = Some (not (refers cs)) }

abbrev pub block_among : List ℕ → Option (List WholeElement) → Result (Option BlockBody) BlockError
block_among body None = Err BadGroup
block_among body (Some cs) = Ok (option_map (block_in body cs) (first_block cs))

-- the first Block of a BlockGroup, if it has one
unfoldable pub group_body_of : List ℕ → Result (Option BlockBody) BlockError
group_body_of body = if is_large body then Err TooLarge else block_among body (children_of body)

-- ---- the packets

-- in nanoseconds
abbrev pub frame_time : Place → ℤ → ℕ → ℤ
frame_time place relative lane = ((pos place.cluster_time +ℤ relative) *ℤ pos place.scale) +ℤ pos (lane * unwrap_or place.duration 0)

abbrev pub in_range : ℤ → Bool
in_range time = int_le (neg_ℤ (pos (2 ^ 62))) time && int_le time (pos (2 ^ 62))

abbrev pub time_of : Place → ℤ → ℕ → Option ℤ
time_of place relative lane = if in_range (frame_time place relative lane) then Some (frame_time place relative lane) else None

-- the highest bit of a SimpleBlock's flags
abbrev pub is_key : Option Bool → ℕ → Bool
is_key None flags = nat_le 128 flags
is_key (Some key) flags = key

-- the packet of a frame, whose time is in range; the first frame of a keyframe is a sync point
abbrev pub packet_of : Place → BlockHead → Bool → List ℕ → ℕ → ℕ × ℕ → Result Packet BlockError
packet_of place head key rest lane span =
    if in_range (frame_time place head.relative lane)
    then Ok (record {
      track = head.track;
      pos = record { block = place.pos; lane = lane };
      time = frame_time place head.relative lane;
      sync = key && lane == 0;
      key = key;
      body = slice_range rest span.0 span.1;
    })
    else Err TimeRange

-- the packets of the frames from a lane on
abbrev pub packets_from : Place → BlockHead → Bool → List ℕ → ℕ → List (ℕ × ℕ) → Result (List Packet) BlockError
packets_from place head key rest lane [] = Ok []
packets_from place head key rest lane (span ∷ spans) = do
  packet ← packet_of place head key rest lane span
  packets ← packets_from place head key rest (lane + 1) spans
  Ok (packet ∷ packets)

-- the packets of what stands behind a head
abbrev pub packets_behind : Place → BlockHead → Bool → List ℕ → Result (List Packet) BlockError
packets_behind place head key rest = frames_of head.flags rest >>= λ spans. packets_from place head key rest 0 spans

-- the packets of a block
unfoldable pub packets_of : Place → BlockBody → Result (List Packet) BlockError
packets_of place body =
    head_of body.octets >>= λ head. packets_behind place head (is_key body.keyframe head.flags) (drop head.at body.octets)

-- the packets of a SimpleBlock
unfoldable pub block_of : Place → List ℕ → Result (List Packet) BlockError
block_of place body = simple_body_of body >>= packets_of place

abbrev pub packets_in : Place → Option BlockBody → Result (List Packet) BlockError
packets_in place None = Ok []
packets_in place (Some body) = packets_of place body

-- the packets of a BlockGroup
unfoldable pub group_of : Place → List ℕ → Result (List Packet) BlockError
group_of place body = group_body_of body >>= packets_in place

-- what the packets of a block have in common: its track and place, lanes from 0 on, times in range, and payloads
-- that take no more than the block's octets, also where the track number, the time and the flags are written before them
-- in the fewest octets
pub record AreOfBlock (place : Place) (octets : List ℕ) (packets : List Packet) : Type 0 where
  pub tracks : All (λ (p : Packet). track_of octets ≡ Ok p.track) packets
  pub blocks : All (λ (p : Packet). p.pos.block ≡ place.pos) packets
  pub lanes : map (λ (p : Packet). p.pos.lane) packets ≡ range_with_len 0 (length packets)
  pub times : All (λ (p : Packet). IsTrue (in_range p.time)) packets
  pub payloads : sum_by (λ (p : Packet). length p.body) packets ≤ length octets
  pub room : (n : ℕ) → track_of octets ≡ Ok n → coded_width n + 3 + sum_by (λ (p : Packet). length p.body) packets ≤ length octets

-- the packets of any block are so
abbrev pub PacketsAreOfBlocks : Type 0
PacketsAreOfBlocks = (place : Place) (body : BlockBody) → IfOk (packets_of place body) (AreOfBlock place body.octets)

-- the track number of any block can be written
abbrev pub NumbersAreSmall : Type 0
NumbersAreSmall = (octets : List ℕ) → IfOk (track_of octets) (λ n. n < 2 ^ 56)
