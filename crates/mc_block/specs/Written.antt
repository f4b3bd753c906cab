-- The octets of an unlaced SimpleBlock (RFC 9559, section 10.2).
use Rattle.std.specs.Prelude.{◌≡◌, ℕ, ◌^◌, ◌<◌, ◌≤◌, Bool, if◌then◌else◌, List, [], ◌∷◌, ◌++◌, length, Ok, ℤ, FitsSigned, IsTrue}
use Rattle.std.specs.Int.{cast_unsigned, to_be_bytes, w16}
use Rattle.mc_ebml.specs.Ids.{SIMPLE_BLOCK}
use Rattle.mc_ebml.specs.Written.{coded_octets, element_octets, HasElement}
use Rattle.mc_block.specs.declared.parts.Place.{Place}
use Rattle.mc_block.specs.Block.{frame_time, in_range, block_of}

-- the flags of a keyframe, or none
abbrev pub key_flags : Bool → ℕ
key_flags key = if key then 0x80 else 0

-- a block's octets: its track number in the fewest octets, its relative time, flags and one frame
abbrev pub plain_block : ℕ → ℤ → Bool → List ℕ → List ℕ
plain_block track relative key payload =
    coded_octets track ++ (to_be_bytes w16 (cast_unsigned w16 relative) ++ (key_flags key ∷ payload))

-- the element
abbrev pub simple_block : ℕ → ℤ → Bool → List ℕ → List ℕ
simple_block track relative key payload = element_octets SIMPLE_BLOCK (plain_block track relative key payload)

-- at each place where its time is in range a body of no more than 67,108,864 octets is this one packet
abbrev pub HasPacket : ℕ → ℤ → Bool → List ℕ → List ℕ → Type 0
HasPacket track relative key payload body = (place : Place) → length body ≤ 67108864 → IsTrue (in_range (frame_time place relative 0))
    → block_of place body ≡ Ok (record {
      track = track;
      pos = record { block = place.pos; lane = 0 };
      time = frame_time place relative 0;
      sync = key;
      key = key;
      body = payload;
    } ∷ [])

-- behind what stood there the element is read, and its body is this one packet
abbrev pub HasSimpleBlock : List ℕ → List ℕ → ℕ → ℤ → Bool → List ℕ → Type 0
HasSimpleBlock before after track relative key payload =
    HasElement before after SIMPLE_BLOCK (length (plain_block track relative key payload)) (HasPacket track relative key payload)

-- the body of a plain block that is written is its one packet
abbrev pub PlainBlocksReadBack : Type 0
PlainBlocksReadBack = (track : ℕ) (relative : ℤ) (key : Bool) (payload : List ℕ) → track < 2 ^ 56 → FitsSigned w16 relative
    → HasPacket track relative key payload (plain_block track relative key payload)
