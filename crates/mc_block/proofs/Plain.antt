-- An unlaced SimpleBlock, read back.
use Rattle.std.proofs.Common.{◌≡◌, ℕ, ◌+◌, ◌-◌, ◌*◌, ◌^◌, Bool, true, false, ◌&&◌, List, [], ◌∷◌, ◌++◌, length, drop, None, Ok, refl, ap, ◌∙◌, arith, append_assoc, length-append, ltb, ℤ}
use Rattle.std.proofs.Math.Seq.{drop-append_seam, drop-append-add}
use Rattle.std.proofs.lemmas.List.{take_all}
use Rattle.std.proofs.lemmas.Bool.{le-ltb}
use Rattle.std.proofs.lemmas.Nat.{from_be_bytes-to_be_bytes_2}
use Rattle.std.proofs.lemmas.Int.{to_z-of_z}
use Rattle.std.proofs.Math.Facts.{Fits-of_z}
use Rattle.std.specs.Int.{byte_at, cast_signed, cast_unsigned, w16}
use Rattle.std.specs.Prelude.{slice_range, FitsSigned}
use Rattle.byteorder.specs.Numbers.{length-bytes_high_first}
use Rattle.mc_packet.specs.declared.packet.Packet.{Packet}
use Rattle.mc_ebml.specs.declared.read.Size.{Size}
use Rattle.mc_ebml.specs.declared.read.Size.TheVariants.{Known}
use Rattle.mc_ebml.specs.Element.{coded_at}
use Rattle.mc_ebml.specs.Written.{coded_width, coded_octets, head_octets, HasCoded, HasHead, HasElement}
use Rattle.mc_block.specs.declared.parts.Place.{Place}
use Rattle.mc_block.specs.declared.parts.BlockHead.{BlockHead}
use Rattle.mc_block.specs.Frames.{frames_of}
use Rattle.mc_block.specs.Block.{relative_of, head_of, is_key, packets_of, packets_behind, block_of, frame_time, in_range}
use Rattle.mc_block.specs.Written.{key_flags, plain_block, HasPacket}
use Rattle.mc_block.proofs.Laces.{single_frame}

-- a head is read too where more follows
pub has_head : (before with more after : List ℕ) (id : ℕ) (size : Size) → HasHead before with id size → after ≡ with ++ more → HasHead before after id size
has_head before with more after id size h e rest =
    let whole : after ++ rest ≡ with ++ (more ++ rest) = ap (λ (x : List ℕ). x ++ rest) e ∙ append_assoc with more rest in
    rw whole (h (more ++ rest))

-- a coded number at the front
pub at_front : (n : ℕ) (before after rest : List ℕ) → HasCoded before after n → after ≡ before ++ coded_octets n
    → coded_at (coded_octets n ++ rest) 0 ≡ Ok (record { value = n; width = coded_width n })
unfolding coded_at
at_front n before after rest h e =
    let whole : after ++ rest ≡ before ++ (coded_octets n ++ rest) = ap (λ (x : List ℕ). x ++ rest) e ∙ append_assoc before (coded_octets n) rest in
    let moved = rw whole at (h rest) in
    rw (drop-append_seam before (coded_octets n ++ rest)) at moved

length-coded : (n : ℕ) → length (coded_octets n) ≡ coded_width n
unfolding coded_octets
length-coded n = length-bytes_high_first (coded_width n) (2 ^ (7 * coded_width n) + n)

-- what stands behind the number, and further on
behind_number : (n : ℕ) (rest : List ℕ) → drop (coded_width n) (coded_octets n ++ rest) ≡ rest
behind_number n rest = rw (← length-coded n) (drop-append_seam (coded_octets n) rest)

behind_coded : (n m : ℕ) (rest : List ℕ) → drop (coded_width n + m) (coded_octets n ++ rest) ≡ drop m rest
behind_coded n m rest = rw (← length-coded n) (drop-append-add (coded_octets n) rest m)

relative_back : (z : ℤ) → FitsSigned w16 z → relative_of (byte_at 1 (cast_unsigned w16 z)) (byte_at 0 (cast_unsigned w16 z)) ≡ z
relative_back z fits =
    ap (cast_signed w16) (from_be_bytes-to_be_bytes_2 (cast_unsigned w16 z) (omega (arith, Fits-of_z {w = w16} fits))) ∙ to_z-of_z w16 z fits

key_back : (key : Bool) → is_key None (key_flags key) ≡ key
key_back true = refl
key_back false = refl

one_frame : (key : Bool) (payload : List ℕ) → frames_of (key_flags key) payload ≡ Ok ((0, length payload) ∷ [])
one_frame true payload = single_frame 0x80 payload refl
one_frame false payload = single_frame 0 payload refl

abbrev head_of_plain : ℕ → ℤ → Bool → BlockHead
head_of_plain track relative key = record { track = track; relative = relative; flags = key_flags key; at = coded_width track + 3 }

plain_head : (track : ℕ) (relative : ℤ) (key : Bool) (payload : List ℕ) → FitsSigned w16 relative
    → ((rest : List ℕ) → coded_at (coded_octets track ++ rest) 0 ≡ Ok (record { value = track; width = coded_width track }))
    → head_of (plain_block track relative key payload) ≡ Ok (head_of_plain track relative key)
unfolding head_of
plain_head track relative key payload fits number =
    let u : ℕ = cast_unsigned w16 relative in
    let rest : List ℕ = byte_at 1 u ∷ byte_at 0 u ∷ key_flags key ∷ payload in
    rw (number rest, behind_number track rest) (ap (λ (r : ℤ). Ok (head_of_plain track r key)) (relative_back relative fits))

sync_back : (key : Bool) → (key && true) ≡ key
sync_back true = refl
sync_back false = refl

whole_range : (payload : List ℕ) → slice_range payload 0 (length payload) ≡ payload
whole_range payload = take_all (length payload - 0) payload (omega arith)

abbrev packet_of_plain : Place → ℕ → ℤ → Bool → List ℕ → Packet
packet_of_plain place track relative key payload = record {
  track = track;
  pos = record { block = place.pos; lane = 0 };
  time = frame_time place relative 0;
  sync = key;
  key = key;
  body = payload;
}

plain_packets : (place : Place) (track : ℕ) (relative : ℤ) (key : Bool) (payload : List ℕ) → in_range (frame_time place relative 0) ≡ true
    → packets_behind place (head_of_plain track relative key) key payload ≡ Ok (packet_of_plain place track relative key payload ∷ [])
plain_packets place track relative key payload is = rw (one_frame key payload, is, sync_back key, whole_range payload) refl

-- the body of the element is its packet
pub plain_packet : (track : ℕ) (relative : ℤ) (key : Bool) (payload : List ℕ) → FitsSigned w16 relative
    → ((rest : List ℕ) → coded_at (coded_octets track ++ rest) 0 ≡ Ok (record { value = track; width = coded_width track }))
    → HasPacket track relative key payload (plain_block track relative key payload)
unfolding block_of packets_of
plain_packet track relative key payload fits number place small is =
    let body : List ℕ = plain_block track relative key payload in
    let u : ℕ = cast_unsigned w16 relative in
    let plain : ltb 67108864 (length body) ≡ false = le-ltb 67108864 (length body) small in
    let left : drop (coded_width track + 3) body ≡ payload = behind_coded track 3 (byte_at 1 u ∷ byte_at 0 u ∷ key_flags key ∷ payload) in
    rw (plain, plain_head track relative key payload fits number, left, key_back key) (plain_packets place track relative key payload is)

-- the element behind other octets
pub plain_element : (track : ℕ) (relative : ℤ) (key : Bool) (payload before with after : List ℕ)
    → HasHead before with 0xA3 (Known (length (plain_block track relative key payload)))
    → with ≡ before ++ head_octets 0xA3 (Known (length (plain_block track relative key payload)))
    → HasPacket track relative key payload (plain_block track relative key payload) → after ≡ with ++ plain_block track relative key payload
    → HasElement before after 0xA3 (length (plain_block track relative key payload)) (HasPacket track relative key payload)
plain_element track relative key payload before with after head w packet e =
    let block : List ℕ = plain_block track relative key payload in
    let heads : List ℕ = head_octets 0xA3 (Known (length block)) in
    let whole : after ≡ (before ++ heads) ++ block = e ∙ ap (λ (x : List ℕ). x ++ block) w in
    let behind : drop (length (before ++ heads)) after ≡ block = rw whole (drop-append_seam (before ++ heads) block) in
    let long : length after ≡ length before + length heads + length block = ap length whole ∙ omega (arith, length-append (before ++ heads) block, length-append before heads) in
    (has_head before with block after 0xA3 (Known (length block)) head e, long, rw behind packet)
