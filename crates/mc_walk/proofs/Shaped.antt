-- What the packets of a block element are, whatever octets it was read from.
use Rattle.std.proofs.Common.{◌≡◌, ℕ, ◌+◌, ◌^◌, ◌<◌, ◌≤◌, List, [], ◌∷◌, map, length, Option, Some, None, Result, Ok, arith}
use Rattle.std.specs.Prelude.{◌==◌}
use Rattle.std.specs.List.{AllByRecursion, range_with_len}
use Rattle.std.proofs.lemmas.Bool.{cond_both, eqb-true}
use Rattle.std.proofs.lemmas.List.Elements.{All-weaker, All-from_recursion, recursion_from_All}
use Rattle.mc_packet.specs.declared.packet.Packet.{Packet}
use Rattle.mc_packet.specs.Shape.{InOrder, AreOfOneTrack, AreBetween}
use Rattle.mc_block.specs.declared.error.BlockError.{BlockError}
use Rattle.mc_block.specs.declared.parts.Place.{Place}
use Rattle.mc_block.specs.declared.parts.BlockBody.{BlockBody}
use Rattle.mc_block.specs.Block.{track_of, packets_of, AreOfBlock}
use Rattle.mc_tracks.specs.declared.track.Track.{Track}
use Rattle.mc_tracks.specs.TrackList.{numbered, IsListed, IsTrackList}
use Rattle.mc_walk.specs.Blocks.{known_track, unless_encoded}
use Rattle.mc_walk.proofs.Lanes.{packets_of-frames}

-- ---- numbers of tracks

-- the number of a track that is listed is not 0
abbrev IsNumbered : ℕ → Option Track → Type 0
IsNumbered n None = Unit {0}
IsNumbered n (Some t) = 0 < n

numbered_by : (n : ℕ) (tracks : List Track) → AllByRecursion IsListed tracks → IsNumbered n (numbered n tracks)
numbered_by n [] each = tt
numbered_by n (t ∷ ts) each =
    cond_both (n == t.no) _ _ (IsNumbered n) (λ e. let same : n ≡ t.no = eqb-true n t.no e in let positive = each.0.positive in omega (arith, same, positive)) (λ e. numbered_by n ts each.1)

readable_by : (n : ℕ) (track : Option Track) → IsNumbered n track → IsNumbered n (unless_encoded track)
readable_by n None h = tt
readable_by n (Some t) h = cond_both t.encoded _ _ (IsNumbered n) (λ e. tt) (λ e. h)

number_by : (n : ℕ) (track : Option Track) (t : Track) → Some t ≡ track → IsNumbered n track → 0 < n
number_by n None t is h = absurd (cc is)
number_by n (Some t) t' is h = h

pub number_positive : (n : ℕ) (tracks : List Track) (t : Track) → IsTrackList tracks → Some t ≡ known_track tracks n → 0 < n
number_positive n tracks t listed is =
    number_by n (known_track tracks n) t is (readable_by n (numbered n tracks) (numbered_by n tracks (recursion_from_All IsListed tracks listed.each)))

-- ---- packets

lanes_below : (packets : List Packet) (from end : ℕ) → map (λ (p : Packet). p.pos.lane) packets ≡ range_with_len from (length packets) → from + length packets ≤ end
    → AllByRecursion (λ (p : Packet). p.pos.lane < end) packets
lanes_below [] from end is le = tt
lanes_below (p ∷ ps) from end is le =
    let this : p.pos.lane ≡ from = cc is in
    let others : map (λ (p : Packet). p.pos.lane) ps ≡ range_with_len (from + 1) (length ps) = cc is in
    (omega (arith, this), lanes_below ps (from + 1) end others (omega arith))

tracks_same : (packets : List Packet) (n : ℕ) (track : Result ℕ BlockError) → track ≡ Ok n → AllByRecursion (λ (p : Packet). track ≡ Ok p.track) packets
    → AllByRecursion (λ (p : Packet). p.track ≡ n) packets
tracks_same [] n track is each = tt
tracks_same (p ∷ ps) n track is each = let this = each.0 in (cc (is, this), tracks_same ps n track is each.1)

same_as_first : (packets : List Packet) (n m : ℕ) → m ≡ n → AllByRecursion (λ (p : Packet). p.track ≡ n) packets → AllByRecursion (λ (p : Packet). p.track ≡ m) packets
same_as_first packets n m is each = rw is each

one_track : (packets : List Packet) (n : ℕ) → 0 < n → n < 2 ^ 56 → AllByRecursion (λ (p : Packet). p.track ≡ n) packets → AreOfOneTrack packets
one_track [] n positive small each = tt
one_track (p ∷ ps) n positive small each = let first : p.track ≡ n = each.0 in (omega (arith, first, positive), omega (arith, first, small), same_as_first ps n p.track first each.1)

ordered : (place : Place) (body : BlockBody) (packets : List Packet) → packets_of place body ≡ Ok packets → InOrder packets
ordered place body packets is = (rw is at (packets_of-frames place body)).1

-- the packets of the block of a track with this number
pub are_between : (place : Place) (body : BlockBody) (packets : List Packet) (n : ℕ) → packets_of place body ≡ Ok packets → AreOfBlock place body.octets packets → length packets ≤ 256
    → track_of body.octets ≡ Ok n → 0 < n → n < 2 ^ 56 → length body.octets ≤ 67108864 → AreBetween place.pos (place.pos + 1) packets
are_between place body packets n is law few track positive small short = record {
  few = few;
  one_track = one_track packets n positive small (tracks_same packets n (track_of body.octets) track (recursion_from_All (λ (p : Packet). track_of body.octets ≡ Ok p.track) packets law.tracks));
  in_order = ordered place body packets is;
  places = All-weaker (λ (p : Packet). p.pos.block ≡ place.pos) (λ (p : Packet). (place.pos ≤ p.pos.block) × (p.pos.block < place.pos + 1)) (λ p e. (omega (arith, e), omega (arith, e))) packets law.blocks;
  lanes = All-from_recursion (λ (p : Packet). p.pos.lane < 256) packets (lanes_below packets 0 256 law.lanes (omega (arith, few)));
  times = law.times;
  payloads = omega (arith, law.payloads, short);
}

pub none_between : (from to : ℕ) → AreBetween from to []
none_between from to = record {
  few = omega arith;
  one_track = tt;
  in_order = tt;
  places = λ k d lt. absurd (omega arith);
  lanes = λ k d lt. absurd (omega arith);
  times = λ k d lt. absurd (omega arith);
  payloads = omega arith;
}

-- between marks that are further apart
pub between_wider : (from to low high : ℕ) (packets : List Packet) → low ≤ from → to ≤ high → AreBetween from to packets → AreBetween low high packets
between_wider from to low high packets below above h = record {
  few = h.few;
  one_track = h.one_track;
  in_order = h.in_order;
  places = All-weaker (λ (p : Packet). (from ≤ p.pos.block) × (p.pos.block < to)) (λ (p : Packet). (low ≤ p.pos.block) × (p.pos.block < high)) (λ p e. (omega (arith, e.0, below), omega (arith, e.1, above))) packets h.places;
  lanes = h.lanes;
  times = h.times;
  payloads = h.payloads;
}
