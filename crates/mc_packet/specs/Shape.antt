-- What a chunk of any film is, whatever octets it was read from.
use Rattle.std.specs.Prelude.{◌≡◌, ◌⊎◌, ℕ, ◌^◌, ◌<◌, ◌≤◌, Bool, ◌&&◌, List, [], ◌∷◌, length, sum_by, All, IsTrue, ℤ, pos, neg_ℤ, int_le, ⊤}
use Rattle.std.specs.List.{AllByRecursion}
use Rattle.mc_packet.specs.declared.packet.Packet.{Packet}
use Rattle.mc_packet.specs.declared.packet.Pos.{Pos}
use Rattle.mc_packet.specs.declared.walk.Chunk.{Chunk}

-- places are ordered by block, and then by frame
abbrev pub IsPosBefore : Pos → Pos → Type 0
IsPosBefore p q = (p.block < q.block) ⊎ ((p.block ≡ q.block) × (p.lane < q.lane))

-- packets stand in order of their places, so that none stands twice
abbrev pub StandsBefore : Packet → Packet → Type 0
StandsBefore p q = IsPosBefore p.pos q.pos

abbrev pub InOrder : List Packet → Type 0
InOrder [] = ⊤
InOrder (p ∷ ps) = AllByRecursion (StandsBefore p) ps × InOrder ps

-- a place before the first of some packets
abbrev pub IsBeforeFirst : Pos → List Packet → Type 0
IsBeforeFirst p [] = ⊤
IsBeforeFirst p (q ∷ qs) = IsPosBefore p q.pos

-- packets of one track, whose number is not 0 and is coded in at most 8 octets
abbrev pub AreOfOneTrack : List Packet → Type 0
AreOfOneTrack [] = ⊤
AreOfOneTrack (p ∷ ps) = (0 < p.track) × (p.track < 2 ^ 56) × AllByRecursion (λ (q : Packet). q.track ≡ p.track) ps

-- a time that is at most 2^62 nanoseconds from the film's start
abbrev pub is_near : ℤ → Bool
is_near time = int_le (neg_ℤ (pos (2 ^ 62))) time && int_le time (pos (2 ^ 62))

-- at most 256 packets of one track, in order, whose blocks stand from one offset up to, but without, another
pub record AreBetween (from to : ℕ) (packets : List Packet) : Type 0 where
  pub few : length packets ≤ 256
  pub one_track : AreOfOneTrack packets
  pub in_order : InOrder packets
  pub places : All (λ (p : Packet). (from ≤ p.pos.block) × (p.pos.block < to)) packets
  pub lanes : All (λ (p : Packet). p.pos.lane < 256) packets
  pub times : All (λ (p : Packet). IsTrue (is_near p.time)) packets
  pub payloads : sum_by (λ (p : Packet). length p.body) packets ≤ 67108864

-- the packets of a chunk lie between its marks
abbrev pub HasShape : Chunk → Type 0
HasShape c = AreBetween c.from.pos c.to.pos c.packets
