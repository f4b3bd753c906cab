-- Packets of one track in rising order, and those of them before a place, at or behind it, or between two.
use Rattle.std.specs.Prelude.{◌≡◌, ℕ, ◌+◌, true, false, ◌≤◌, ◌<◌, nat_le, nat_lt, Bool, if◌then◌else◌, Option, Some, None, List, [], ◌∷◌, length, filter, sum_by}
use Rattle.std.specs.List.{AllWithin}
use Rattle.mc_packet.specs.declared.packet.Packet.{Packet}
use Rattle.mc_journal.specs.Films.{rank}
use Rattle.mc_journal.specs.Views.{from_place}

-- a packet's place as a number: places rise by block, and then by frame
abbrev pub place : Packet → ℕ
place p = rank p.pos

-- what a packet counts for: the octets of its payload, and 64 more
abbrev pub weight_of : Packet → ℕ
weight_of p = length p.body + 64

-- the sum of their weights
abbrev pub weights : List Packet → ℕ
weights ps = sum_by weight_of ps

-- packets of the track whose places rise from one place up to, but without, another
abbrev pub Rise : ℕ → ℕ → ℕ → List Packet → Type 0
Rise track from to [] = from ≤ to
Rise track from to (p ∷ ps) = (p.track ≡ track) × (from ≤ place p) × Rise track (place p + 1) to ps

-- a packet stands before a place; at it or behind it
abbrev pub is_before : ℕ → Packet → Bool
is_before cut p = nat_lt (place p) cut

abbrev pub is_from : ℕ → Packet → Bool
is_from cut p = nat_le cut (place p)

abbrev pub before : ℕ → List Packet → List Packet
before cut ps = filter (is_before cut) ps

-- how many packets stand before one place, or at another or behind it, and what these weigh
abbrev pub outside : ℕ → ℕ → List Packet → ℕ
outside from to ps = length (before from ps) + length (from_place to ps)

abbrev pub weight_outside : ℕ → ℕ → List Packet → ℕ
weight_outside from to ps = weights (before from ps) + weights (from_place to ps)

-- the packets from the first one on that does not stand before the place
abbrev pub behind : ℕ → List Packet → List Packet
behind cut [] = []
behind cut (p ∷ ps) = if is_before cut p then behind cut ps else p ∷ ps

-- the first packet, of this weight, is dropped because it stands before the place; or none is
abbrev pub DropsFirst : ℕ → List Packet → List Packet → Option ℕ → Type 0
DropsFirst cut old new None = (new ≡ old) × (behind cut old ≡ old)
DropsFirst cut old new (Some weight) = (behind cut new ≡ behind cut old) × (weight + weights new ≡ weights old) × (length new < length old)

-- the packets in front of the index stand before the place, and the others do not
abbrev pub IsIndexAt : ℕ → ℕ → List Packet → Type 0
IsIndexAt cut i ps = AllWithin (λ p. is_before cut p ≡ true) ps 0 i × AllWithin (λ p. is_before cut p ≡ false) ps i (length ps)
