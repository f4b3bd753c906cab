-- A queue's packets in blocks, and what a block tells of its packets.
use Rattle.std.specs.Prelude.{◌≡◌, ℕ, zero, suc, ◌+◌, ◌-◌, ◌*◌, ◌/◌, ◌^◌, ◌≤◌, ◌<◌, ◌++◌, ◌&&◌, Bool, true, false, nat_lt, int_le, if◌then◌else◌, take, drop, min, length, slice_index_or, List, [], ◌∷◌, ℤ, Option, Some, None, ⊤, ◌⊎◌}
use Rattle.std.specs.List.{find}
use Rattle.std.specs.Option.{option_map}
use Rattle.mc_packet.specs.declared.packet.Packet.{Packet}
use Rattle.mc_packet.specs.declared.packet.Pos.{Pos}
use Rattle.mc_packet.specs.declared.choice.Dir.{Dir}
use Rattle.mc_packet.specs.declared.choice.Dir.TheVariants.{Back, Forward}
use Rattle.mc_journal.specs.Films.{rank}
use Rattle.mc_queue.specs.Places.{Rise, is_before, weights, weight_of}
use Rattle.mc_journal.specs.Views.{from_place}
use Rattle.mc_queue.specs.Queue.{QueueState, first_of, first_that, is_sync}
use Rattle.mc_queue.specs.Times.{comes_first}
use Rattle.mc_queue.specs.declared.kept.Summary.{Summary}
use Rattle.mc_queue.specs.declared.kept.Kept.{Kept}

-- ---- the extreme time of packets

-- of two times the one that comes first on the way
abbrev pub first_two : Dir → Option ℤ → Option ℤ → Option ℤ
first_two dir None b = b
first_two dir (Some x) None = Some x
first_two dir (Some x) (Some y) = if comes_first dir x y then Some x else Some y

-- a packet's time, where the packet passes
abbrev pub time_if : Bool → ℤ → Option ℤ
time_if passes t = if passes then Some t else None

-- of the packets that pass, the time that comes first on the way
abbrev pub extreme : Dir → (Packet → Bool) → List Packet → Option ℤ
extreme dir test [] = None
extreme dir test (p ∷ ps) = first_two dir (time_if (test p) p.time) (extreme dir test ps)

abbrev pub any_packet : Packet → Bool
any_packet p = true

-- a sync point's time
abbrev pub sync_time : Packet → Option ℤ
sync_time p = time_if p.sync p.time

-- ---- what is kept of a block

abbrev pub summary_of : List Packet → Summary
summary_of ps = record { weight = weights ps; least = extreme Forward is_sync ps; most = extreme Back is_sync ps; count = length ps }

-- a time does not lie behind the least one
abbrev pub IsAhead : ℤ → Option ℤ → Type 0
IsAhead t None = ⊤
IsAhead t (Some u) = int_le t u ≡ true

-- the times of sync points do not fall
abbrev pub SyncsRise : List Packet → Type 0
SyncsRise [] = ⊤
SyncsRise (p ∷ ps) = (p.sync ≡ true → IsAhead p.time (extreme Forward is_sync ps)) × SyncsRise ps

-- the time of the first sync point
abbrev pub first_time : List Packet → Option ℤ
first_time ps = option_map (λ p. p.time) (find is_sync ps)

-- what is kept is true of the packets
pub record IsOf (k : Kept) (ps : List Packet) : Type 0 where
  pub weight_is : k.weight ≡ weights ps
  pub least_is : k.least ≡ extreme Forward is_sync ps
  pub most_is : k.most ≡ extreme Back is_sync ps
  pub greatest_is : k.greatest ≡ extreme Back any_packet ps
  pub count_is : k.count ≡ length ps
  pub rises : k.rising ≡ true → SyncsRise ps

-- a packet is no sync point, or its time is at least the greatest of sync points
abbrev pub ends : ℤ → Option ℤ → Bool
ends t None = true
ends t (Some u) = int_le u t

abbrev pub ends_with : Packet → Option ℤ → Bool
ends_with p most = if p.sync then ends p.time most else true

-- what is kept of a block of one packet, and of one with a packet more
abbrev pub of_one : Packet → Kept
of_one p = record { weight = weight_of p; least = sync_time p; most = sync_time p; greatest = Some p.time; count = 1; rising = true }

abbrev pub grown : Packet → Kept → Kept
grown p k = record { weight = k.weight + weight_of p; least = first_two Forward k.least (sync_time p); most = first_two Back k.most (sync_time p); greatest = first_two Back k.greatest (Some p.time); count = k.count + 1; rising = k.rising && ends_with p k.most }

-- ---- blocks

-- the packets of blocks, one block behind another
abbrev pub flat : List (List Packet) → List Packet
flat [] = []
flat (b ∷ bs) = b ++ flat bs

-- each but the last has exactly 256 packets, and the last has one at least and no more than 256
abbrev pub Inner : List (List Packet) → Type 0
Inner [] = ⊤
Inner (b ∷ []) = (0 < length b) × (length b ≤ 256)
Inner (b ∷ c ∷ cs) = (length b ≡ 256) × Inner (c ∷ cs)

-- each but the first and the last has exactly 256 packets, and those have one at least and no more than 256
abbrev pub Shape : List (List Packet) → Type 0
Shape [] = ⊤
Shape (b ∷ bs) = (0 < length b) × (length b ≤ 256) × Inner bs

-- the block at an index
abbrev pub block_at : ℕ → List (List Packet) → List Packet
block_at at bs = slice_index_or bs at []

-- packets as they are counted by what is kept of blocks
abbrev pub parts : List Kept → List Packet → List (List Packet)
parts [] ps = []
parts (k ∷ ks) ps = take k.count ps ∷ parts ks (drop k.count ps)

-- what is kept is true of each block
abbrev pub AreOf : List Kept → List (List Packet) → Type 0
AreOf [] [] = ⊤
AreOf [] (b ∷ bs) = ⊥
AreOf (k ∷ ks) [] = ⊥
AreOf (k ∷ ks) (b ∷ bs) = IsOf k b × AreOf ks bs

-- and the blocks have their shape and hold the packets
pub record Told (ks : List Kept) (ps : List Packet) (bs : List (List Packet)) : Type 0 where
  pub each : AreOf ks bs
  pub all : flat bs ≡ ps
  pub shape : Shape bs

abbrev pub Stands : List Kept → List Packet → Type 0
Stands ks ps = Told ks ps (parts ks ps)

-- how many packets stand in front of a block
abbrev pub stand_before : ℕ → List Kept → ℕ
stand_before zero ks = 0
stand_before (suc i) [] = 0
stand_before (suc i) (k ∷ ks) = k.count + stand_before i ks

-- there is room for so many packets, and for what is kept of their blocks
pub record HasRoom (room len most kept : ℕ) : Type 0 where
  pub some : len ≤ room
  pub packets : room ≤ most
  pub blocks : room ≤ 256 * (kept - 2)

-- the packets, the same in blocks, and how many more there is room for
pub record BlocksState : Type 0 where
  pub packets : List Packet
  pub blocks : List (List Packet)
  pub spare : ℕ

-- what is true of all of them
pub record AreBlocks (b : BlocksState) : Type 0 where
  pub all : flat b.blocks ≡ b.packets
  pub shape : Shape b.blocks

-- the steps that a look-up of n packets may take
abbrev pub bound : ℕ → ℕ
bound n = 2 * (n / 256 + 2) + 256

-- and those in which a place among them is found
abbrev pub halving_bound : ℕ → ℕ
halving_bound n = n / 256 + min n 256 + 4

-- ---- one packet more

-- the last block has room
abbrev pub is_open : List Kept → Bool
is_open [] = false
is_open (k ∷ []) = nat_lt k.count 256
is_open (k ∷ l ∷ ls) = is_open (l ∷ ls)

-- the weight of each block that may take it fits with the packet's
abbrev pub FitsIn : Packet → List Kept → Type 0
FitsIn p ks = (front : List Kept) → (k : Kept) → ks ≡ front ++ k ∷ [] → k.weight + weight_of p < 2 ^ 64

-- it takes the packet, or the packet begins a block
abbrev pub IsAdded : Packet → List Kept → List Kept → Type 0
IsAdded p old new =
    ((front : List Kept) × (k : Kept) × (old ≡ front ++ k ∷ []) × (k.count < 256) × (new ≡ front ++ grown p k ∷ []))
    ⊎ ((is_open old ≡ false) × (new ≡ old ++ of_one p ∷ []))

-- ---- which sync points a look-up asks for

-- where there is a time, whether it passes
abbrev pub passes : (ℤ → Bool) → Option ℤ → Bool
passes test None = false
passes test (Some t) = test t

-- ---- the times of a block's sync points on a way

-- the one that comes first, and the one that comes last
abbrev pub foremost : Dir → Summary → Option ℤ
foremost Forward s = s.least
foremost Back s = s.most

abbrev pub farthest : Dir → Summary → Option ℤ
farthest Forward s = s.most
farthest Back s = s.least

-- ---- the first sync point behind the first packet

-- with packets more behind so many others
abbrev pub next_with : Option Pos → ℕ → List Packet → Option Pos
next_with (Some place) count more = Some place
next_with None zero more = first_that is_sync (drop 1 more)
next_with None (suc n) more = first_that is_sync more

-- the first packet stands before the place
abbrev pub is_in_front : ℕ → Option Packet → Bool
is_in_front at None = false
is_in_front at (Some p) = is_before at p

-- where it was known before packets in front were dropped: none is left where none was; it stays if it stands behind the packet that is first now
abbrev pub Follows : Option Pos → List Packet → Option Pos → Type 0
Follows None ps new = new ≡ None
Follows (Some place) ps new = new ≡ (if is_in_front (rank place) (first_of ps) then Some place else first_that is_sync (drop 1 ps))

-- ---- a queue over blocks

abbrev pub seen : ℕ → Pos → Pos → BlocksState → QueueState
seen track from to held = record { track = track; from = from; to = to; packets = held.packets; spare = held.spare }

-- its packets rise in its interval; and what it keeps of them: their weight, that of those from a place on, and the first sync point behind the first packet
abbrev pub AreFields : ℕ → Pos → Pos → ℕ → Pos → ℕ → Option Pos → List Packet → Type 0
AreFields track from to weight look ahead next ps =
    (weight ≡ weights ps) × (weights ps < 2 ^ 64) × Rise track (rank from) (rank to) ps × (ahead ≡ weights (from_place (rank look) ps)) × (next ≡ first_that is_sync (drop 1 ps))
