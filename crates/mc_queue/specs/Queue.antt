-- A queue as contracts see it, and what its look-ups answer.
use Rattle.std.specs.Prelude.{◌≡◌, ℕ, ◌+◌, ◌≤◌, ◌++◌, drop, length, ◌<◌, ◌^◌, Bool, ◌&&◌, if◌then◌else◌, List, [], ◌∷◌, ℤ, int_le, int_lt, Option, Some, None}
use Rattle.std.specs.List.{find}
use Rattle.std.specs.Option.{option_map}
use Rattle.mc_packet.specs.declared.packet.Packet.{Packet}
use Rattle.mc_packet.specs.declared.packet.Pos.{Pos}
use Rattle.mc_packet.specs.Choices.{or_else}
use Rattle.mc_journal.specs.Films.{rank}
use Rattle.mc_queue.specs.Places.{Rise, weights}
use Rattle.mc_journal.specs.Views.{from_place}

-- its track; the interval of places of which it holds all packets; these packets, in order; and how many more it has room for
pub record QueueState : Type 0 where
  pub track : ℕ
  pub from : Pos
  pub to : Pos
  pub packets : List Packet
  pub spare : ℕ

-- what is true of every queue
pub record IsQueue (q : QueueState) : Type 0 where
  pub rise : Rise q.track (rank q.from) (rank q.to) q.packets
  pub fits : weights q.packets < 2 ^ 64

-- empty, at a place
pub record IsNew (track : ℕ) (at : Pos) (q : QueueState) : Type 0 where
  pub track_is : q.track ≡ track
  pub from_is : q.from ≡ at
  pub to_is : q.to ≡ at
  pub none_yet : q.packets ≡ []

-- the same but for the packets and the interval
abbrev pub with_packets : QueueState → Pos → Pos → List Packet → ℕ → QueueState
with_packets q from to ps spare = record { track = q.track; from = from; to = to; packets = ps; spare = spare }

-- with other room
abbrev pub with_spare : QueueState → ℕ → QueueState
with_spare q spare = with_packets q q.from q.to q.packets spare

-- what stands before the place is dropped
pub record DropsTo (cut : Pos) (old new : QueueState) : Type 0 where
  pub packets_left : new ≡ with_packets old cut old.to (from_place (rank cut) old.packets) new.spare
  pub roomier : old.spare ≤ new.spare

-- packets are added behind the others, and the interval reaches up to the place
pub record Appends (upto : Pos) (ps : List Packet) (old new : QueueState) : Type 0 where
  pub added : new ≡ with_packets old old.from upto (old.packets ++ ps) new.spare
  pub room_used : old.spare ≤ new.spare + length ps

-- ---- look-ups

-- the first packet
abbrev pub first_of : List Packet → Option Packet
first_of [] = None
first_of (p ∷ ps) = Some p

-- the last packet in file order that passes
abbrev pub find_last : (Packet → Bool) → List Packet → Option Packet
find_last test [] = None
find_last test (p ∷ ps) = or_else (find_last test ps) (if test p then Some p else None)

-- the places of the first and of the last that pass
abbrev pub first_that : (Packet → Bool) → List Packet → Option Pos
first_that test ps = option_map (λ p. p.pos) (find test ps)

abbrev pub last_that : (Packet → Bool) → List Packet → Option Pos
last_that test ps = option_map (λ p. p.pos) (find_last test ps)

abbrev pub is_sync : Packet → Bool
is_sync p = p.sync

-- a sync point with a time of at most t; of at least t; below t
abbrev pub is_sync_upto : ℤ → Packet → Bool
is_sync_upto t p = p.sync && int_le p.time t

abbrev pub is_sync_from : ℤ → Packet → Bool
is_sync_from t p = p.sync && int_le t p.time

abbrev pub is_sync_before : ℤ → Packet → Bool
is_sync_before t p = p.sync && int_lt p.time t

-- ---- where a queue is cut

abbrev pub place_or : Pos → Option Pos → Pos
place_or to None = to
place_or to (Some p) = p

-- the place of the next sync point after its first packet, else its end
abbrev pub next_cut : QueueState → Pos
next_cut q = place_or q.to (first_that is_sync (drop 1 q.packets))
