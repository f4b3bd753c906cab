-- Two queues of one track whose intervals meet: where they differ, and both together.
use Rattle.std.specs.Prelude.{◌≡◌, ℕ, ◌+◌, ◌≤◌, ◌<◌, nat_le, if◌then◌else◌, List, [], ◌++◌, drop, length, take, Option, Result, Ok, Err}
use Rattle.mc_packet.specs.declared.packet.Packet.{Packet}
use Rattle.mc_packet.specs.declared.packet.Pos.{Pos}
use Rattle.mc_journal.specs.Films.{rank}
use Rattle.mc_queue.specs.declared.queue.UnionError.{UnionError}
use Rattle.mc_queue.specs.declared.queue.UnionError.TheVariants.{NoMemory, Mismatch}
use Rattle.mc_queue.specs.declared.differences.Difference.{Difference}
use Rattle.mc_queue.specs.Places.{before}
use Rattle.mc_journal.specs.Views.{from_place}
use Rattle.mc_queue.specs.Queue.{QueueState, with_packets}
use Rattle.mc_queue.specs.Differences.{Agree, Differ, Tells}

-- they are of one track, and each begins where the other reaches or before
pub record Meet (q o : QueueState) : Type 0 where
  pub one_track : o.track ≡ q.track
  pub ours : rank q.from ≤ rank o.to
  pub other : rank o.from ≤ rank q.to

-- the earlier of two places, and the later
abbrev pub earlier : Pos → Pos → Pos
earlier a b = if nat_le (rank a) (rank b) then a else b

abbrev pub later : Pos → Pos → Pos
later a b = if nat_le (rank a) (rank b) then b else a

-- the places that both intervals have
abbrev pub shared_from : QueueState → QueueState → ℕ
shared_from q o = rank (later q.from o.from)

abbrev pub shared_to : QueueState → QueueState → ℕ
shared_to q o = rank (earlier q.to o.to)

-- at each of them both have a packet with one time, or neither has one
abbrev pub AgreeWhereShared : QueueState → QueueState → Type 0
AgreeWhereShared q o = Agree (shared_from q o) (shared_to q o) q.packets o.packets

-- what a comparison of the two answers
abbrev pub Compared : QueueState → QueueState → Option Difference → Type 0
Compared q o d = Tells (shared_from q o) (shared_to q o) q.packets o.packets d

-- the other's packets in front of the queue's interval, and behind it
abbrev pub in_front : QueueState → QueueState → List Packet
in_front q o = before (rank q.from) o.packets

abbrev pub behind_all : QueueState → QueueState → List Packet
behind_all q o = from_place (rank q.to) o.packets

-- the packets of another list before one place, those of a list, and those of the other at another place or behind it
abbrev pub joined : ℕ → ℕ → List Packet → List Packet → List Packet
joined from to ps qs = take (length (before from qs)) qs ++ (ps ++ drop (length (before to qs)) qs)

-- the packets of both, each once: where both intervals have a place, those of the first
abbrev pub united : QueueState → QueueState → List Packet
united q o = in_front q o ++ (q.packets ++ behind_all q o)

-- how many packets it takes from the other
abbrev pub added : QueueState → QueueState → ℕ
added q o = length (in_front q o) + length (behind_all q o)

-- the first is both together, and the other is empty
pub record Unites (q o q' o' : QueueState) : Type 0 where
  pub both : q' ≡ with_packets q (earlier q.from o.from) (later q.to o.to) (united q o) q'.spare
  pub room_used : q.spare ≤ q'.spare + added q o
  pub other_left : o' ≡ with_packets o o.from o.from [] o'.spare

-- a refusal: they are as before, and there was too little room, or a place is the first at which they differ
abbrev pub Refuses : QueueState → QueueState → UnionError → Type 0
Refuses q o NoMemory = AgreeWhereShared q o × (q.spare < added q o)
Refuses q o (Mismatch at ours other) = Differ (shared_from q o) (shared_to q o) q.packets o.packets at ours other

-- what `union` answers and leaves
abbrev pub UnionGives : QueueState → QueueState → Result Unit UnionError → QueueState → QueueState → Type 0
UnionGives q o (Ok _) q' o' = AgreeWhereShared q o × Unites q o q' o'
UnionGives q o (Err e) q' o' = (q' ≡ q) × (o' ≡ o) × Refuses q o e
