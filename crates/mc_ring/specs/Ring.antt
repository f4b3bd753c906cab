-- A client's ring as contracts see it, and what each call answers and leaves.
use Rattle.std.specs.Prelude.{ℕ, ◌+◌, ◌-◌, ◌<◌, ◌≤◌, Bool, true, false, if◌then◌else◌, ◌==◌, ◌||◌, IsTrue, List, [], ◌∷◌, ◌++◌, length, drop, slice_get, Option, Result, Ok, Err, All}
use Rattle.mc_ring.specs.Event.{enters_ring}
use Rattle.mc_ring.specs.declared.event.Event.{Event}
use Rattle.mc_ring.specs.declared.ring.QueueFull.{QueueFull}
use Rattle.mc_ring.specs.declared.ring.Pushed.{Pushed}
use Rattle.mc_ring.specs.declared.ring.Pushed.TheVariants.{Kept, Dropped}

-- the events that it holds, the oldest first; the places set aside for replies; how many of both
-- there may be; and whether an event was dropped of which no overflow has told yet
pub record RingState : Type 0 where
  pub events : List Event
  pub reserved : ℕ
  pub size : ℕ
  pub choked : Bool

-- the sizes that a ring may have
pub record IsSize (size : ℕ) : Type 0 where
  pub least : 0 < size
  pub most : size ≤ 100000

-- what is true of every ring
pub record IsRing (s : RingState) : Type 0 where
  pub size : IsSize s.size
  pub room : length s.events + s.reserved ≤ s.size
  pub events : All (λ e. IsTrue (enters_ring e)) s.events

abbrev pub new_ring : ℕ → RingState
new_ring size = record { events = []; reserved = 0; size = size; choked = false }

-- no place is free, or an overflow is still to be told
abbrev pub is_full : RingState → Bool
is_full s = (length s.events + s.reserved == s.size) || s.choked

-- the four numbers of a refusal
abbrev pub full_of : RingState → QueueFull
full_of s = record {
  held = length s.events;
  reserved = s.reserved;
  max = s.size;
  choked = s.choked;
}

-- with that many places set aside
abbrev pub with_reserved : RingState → ℕ → RingState
with_reserved s n = record { events = s.events; reserved = n; size = s.size; choked = s.choked }

-- with those events
abbrev pub with_events : RingState → List Event → RingState
with_events s es = record { events = es; reserved = s.reserved; size = s.size; choked = s.choked }

-- choked, or not
abbrev pub with_choked : RingState → Bool → RingState
with_choked s b = record { events = s.events; reserved = s.reserved; size = s.size; choked = b }

-- with the event behind the others
abbrev pub with_event : RingState → Event → RingState
with_event s e = with_events s (s.events ++ e ∷ [])

-- a place is set aside, unless the ring is full
abbrev pub reserve_answer : RingState → Result Unit QueueFull
reserve_answer s = if is_full s then Err (full_of s) else Ok tt

abbrev pub after_reserve : RingState → RingState
after_reserve s = if is_full s then s else with_reserved s (s.reserved + 1)

-- one place less is set aside
abbrev pub after_unreserve : RingState → RingState
after_unreserve s = with_reserved s (s.reserved - 1)

-- an event is kept, unless the ring is full: then it is handed back, and the ring is choked
abbrev pub push_answer : RingState → Event → Pushed
push_answer s e = if is_full s then Dropped e else Kept

abbrev pub after_push : RingState → Event → RingState
after_push s e = if is_full s then with_choked s true else with_event s e

-- a reply takes one of the places set aside
abbrev pub after_reply : RingState → Event → RingState
after_reply s e = with_reserved (with_event s e) (s.reserved - 1)

-- the oldest event leaves
abbrev pub oldest : RingState → Option Event
oldest s = slice_get s.events 0

abbrev pub after_pop : RingState → RingState
after_pop s = with_events s (drop 1 s.events)
