-- The law over every list of calls of a ring.
use Rattle.std.specs.Prelude.{◌≡◌, ℕ, ◌+◌, ◌<◌, ◌≤◌, true, false, IsTrue, List, [], ◌∷◌, ◌++◌, length, flat_map, Some, Result, Ok, Err, Contains}
use mathlib.Core.List.{IsPrefix}
use Rattle.mc_ring.specs.Event.{enters_ring}
use Rattle.mc_ring.specs.Ring.{RingState, reserve_answer, after_reserve, after_unreserve, push_answer, after_push, after_reply, oldest, after_pop, with_choked}
use Rattle.mc_ring.specs.declared.event.Event.{Event}
use Rattle.mc_ring.specs.declared.ring.QueueFull.{QueueFull}
use Rattle.mc_ring.specs.declared.ring.Pushed.TheVariants.{Kept, Dropped}
use Rattle.mc_ring.specs.declared.calls.RingCall.{RingCall}
use Rattle.mc_ring.specs.declared.calls.RingCall.TheVariants.{Reserve, Unreserve, PushEvent, PushReply, Pop, TakeOverflow}
use Rattle.mc_ring.specs.declared.calls.RingAnswer.{RingAnswer}
use Rattle.mc_ring.specs.declared.calls.RingAnswer.TheVariants.{Reserved, Refused, Unreserved, PushedEvent, PushedReply, Popped, TookOverflow}

-- One call

-- the conditions of a call: a place to be given back or used up is set aside, and what is pushed is
-- an event that rings hold
abbrev pub IsAllowed : RingState → RingCall → Type 0
IsAllowed s Reserve = Unit {0}
IsAllowed s Unreserve = 0 < s.reserved
IsAllowed s (PushEvent e) = IsTrue (enters_ring e)
IsAllowed s (PushReply e) = (0 < s.reserved) × IsTrue (enters_ring e)
IsAllowed s Pop = Unit {0}
IsAllowed s TakeOverflow = Unit {0}

abbrev pub reserved_answer : Result Unit QueueFull → RingAnswer
reserved_answer (Ok x) = Reserved
reserved_answer (Err full) = Refused full

-- what a call answers
abbrev pub answer : RingState → RingCall → RingAnswer
answer s Reserve = reserved_answer (reserve_answer s)
answer s Unreserve = Unreserved
answer s (PushEvent e) = PushedEvent (push_answer s e)
answer s (PushReply e) = PushedReply
answer s Pop = Popped (oldest s)
answer s TakeOverflow = TookOverflow s.choked

-- the ring that a call leaves
abbrev pub after : RingState → RingCall → RingState
after s Reserve = after_reserve s
after s Unreserve = after_unreserve s
after s (PushEvent e) = after_push s e
after s (PushReply e) = after_reply s e
after s Pop = after_pop s
after s TakeOverflow = with_choked s false

-- Lists of calls

-- a call with its answer
abbrev pub Told : Type 0
Told = RingCall × RingAnswer

-- each call was allowed where it was made, and was answered as it has to be
abbrev pub Runs : RingState → List Told → Type 0
Runs s [] = Unit {0}
Runs s (t ∷ ts) = IsAllowed s t.0 × (t.1 ≡ answer s t.0) × Runs (after s t.0) ts

-- the ring that the calls leave
abbrev pub left_by : RingState → List Told → RingState
left_by s [] = s
left_by s (t ∷ ts) = left_by (after s t.0) ts

-- the event that a call brought in: one that was kept, or a reply
abbrev pub kept_by : Told → List Event
kept_by (PushEvent e, PushedEvent Kept) = e ∷ []
kept_by (PushReply e, a) = e ∷ []
kept_by t = []

-- the event that a call took out
abbrev pub popped_by : Told → List Event
popped_by (Pop, Popped (Some e)) = e ∷ []
popped_by t = []

-- what was kept, and what was popped, in order
abbrev pub kept : List Told → List Event
kept ts = flat_map kept_by ts

abbrev pub popped : List Told → List Event
popped ts = flat_map popped_by ts

-- the requests for which a place was set aside, and those whose place was given back or used up by
-- the reply
abbrev pub accepted_by : Told → ℕ
accepted_by (Reserve, Reserved) = 1
accepted_by t = 0

abbrev pub ended_by : Told → ℕ
ended_by (Unreserve, a) = 1
ended_by (PushReply e, a) = 1
ended_by t = 0

abbrev pub accepted : List Told → ℕ
accepted [] = 0
accepted (t ∷ ts) = accepted_by t + accepted ts

abbrev pub ended : List Told → ℕ
ended [] = 0
ended (t ∷ ts) = ended_by t + ended ts

-- an event that was dropped, an event that was kept, and an overflow that was told
abbrev pub drops : Event → Told
drops e = (PushEvent e, PushedEvent (Dropped e))

abbrev pub keeps : Event → Told
keeps e = (PushEvent e, PushedEvent Kept)

abbrev pub tells : Told
tells = (TakeOverflow, TookOverflow true)

-- what holds of a new ring's calls, and of the ring that they leave
pub record IsLawful (size : ℕ) (told : List Told) (s : RingState) : Type 0 where
  -- events leave in the order in which they were kept, and the ring holds the rest
  pub prefix : IsPrefix (popped told) (kept told)
  pub held : kept told ≡ popped told ++ s.events
  -- a reply that was pushed was popped, or the ring holds it
  pub replies : (e : Event) → Contains told (PushReply e, PushedReply)
      → Contains (popped told ++ s.events) e
  -- each accepted request that has not ended has its place
  pub places : accepted told ≡ ended told + s.reserved
  pub room : length s.events + s.reserved ≤ size
  -- an overflow is told between a drop and the next event that is kept
  pub overflow : (before between behind : List Told) (e f : Event)
      → told ≡ before ++ drops e ∷ (between ++ keeps f ∷ behind) → Contains between tells

-- every list of allowed calls of a new ring keeps the law
abbrev pub KeepsLaw : ℕ → RingState → Type 0
KeepsLaw size s = (told : List Told) → Runs s told → IsLawful size told (left_by s told)
