-- The law over every list of calls of a client: each call is at most one call of its ring, of which
-- the ring's law holds.
use Rattle.std.specs.Prelude.{◌≡◌, ℕ, ◌<◌, true, IsTrue, List, [], ◌∷◌, ◌++◌, length, filter, All, Some, Result, Ok, Err}
use Rattle.mc_ring.specs.Event.{enters_ring}
use Rattle.mc_ring.specs.Ring.{reserve_answer}
use Rattle.mc_ring.specs.Law.{Told as RingTold, IsLawful}
use Rattle.mc_ring.specs.declared.event.Event.{Event}
use Rattle.mc_ring.specs.declared.event.Event.TheVariants as event
use Rattle.mc_ring.specs.declared.ring.QueueFull.{QueueFull}
use Rattle.mc_ring.specs.declared.calls.RingCall.TheVariants as ring
use Rattle.mc_ring.specs.declared.calls.RingAnswer.TheVariants as told
use Rattle.mc_ring.specs.declared.ring.Pushed.TheVariants as fate
use Rattle.mc_props.specs.declared.facts.Facts.{Facts}
use Rattle.mc_props.specs.declared.entries.PropEntry.{PropEntry}
use Rattle.mc_props.specs.declared.reading.Reading.{Reading}
use Rattle.mc_client.specs.Client.{ClientState, after_flag, after_observe, after_push_of, after_reply_of, after_request, after_return, after_switch, after_unobserve, is_reply, push_answer_of}
use Rattle.mc_client.specs.Polls.{Polled}
use Rattle.mc_client.specs.Watches.{Fresh, IsPlaced, Shown, has_id, new_watch}
use Rattle.mc_client.specs.declared.watch.Watch.{Watch}
use Rattle.mc_client.specs.declared.refusal.ClientError.{ClientError}
use Rattle.mc_client.specs.declared.refusal.Pushed.TheVariants as pushed
use Rattle.mc_client.specs.declared.calls.ClientCall.{ClientCall}
use Rattle.mc_client.specs.declared.calls.ClientCall.TheVariants as call
use Rattle.mc_client.specs.declared.calls.ClientAnswer.{ClientAnswer}
use Rattle.mc_client.specs.declared.calls.ClientAnswer.TheVariants as answer

-- One call

-- the conditions on a client's ring: a place to be given back or used up is set aside, and what is
-- pushed is an event that rings hold, or a reply
abbrev pub FitsRing : ClientState → ClientCall → Type 0
FitsRing s call.Unreserve = 0 < s.ring.reserved
FitsRing s (call.Push e) = IsTrue (enters_ring e)
FitsRing s (call.Reply e) = (0 < s.ring.reserved) × IsTrue (is_reply e)
FitsRing s c = Unit {0}

-- the conditions on its observers: a flagged client knows the table, and a polled one is fresh for
-- the facts
abbrev pub FitsTable : (ℕ → Facts → Reading) → List PropEntry → Facts → ClientState → ClientCall
    → Type 0
FitsTable stated entries facts s (call.Flag mask) = All (IsPlaced entries) s.watches
FitsTable stated entries facts s call.Poll = Fresh stated entries facts s.watches
FitsTable stated entries facts s c = Unit {0}

abbrev pub IsAllowed : (ℕ → Facts → Reading) → List PropEntry → Facts → ClientState → ClientCall
    → Type 0
IsAllowed stated entries facts s c = FitsRing s c × FitsTable stated entries facts s c

abbrev pub requested : Result Unit QueueFull → ClientAnswer
requested (Ok x) = answer.Done
requested (Err full) = answer.Full full

abbrev pub done_answer : Result Unit ClientError → ClientAnswer
done_answer (Ok x) = answer.Done
done_answer (Err e) = answer.Refused e

-- what was asked is done, or it was refused and nothing changed
abbrev pub Changes : ClientState → ClientState → ClientAnswer → ClientState → Type 0
Changes s made answer.Done s' = s' ≡ made
Changes s made (answer.Refused e) s' = s' ≡ s
Changes s made a s' = ⊥

abbrev pub PollStep : (Watch → Shown) → ClientState → ClientAnswer → ClientState → Type 0
PollStep now s (answer.Event e) s' = Polled now s e s'
PollStep now s answer.NoMemory s' = s' ≡ s
PollStep now s a s' = ⊥

-- a call with its answer, the client before it and the client after it, at a table of these entries
-- where observers have these values
abbrev pub IsStep : List PropEntry → (Watch → Shown) → ClientState → ClientCall → ClientAnswer
    → ClientState → Type 0
IsStep entries now s call.Request a s' =
    (a ≡ requested (reserve_answer s.ring)) × (s' ≡ after_request s)
IsStep entries now s call.Unreserve a s' = (a ≡ answer.Done) × (s' ≡ after_return s)
IsStep entries now s (call.Push e) a s' =
    (a ≡ answer.Pushed (push_answer_of s e)) × (s' ≡ after_push_of s e)
IsStep entries now s (call.Reply e) a s' = (a ≡ answer.Done) × (s' ≡ after_reply_of s e)
IsStep entries now s (call.Switch n on) a s' = Changes s (after_switch s n on) a s'
IsStep entries now s (call.Observe id name format entry) a s' =
    Changes s (after_observe s (new_watch id name format entry)) a s'
IsStep entries now s (call.Unobserve id) a s' =
    (a ≡ answer.Removed (length (filter (has_id id) s.watches))) × (s' ≡ after_unobserve s id)
IsStep entries now s (call.Flag mask) a s' = (a ≡ answer.Done) × (s' ≡ after_flag s entries mask)
IsStep entries now s call.Poll a s' = PollStep now s a s'

-- Lists of calls

-- a call with its answer, and the client after it
abbrev pub Told : Type 0
Told = ClientCall × ClientAnswer × ClientState

-- each call was allowed where it was made, and is a step there, at some table and facts
abbrev pub Runs : ClientState → List Told → Type 0
Runs s [] = Unit {0}
Runs s (t ∷ ts) = FitsRing s t.0
    × ((entries : List PropEntry) × (now : Watch → Shown) × IsStep entries now s t.0 t.1 t.2)
    × Runs t.2 ts

abbrev pub left_by : ClientState → List Told → ClientState
left_by s [] = s
left_by s (t ∷ ts) = left_by t.2 ts

-- what a poll's event was to the ring: an overflow that was told, or its oldest event; no event and
-- a change were none of the ring's
abbrev pub ring_polled : Event → List RingTold
ring_polled event.None = []
ring_polled (event.Change id name format value) = []
ring_polled event.Overflow = (ring.TakeOverflow, told.TookOverflow true) ∷ []
ring_polled e = (ring.Pop, told.Popped (Some e)) ∷ []

-- what a pushed event was to the ring: one that is switched off was nothing to it
abbrev pub ring_pushed : Event → ClientAnswer → List RingTold
ring_pushed e (answer.Pushed pushed.Kept) = (ring.PushEvent e, told.PushedEvent fate.Kept) ∷ []
ring_pushed e (answer.Pushed (pushed.Dropped d)) =
    (ring.PushEvent e, told.PushedEvent (fate.Dropped d)) ∷ []
ring_pushed e a = []

abbrev pub ring_requested : ClientAnswer → List RingTold
ring_requested answer.Done = (ring.Reserve, told.Reserved) ∷ []
ring_requested (answer.Full full) = (ring.Reserve, told.Refused full) ∷ []
ring_requested a = []

abbrev pub ring_answered : ClientAnswer → List RingTold
ring_answered (answer.Event e) = ring_polled e
ring_answered a = []

-- the call of the ring that a client's call was, if it was one
abbrev pub ring_call : ClientCall → ClientAnswer → List RingTold
ring_call call.Request a = ring_requested a
ring_call call.Unreserve a = (ring.Unreserve, told.Unreserved) ∷ []
ring_call (call.Push e) a = ring_pushed e a
ring_call (call.Reply e) a = (ring.PushReply e, told.PushedReply) ∷ []
ring_call call.Poll a = ring_answered a
ring_call c a = []

abbrev pub ring_calls : List Told → List RingTold
ring_calls [] = []
ring_calls (t ∷ ts) = ring_call t.0 t.1 ++ ring_calls ts

-- every list of allowed calls keeps the law of its ring: events leave in the order in which they
-- were kept, and an accepted reply is polled or still held
abbrev pub KeepsLaw : ℕ → ClientState → Type 0
KeepsLaw size s = (ts : List Told) → Runs s ts → IsLawful size (ring_calls ts) (left_by s ts).ring
