-- A client's ring and its observers in the words of records: what its ring took, what its polls
-- gave, what waits for a reply. A client is one life of its number.
use Rattle.std.specs.Prelude.{ℕ, ◌+◌, ◌-◌, ◌==◌, Bool, true, false, not, ◌&&◌, ◌||◌, if◌then◌else◌, List, [], ◌∷◌, ◌++◌, length, filter, Option, Some, None}
use Rattle.std.specs.Str.{bytes_eq}
use Rattle.mc_dispatch.specs.declared.call.Call.{Call}
use Rattle.mc_dispatch.specs.declared.call.Call.TheVariants as call
use Rattle.mc_ring.specs.Event.{enters_ring}
use Rattle.mc_ring.specs.declared.event.Event.{Event}
use Rattle.mc_ring.specs.declared.event.Event.TheVariants as event
use Rattle.mc_props.specs.declared.facts.Facts.{Facts}
use Rattle.mc_client.specs.Seen.{Seen, is_settled, was_given}
use Rattle.mc_client.specs.Watches.{Shown}
use Rattle.mc_player.specs.declared.record.Answer.{Answer}
use Rattle.mc_player.specs.declared.record.Answer.TheVariants as answer
use Rattle.mc_player.specs.declared.record.CoreRecord.{CoreRecord}
use Rattle.mc_player.specs.declared.record.CoreRecord.TheVariants.{Created, Destroyed, Called, Pushed, Replied}
use Rattle.mc_player.specs.Facts.{facts_of}
use Rattle.mc_player.specs.Journals.{put}
use Rattle.mc_player.specs.Lives.{Table, bears, new_seen, now}

-- ---- lists of tickets

abbrev pub has : ℕ → List ℕ → Bool
has n [] = false
has n (m ∷ ms) = (m == n) || has n ms

abbrev pub without_ticket : ℕ → List ℕ → List ℕ
without_ticket n ms = filter (λ m. not (m == n)) ms

-- ---- the ring of a client, since its number was given last

-- how much it holds
abbrev pub size_of : ℕ → List CoreRecord → ℕ
size_of c [] = 0
size_of c (Created by d name size ∷ h) = if d.0 == c then size else size_of c h
size_of c (_ ∷ h) = size_of c h

-- the events that it took, oldest first
abbrev pub accepted : ℕ → List CoreRecord → List Event
accepted c [] = []
accepted c (Created by d name size ∷ h) = if d.0 == c then [] else accepted c h
accepted c (Pushed by d e kept ∷ h) =
    if d.0 == c && kept then accepted c h ++ e ∷ [] else accepted c h
accepted c (Replied by d n e ∷ h) = if d.0 == c then accepted c h ++ e ∷ [] else accepted c h
accepted c (_ ∷ h) = accepted c h

abbrev pub if_ring : Event → Option Event
if_ring e = if enters_ring e then Some e else None

-- the event of the ring that a poll answered
abbrev pub ring_event : Call → Answer → Option Event
ring_event call.Poll (answer.Event e) = if_ring e
ring_event c a = None

-- the events of the ring that its polls answered, oldest first
abbrev pub polled : ℕ → List CoreRecord → List Event
polled c [] = []
polled c (Created by d name size ∷ h) = if d.0 == c then [] else polled c h
polled c (Called by d ticket call a ∷ h) =
    if d.0 == c then put (ring_event call a) (polled c h) else polled c h
polled c (_ ∷ h) = polled c h

abbrev pub is_overflow : Call → Answer → Bool
is_overflow call.Poll (answer.Event event.Overflow) = true
is_overflow c a = false

-- an event was dropped, and no overflow was polled since
abbrev pub choked : ℕ → List CoreRecord → Bool
choked c [] = false
choked c (Created by d name size ∷ h) = if d.0 == c then false else choked c h
choked c (Called by d ticket call a ∷ h) =
    if d.0 == c && is_overflow call a then false else choked c h
choked c (Pushed by d e kept ∷ h) = if d.0 == c && not kept then true else choked c h
choked c (_ ∷ h) = choked c h

-- the tickets of its accepted requests that have no reply
abbrev pub unanswered : ℕ → List CoreRecord → List ℕ
unanswered c [] = []
unanswered c (Destroyed by d ∷ h) = if d.0 == c then [] else unanswered c h
unanswered c (Called by d ticket call a ∷ h) =
    if d.0 == c then put ticket (unanswered c h) else unanswered c h
unanswered c (Replied by d n e ∷ h) =
    if d.0 == c then without_ticket n (unanswered c h) else unanswered c h
unanswered c (_ ∷ h) = unanswered c h

abbrev pub held : ℕ → List CoreRecord → ℕ
held c h = length (accepted c h) - length (polled c h)

abbrev pub reserved : ℕ → List CoreRecord → ℕ
reserved c h = length (unanswered c h)

-- no place is left, or an overflow is still to be told
abbrev pub full : ℕ → List CoreRecord → Bool
full c h = (held c h + reserved c h == size_of c h) || choked c h

-- what an accepted call says of the events of a number
abbrev pub off_by : ℕ → Call → Answer → Bool → Bool
off_by n (call.Event m on) answer.Ok before = if m == n then not on else before
off_by n c a before = before

-- it switched the events of a number off last
abbrev pub off : ℕ → ℕ → List CoreRecord → Bool
off c n [] = false
off c n (Created by d name size ∷ h) = if d.0 == c then false else off c n h
off c n (Called by d ticket call a ∷ h) =
    if d.0 == c then off_by n call a (off c n h) else off c n h
off c n (_ ∷ h) = off c n h

-- ---- its observers

-- a change belongs to the observer: its number, its name, and what it has and wasn't given
abbrev pub is_told : Table → Facts → ℕ → List ℕ → Shown → Seen → Bool
is_told t f id name shown w = (w.id == id) && (bytes_eq w.name name
    && (was_given (Some (now t f w)) shown && not (is_settled (now t f) w)))

-- the first observer to which a change belongs was given it
abbrev pub give : Table → Facts → ℕ → List ℕ → Shown → List Seen → List Seen
give t f id name shown [] = []
give t f id name shown (w ∷ ws) =
    if is_told t f id name shown w then
    record { id = w.id; name = w.name; format = w.format; given = Some shown } ∷ ws else
    w ∷ give t f id name shown ws

abbrev pub watched : Table → Facts → Call → Answer → List Seen → List Seen
watched t f (call.Observe id name to) answer.Ok ws = ws ++ new_seen id name to ∷ []
watched t f (call.Unobserve id) a ws = filter (λ w. not (bears id w)) ws
watched t f call.Poll (answer.Event (event.Change id name to v)) ws = give t f id name (to, v) ws
watched t f c a ws = ws

-- what it observes, in order of observing
abbrev pub watches : Table → ℕ → List CoreRecord → List Seen
watches t c [] = []
watches t c (Created by d name size ∷ h) = if d.0 == c then [] else watches t c h
watches t c (Called by d ticket call a ∷ h) =
    if d.0 == c then watched t (facts_of t h) call a (watches t c h) else watches t c h
watches t c (_ ∷ h) = watches t c h
