-- A client as a journal tells of it, and what each record does to it.
use Rattle.std.specs.Prelude.{ℕ, ◌+◌, ◌==◌, Bool, true, false, not, List, [], ◌∷◌, ◌++◌, filter, nat_eq, Option, Some, None}
use Rattle.std.specs.List.{list_any}
use Rattle.indexmap.specs.IndexSet.{insert_key, remove_key}
use Rattle.mc_value.specs.declared.value.Format.{Format}
use Rattle.mc_dispatch.specs.declared.call.Call.{Call}
use Rattle.mc_dispatch.specs.declared.call.Call.TheVariants as call
use Rattle.mc_ring.specs.Event.{event_number}
use Rattle.mc_ring.specs.Ring.{RingState, after_pop, after_reply, new_ring, with_choked, with_event, with_reserved}
use Rattle.mc_ring.specs.declared.event.Event.{Event}
use Rattle.mc_ring.specs.declared.event.Event.TheVariants as event
use Rattle.mc_props.specs.declared.entries.PropEntry.{PropEntry}
use Rattle.mc_props.specs.declared.facts.Facts.{Facts}
use Rattle.mc_props.specs.declared.reading.Reading.{Reading}
use Rattle.mc_client.specs.Client.{ClientState}
use Rattle.mc_client.specs.Seen.{Seen, now_of, poll_by, seen_after, seen_by}
use Rattle.mc_client.specs.Watches.{Shown}
use Rattle.mc_player.specs.declared.record.Answer.{Answer}
use Rattle.mc_player.specs.declared.record.Answer.TheVariants as answer

-- the entries of a player's properties, and what each of them means
pub record Table : Type 0 where
  pub value : ℕ → Facts → Reading
  pub entries : List PropEntry

-- what records tell of a client: its name, its ring, what it observes in order of observing, and
-- the numbers of the events that it switched off
pub record Life : Type 0 where
  pub name : List ℕ
  pub ring : RingState
  pub seen : List Seen
  pub off : List ℕ

-- a client without what only its own speed needs
abbrev pub life : ClientState → Life
life s = record { name = s.name; ring = s.ring; seen = seen_by s; off = s.off }

abbrev pub new_life : List ℕ → ℕ → Life
new_life name size = record { name = name; ring = new_ring size; seen = []; off = [] }

abbrev pub in_ring : Life → RingState → Life
in_ring l r = record { name = l.name; ring = r; seen = l.seen; off = l.off }

abbrev pub with_seen : Life → List Seen → Life
with_seen l ws = record { name = l.name; ring = l.ring; seen = ws; off = l.off }

abbrev pub with_off : Life → List ℕ → Life
with_off l ns = record { name = l.name; ring = l.ring; seen = l.seen; off = ns }

-- ---- what it hears, and what a poll gives

-- an event that it has not switched off
abbrev pub has_on : Event → Life → Bool
has_on e l = not (list_any (nat_eq (event_number e)) l.off)

-- what an observer has at these facts
abbrev pub now : Table → Facts → Seen → Shown
now t f w = now_of t.value t.entries f w

-- the event that a poll answers: the ring's oldest, else an overflow where it is choked, else what
-- the first observer has that was last given something else
abbrev pub next_event : Table → Facts → Life → Event
next_event t f l = poll_by (now t f) l.ring.events l.ring.choked l.seen

-- ---- what a record of a client does to it

-- the ring behind an event that was polled
abbrev pub ring_polled : Event → RingState → RingState
ring_polled event.None r = r
ring_polled event.Overflow r = with_choked r false
ring_polled (event.Change id name format value) r = r
ring_polled e r = after_pop r

-- the client behind it: a change was told to the first observer that it is news to
abbrev pub life_polled : Table → Facts → Event → Life → Life
life_polled t f e l = with_seen (in_ring l (ring_polled e l.ring)) (seen_after (now t f) e l.seen)

-- an observer as it is made
abbrev pub new_seen : ℕ → List ℕ → Format → Seen
new_seen id name format = record { id = id; name = name; format = format; given = None }

abbrev pub bears : ℕ → Seen → Bool
bears id w = w.id == id

-- the numbers that are switched off, behind a call that switches one
abbrev pub switched : ℕ → Bool → List ℕ → List ℕ
switched n true ns = remove_key (nat_eq n) ns
switched n false ns = insert_key nat_eq ns n

-- a call that was answered
abbrev pub life_called : Table → Facts → Call → Answer → Life → Life
life_called t f call.Poll (answer.Event e) l = life_polled t f e l
life_called t f (call.Observe id name format) answer.Ok l =
    with_seen l (l.seen ++ new_seen id name format ∷ [])
life_called t f (call.Unobserve id) a l = with_seen l (filter (λ w. not (bears id w)) l.seen)
life_called t f (call.Event n on) answer.Ok l = with_off l (switched n on l.off)
life_called t f c a l = l

-- a call with a ticket is a request that was accepted: a place is set aside for its reply
abbrev pub life_asked : Option ℕ → Life → Life
life_asked None l = l
life_asked (Some ticket) l = in_ring l (with_reserved l.ring (l.ring.reserved + 1))

-- an event was kept, or dropped
abbrev pub life_pushed : Bool → Event → Life → Life
life_pushed true e l = in_ring l (with_event l.ring e)
life_pushed false e l = in_ring l (with_choked l.ring true)

-- a reply came, to the place that was set aside for it
abbrev pub life_replied : Event → Life → Life
life_replied e l = in_ring l (after_reply l.ring e)
