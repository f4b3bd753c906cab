-- What a client observes without the places and flags by which it is found, and what a poll gives
-- and leaves, as functions of it.
use Rattle.std.specs.Prelude.{ℕ, Bool, true, false, ◌&&◌, if◌then◌else◌, List, [], ◌∷◌, map, Option, Some, None}
use Rattle.mc_value.specs.Sameness.{same_value}
use Rattle.mc_value.specs.declared.value.Format.{Format}
use Rattle.mc_value.specs.declared.value.Format.TheVariants as formats
use Rattle.mc_ring.specs.declared.event.Event.{Event}
use Rattle.mc_ring.specs.declared.event.Event.TheVariants.{None as Nothing, Change, Overflow}
use Rattle.mc_props.specs.Readings.{presented}
use Rattle.mc_props.specs.declared.facts.Facts.{Facts}
use Rattle.mc_props.specs.declared.entries.PropEntry.{PropEntry}
use Rattle.mc_props.specs.declared.reading.Reading.{Reading}
use Rattle.mc_client.specs.Client.{ClientState}
use Rattle.mc_client.specs.Watches.{Shown}
use Rattle.mc_client.specs.declared.watch.Watch.{Watch}

-- an observer's number, the name and the format that it observes, and what it was last given
pub record Seen : Type 0 where
  pub id : ℕ
  pub name : List ℕ
  pub format : Format
  pub given : Option Shown

-- an observer without its place in the table and its flag
abbrev pub seen_of : Watch → Seen
seen_of w = record { id = w.id; name = w.name; format = w.format; given = w.given }

abbrev pub seen_by : ClientState → List Seen
seen_by s = map seen_of s.watches

-- what an observer has at these facts
abbrev pub now_of : (ℕ → Facts → Reading) → List PropEntry → Facts → Seen → Shown
now_of stated entries facts w = presented stated entries w.name facts w.format

-- ---- whether an observer was last given what it has

abbrev pub same_format : Format → Format → Bool
same_format formats.None formats.None = true
same_format formats.String formats.String = true
same_format formats.Flag formats.Flag = true
same_format formats.Int64 formats.Int64 = true
same_format formats.Node formats.Node = true
same_format _ _ = false

abbrev pub was_given : Option Shown → Shown → Bool
was_given None shown = false
was_given (Some last) shown = same_format last.0 shown.0 && same_value last.1 shown.1

abbrev pub is_settled : (Seen → Shown) → Seen → Bool
is_settled now w = was_given w.given (now w)

-- ---- what a poll gives

-- the first observer that was last given something else than it has
abbrev pub first_unsettled : (Seen → Shown) → List Seen → Option Seen
first_unsettled now [] = None
first_unsettled now (w ∷ ws) = if is_settled now w then first_unsettled now ws else Some w

-- the event that tells it what it has, or that there is none
abbrev pub news_of : (Seen → Shown) → Option Seen → Event
news_of now None = Nothing
news_of now (Some w) = Change w.id w.name (now w).0 (now w).1

-- the ring's oldest event, else an overflow where the ring is choked, else what is new to an
-- observer
abbrev pub poll_by : (Seen → Shown) → List Event → Bool → List Seen → Event
poll_by now (e ∷ es) choked ws = e
poll_by now [] true ws = Overflow
poll_by now [] false ws = news_of now (first_unsettled now ws)

-- the event that a poll answers
abbrev pub poll_of : (Seen → Shown) → ClientState → Event
poll_of now s = poll_by now s.ring.events s.ring.choked (seen_by s)

-- ---- what a poll leaves

-- an observer that is given what it has
abbrev pub told_now : (Seen → Shown) → Seen → Seen
told_now now w = record { id = w.id; name = w.name; format = w.format; given = Some (now w) }

-- the first that was last given something else is
abbrev pub first_told : (Seen → Shown) → List Seen → List Seen
first_told now [] = []
first_told now (w ∷ ws) = if is_settled now w then w ∷ first_told now ws else told_now now w ∷ ws

-- the observers behind an event that was polled: a change was told to the first that it is news to
abbrev pub seen_after : (Seen → Shown) → Event → List Seen → List Seen
seen_after now (Change id name format value) ws = first_told now ws
seen_after now e ws = ws
