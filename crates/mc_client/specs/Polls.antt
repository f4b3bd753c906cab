-- What a poll answers, and the client that it leaves.
use Rattle.std.specs.Prelude.{◌≡◌, ℕ, ◌+◌, Bool, true, false, List, [], ◌∷◌, ◌++◌, map, take, drop, slice_get, All, Option, Some, None, ◌⊎◌}
use Rattle.mc_ring.specs.Ring.{after_pop, with_choked}
use Rattle.mc_ring.specs.declared.event.Event.{Event}
use Rattle.mc_ring.specs.declared.event.Event.TheVariants.{None as Nothing, Change, Overflow}
use Rattle.mc_client.specs.Client.{ClientState, with_ring, with_watches}
use Rattle.mc_client.specs.Watches.{IsSettled, Shown, cleared, with_given}
use Rattle.mc_client.specs.declared.watch.Watch.{Watch}
use Rattle.mc_client.specs.declared.watches.Changed.{Changed}

-- the observer at a place is the first that was last given something else than it has now
pub record IsFirst (now : Watch → Shown) (ws : List Watch) (place : ℕ) (w : Watch) : Type 0 where
  pub stands : slice_get ws place ≡ Some w
  pub before : All (IsSettled now) (take place ws)
  pub changed : IsSettled now w → ⊥

-- what a search among the observers finds
abbrev pub Finds : (Watch → Shown) → List Watch → Option Changed → Type 0
Finds now ws None = All (IsSettled now) ws
Finds now ws (Some c) = (w : Watch) × IsFirst now ws c.place w × (c.shown ≡ now w)

-- what an observer has now, where it was last given something else
abbrev pub IsNews : (Watch → Shown) → Watch → Option Shown → Type 0
IsNews now w None = IsSettled now w
IsNews now w (Some shown) = (shown ≡ now w) × (IsSettled now w → ⊥)

-- the event that tells an observer of a change
abbrev pub change_of : Watch → Shown → Event
change_of w shown = Change w.id w.name shown.0 shown.1

-- the observers after it: those before a place were read, and the one there is given what it has
abbrev pub told_at : List Watch → ℕ → Watch → Shown → List Watch
told_at ws place w shown = map cleared (take place ws) ++ with_given w shown ∷ drop (place + 1) ws

-- an observer is told of a change
pub record IsTold (now : Watch → Shown) (ws : List Watch) (e : Event) (ws' : List Watch)
    : Type 0 where
  pub place : ℕ
  pub watch : Watch
  pub first : IsFirst now ws place watch
  pub event : e ≡ change_of watch (now watch)
  pub after : ws' ≡ told_at ws place watch (now watch)

-- each observer was last given what it has
pub record IsQuiet (now : Watch → Shown) (ws : List Watch) (e : Event) (ws' : List Watch)
    : Type 0 where
  pub settled : All (IsSettled now) ws
  pub event : e ≡ Nothing
  pub after : ws' ≡ map cleared ws

abbrev pub WatchesPolled : (Watch → Shown) → List Watch → Event → List Watch → Type 0
WatchesPolled now ws e ws' = IsTold now ws e ws' ⊎ IsQuiet now ws e ws'

-- the ring's oldest event; else an overflow where the ring is choked; else what the observers have
abbrev pub PolledBy : (Watch → Shown) → ClientState → List Event → Bool → Event → ClientState
    → Type 0
PolledBy now s (x ∷ xs) choked e s' = (e ≡ x) × (s' ≡ with_ring s (after_pop s.ring))
PolledBy now s [] true e s' = (e ≡ Overflow) × (s' ≡ with_ring s (with_choked s.ring false))
PolledBy now s [] false e s' =
    (ws : List Watch) × WatchesPolled now s.watches e ws × (s' ≡ with_watches s ws)

-- a poll that answers an event, the client before it and the client after it, where observers have
-- these values
abbrev pub Polled : (Watch → Shown) → ClientState → Event → ClientState → Type 0
Polled now s e s' = PolledBy now s s.ring.events s.ring.choked e s'

-- a poll would answer this event
abbrev pub WouldPoll : (Watch → Shown) → ClientState → Event → Type 0
WouldPoll now s e = (s' : ClientState) × Polled now s e s'

-- no other event would be polled
abbrev pub IsSolePoll : (Watch → Shown) → ClientState → Event → Type 0
IsSolePoll now s r = (e : Event) (after : ClientState) → Polled now s e after → e ≡ r

-- an answer of `None` tells that each observer was last given what it has
abbrev pub IsQuietAt : (Watch → Shown) → Event → List Watch → Type 0
IsQuietAt now e ws = e ≡ Nothing → All (IsSettled now) ws

-- the observers are told of an event, and others would be left
abbrev pub WouldTell : (Watch → Shown) → List Watch → Event → Type 0
WouldTell now ws e = (ws' : List Watch) × WatchesPolled now ws e ws'
