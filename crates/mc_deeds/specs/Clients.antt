-- What becomes of a client in a slab.
use Rattle.std.specs.Prelude.{◌≡◌, ℕ, ◌<◌, Bool, true, false, IsSomeAnd, not, if◌then◌else◌, nat_le, List, length, filter, IsTrue, Option, Some}
use Rattle.std.specs.Option.{option_map}
use Rattle.slab.specs.Slab.{Slab, get}
use Rattle.mc_dispatch.specs.declared.request.ClientNo.{ClientNo}
use Rattle.mc_ring.specs.Event.{enters_ring}
use Rattle.mc_ring.specs.Ring.{is_full}
use Rattle.mc_ring.specs.declared.event.Event.{Event}
use Rattle.mc_props.specs.declared.entries.PropEntry.{PropEntry}
use Rattle.mc_props.specs.declared.facts.Facts.{Facts}
use Rattle.mc_props.specs.declared.reading.Reading.{Reading}
use Rattle.mc_client.specs.Client.{ClientState, after_observe, after_push_of, after_request, after_switch, after_unobserve, can_switch, push_answer_of}
use Rattle.mc_client.specs.Polls.{Polled}
use Rattle.mc_client.specs.Seen.{now_of, poll_of, seen_after, seen_by}
use Rattle.mc_client.specs.Watches.{KeepsFreshAt, has_id, present}
use Rattle.mc_client.specs.declared.refusal.Pushed.{Pushed}
use Rattle.mc_client.specs.declared.watch.Watch.{Watch}

-- the name of the client of a number
abbrev pub name_at : Slab ClientState → ClientNo → Option (List ℕ)
name_at cs c = option_map (λ (k : ClientState). k.name) (get cs c.0)

-- the client was polled, and stands there as the poll left it
pub record PolledAt (value : ℕ → Facts → Reading) (entries : List PropEntry) (f : Facts)
    (k : ClientState) (e : Event) (found : Option ClientState) : Type 0 where
  pub left : ClientState
  pub stands : found ≡ Some left
  pub polled : Polled (present value f) k e left
  pub answer : e ≡ poll_of (now_of value entries f) k
  pub seen : seen_by left ≡ seen_after (now_of value entries f) e (seen_by k)
  pub kind : 0 < length k.ring.events → IsTrue (enters_ring e)

-- the observer is another of the client's, unless it has 1,000
pub record ObservedAt (w : Watch) (k : ClientState) (done : Bool) (found : Option ClientState)
    : Type 0 where
  pub answer : done ≡ not (nat_le 1000 (length k.watches))
  pub left : ClientState
  pub stands : found ≡ Some left
  pub after : left ≡ (if done then after_observe k w else k)
  pub fresh : KeepsFreshAt w.name w.entry k.watches left.watches

-- its observers of the number went
pub record UnobservedAt (id : ℕ) (k : ClientState) (n : ℕ) (found : Option ClientState)
    : Type 0 where
  pub answer : n ≡ length (filter (has_id id) k.watches)
  pub stands : found ≡ Some (after_unobserve k id)

-- the events of the number are on or off for it, where they can be
pub record SwitchedAt (n : ℕ) (on : Bool) (k : ClientState) (done : Bool)
    (found : Option ClientState) : Type 0 where
  pub answer : done ≡ can_switch n
  pub stands : found ≡ Some (if done then after_switch k n on else k)

-- a place was set aside for it, unless its ring is full
pub record IsPlacedAt (k : ClientState) (placed : Bool) (found : Option ClientState)
    : Type 0 where
  pub answer : placed ≡ not (is_full k.ring)
  pub stands : found ≡ Some (after_request k)

-- no place is free for it, or one is
abbrev pub IsFullAt : Slab ClientState → ℕ → Type 0
IsFullAt cs c = IsSomeAnd (get cs c) (λ k. is_full k.ring ≡ true)

abbrev pub IsFreeAt : Slab ClientState → ℕ → Type 0
IsFreeAt cs c = IsSomeAnd (get cs c) (λ k. is_full k.ring ≡ false)

-- an event was pushed to it
pub record IsPushedAt (k : ClientState) (e : Event) (p : Pushed) (found : Option ClientState)
    : Type 0 where
  pub answer : p ≡ push_answer_of k e
  pub stands : found ≡ Some (after_push_of k e)
