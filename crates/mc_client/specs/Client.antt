-- A client as contracts see it, and what each call answers and leaves; a poll's answer stands in
-- `Polls` and `Seen`.
use Rattle.std.specs.Prelude.{◌≡◌, ℕ, ◌≤◌, Bool, true, false, not, if◌then◌else◌, ◌==◌, ◌||◌, nat_eq, List, [], ◌∷◌, ◌++◌, length, map}
use Rattle.std.specs.List.{list_any}
use Rattle.indexmap.specs.IndexSet.{insert_key, remove_key}
use Rattle.mc_ring.specs.Event.{event_number}
use Rattle.mc_ring.specs.Ring.{IsRing, RingState, after_push, after_reply, after_reserve, after_unreserve, new_ring, push_answer}
use Rattle.mc_ring.specs.declared.event.Event.{Event}
use Rattle.mc_ring.specs.declared.event.Event.TheVariants.{GetReply, SetReply, CommandReply}
use Rattle.mc_ring.specs.declared.ring.Pushed.{Pushed as RingPushed}
use Rattle.mc_ring.specs.declared.ring.Pushed.TheVariants as ring
use Rattle.mc_props.specs.declared.entries.PropEntry.{PropEntry}
use Rattle.mc_client.specs.Watches.{flagged_for, without_id}
use Rattle.mc_client.specs.declared.watch.Watch.{Watch}
use Rattle.mc_client.specs.declared.refusal.Pushed.{Pushed}
use Rattle.mc_client.specs.declared.refusal.Pushed.TheVariants.{Kept, Dropped, Off}

-- its name, its ring of events, its observers in order of observing, and the numbers of the events
-- that it switched off, in that order
pub record ClientState : Type 0 where
  pub name : List ℕ
  pub ring : RingState
  pub watches : List Watch
  pub off : List ℕ

-- the events that a client may switch off and on: those of files and seeks, and messages
abbrev pub can_switch : ℕ → Bool
can_switch n = (n == 6) || ((n == 7) || ((n == 8) || ((n == 16) || ((n == 20) || (n == 21)))))

-- what is true of every client
pub record IsClient (s : ClientState) : Type 0 where
  pub ring : IsRing s.ring
  pub few : length s.watches ≤ 1000

abbrev pub new_client : List ℕ → ℕ → ClientState
new_client name size = record { name = name; ring = new_ring size; watches = []; off = [] }

abbrev pub with_ring : ClientState → RingState → ClientState
with_ring s r = record { name = s.name; ring = r; watches = s.watches; off = s.off }

abbrev pub with_watches : ClientState → List Watch → ClientState
with_watches s ws = record { name = s.name; ring = s.ring; watches = ws; off = s.off }

abbrev pub with_off : ClientState → List ℕ → ClientState
with_off s off = record { name = s.name; ring = s.ring; watches = s.watches; off = off }

-- a place for a reply is set aside, or given back
abbrev pub after_request : ClientState → ClientState
after_request s = with_ring s (after_reserve s.ring)

abbrev pub after_return : ClientState → ClientState
after_return s = with_ring s (after_unreserve s.ring)

-- an observer is added behind the others
abbrev pub after_observe : ClientState → Watch → ClientState
after_observe s w = with_watches s (s.watches ++ w ∷ [])

-- the observers of a number go
abbrev pub after_unobserve : ClientState → ℕ → ClientState
after_unobserve s id = with_watches s (without_id id s.watches)

-- an event is switched on, or off
abbrev pub after_switch : ClientState → ℕ → Bool → ClientState
after_switch s n true = with_off s (remove_key (nat_eq n) s.off)
after_switch s n false = with_off s (insert_key nat_eq s.off n)

-- the events of a number are switched off
abbrev pub has_off : ClientState → ℕ → Bool
has_off s n = list_any (nat_eq n) s.off

-- after a call that switches the events of a number, each number is as its last such call has it
abbrev pub Switches : ClientState → ClientState → ℕ → Bool → Type 0
Switches s s' n on = (m : ℕ) → has_off s' m ≡ (if n == m then not on else has_off s m)

-- the observers whose properties depend on a mask's fields are flagged
abbrev pub after_flag : ClientState → List PropEntry → ℕ → ClientState
after_flag s entries mask = with_watches s (map (flagged_for entries mask) s.watches)

abbrev pub is_off : ClientState → Event → Bool
is_off s e = has_off s (event_number e)

-- what became of a pushed event, as the ring tells it
abbrev pub as_pushed : RingPushed → Pushed
as_pushed ring.Kept = Kept
as_pushed (ring.Dropped e) = Dropped e

-- an event that is switched off is handed back; another one goes to the ring
abbrev pub push_answer_of : ClientState → Event → Pushed
push_answer_of s e = if is_off s e then Off e else as_pushed (push_answer s.ring e)

abbrev pub after_push_of : ClientState → Event → ClientState
after_push_of s e = if is_off s e then s else with_ring s (after_push s.ring e)

-- the replies to requests
abbrev pub is_reply : Event → Bool
is_reply (GetReply id error value) = true
is_reply (SetReply id error) = true
is_reply (CommandReply id error) = true
is_reply e = false

abbrev pub after_reply_of : ClientState → Event → ClientState
after_reply_of s e = with_ring s (after_reply s.ring e)
