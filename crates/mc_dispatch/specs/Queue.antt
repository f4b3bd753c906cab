-- A queue of requests as contracts see it, and which of its requests a call takes out or leaves.
use Rattle.std.specs.Prelude.{ℕ, Bool, true, false, not, ◌==◌, ◌&&◌, List, [], ◌∷◌, ◌++◌, drop, filter}
use Rattle.mc_dispatch.specs.declared.request.ClientNo.{ClientNo}
use Rattle.mc_dispatch.specs.declared.request.Request.{Request}

-- the requests that wait, the oldest first; and whether room is reserved for one more
pub record QueueState : Type 0 where
  pub requests : List Request
  pub reserved : Bool

abbrev pub new_queue : QueueState
new_queue = record { requests = []; reserved = false }

-- with those requests
abbrev pub with_requests : QueueState → List Request → QueueState
with_requests s rs = record { requests = rs; reserved = s.reserved }

-- with room for one more
abbrev pub with_room : QueueState → QueueState
with_room s = record { requests = s.requests; reserved = true }

-- a request goes behind the others, and uses up the room that is reserved
abbrev pub after_enqueue : QueueState → Request → QueueState
after_enqueue s r = record { requests = s.requests ++ r ∷ []; reserved = false }

-- the oldest request leaves
abbrev pub after_take : QueueState → QueueState
after_take s = with_requests s (drop 1 s.requests)

-- the request has the ticket
abbrev pub has_ticket : ℕ → Request → Bool
has_ticket ticket r = r.ticket == ticket

-- the request is the client's
abbrev pub is_of : ClientNo → Request → Bool
is_of c r = r.client.0 == c.0

-- the request is the client's, and bears the number
abbrev pub is_named : ClientNo → ℕ → Request → Bool
is_named c id r = is_of c r && (r.id == id)

-- the others, in their order
abbrev pub without : (Request → Bool) → List Request → List Request
without test rs = filter (λ r. not (test r)) rs

-- those that pass the test are taken out
abbrev pub after_removal : QueueState → (Request → Bool) → QueueState
after_removal s test = with_requests s (without test s.requests)
