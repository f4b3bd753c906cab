-- What a journal says of a player. A journal is a list with the newest record first.
use Rattle.std.specs.Prelude.{ℕ, ◌==◌, Bool, true, false, not, ◌||◌, if◌then◌else◌, List, [], ◌∷◌, ◌++◌, filter, drop, slice_get, Option, Some, None}
use Rattle.std.specs.List.{find}
use Rattle.std.specs.Str.{bytes_eq}
use Rattle.mc_dispatch.specs.Queue.{is_of, is_named, without}
use Rattle.mc_dispatch.specs.declared.call.Call.{Call}
use Rattle.mc_dispatch.specs.declared.call.Call.TheVariants as call
use Rattle.mc_dispatch.specs.declared.request.ClientNo.{ClientNo}
use Rattle.mc_dispatch.specs.declared.request.Request.{Request}
use Rattle.mc_player.specs.declared.record.Order.{Order}
use Rattle.mc_player.specs.declared.record.Order.TheVariants as order
use Rattle.mc_player.specs.declared.record.Outcome.{Outcome}
use Rattle.mc_player.specs.declared.record.Outcome.TheVariants as outcome
use Rattle.mc_player.specs.declared.record.CoreRecord.{CoreRecord}
use Rattle.mc_player.specs.declared.record.CoreRecord.TheVariants.{Created, Destroyed, Called, Took, Ordered, Did, Replied}

-- ---- requests

abbrev pub id_of : Call → ℕ
id_of (call.Command id words) = id
id_of (call.Get id name format) = id
id_of (call.Set id name value) = id
id_of c = 0

abbrev pub put : {X : Type 0} → Option X → List X → List X
put None xs = xs
put (Some x) xs = xs ++ x ∷ []

-- an accepted call, as it waits
abbrev pub request : ClientNo → Option ℕ → Call → Option Request
request c None call = None
request c (Some t) call = Some (record { client = c; ticket = t; id = id_of call; call = call })

-- an abort takes the client's requests of its number out of the queue
abbrev pub left_by : ClientNo → Call → List Request → List Request
left_by c (call.Abort id) qs = without (is_named c id) qs
left_by c _ qs = qs

abbrev pub taken_by : ClientNo → Call → List Request → List Request
taken_by c (call.Abort id) qs = filter (is_named c id) qs
taken_by c _ qs = []

-- the accepted requests that wait to be taken, oldest first
abbrev pub queued : List CoreRecord → List Request
queued [] = []
queued (Destroyed by c ∷ h) = without (is_of c) (queued h)
queued (Called by c ticket call a ∷ h) = put (request c ticket call) (left_by c call (queued h))
queued (Took by c n id ∷ h) = drop 1 (queued h)
queued (_ ∷ h) = queued h

-- the aborted requests that have no reply yet
abbrev pub due : List CoreRecord → List Request
due [] = []
due (Called by c ticket call a ∷ h) = taken_by c call (queued h)
due (Replied by c n e ∷ h) = drop 1 (due h)
due (_ ∷ h) = due h

abbrev pub unless : (Request → Bool) → Option Request → Option Request
unless test None = None
unless test (Some q) = if test q then None else Some q

-- a reply ends what is worked where none of an abort is due
abbrev pub ended_by : List Request → Option Request → Option Request
ended_by [] w = None
ended_by (q ∷ qs) w = w

-- the request that is being worked, while its client lives
abbrev pub worked : List CoreRecord → Option Request
worked [] = None
worked (Destroyed by c ∷ h) = unless (is_of c) (worked h)
worked (Took by c n id ∷ h) = slice_get (queued h) 0
worked (Replied by c n e ∷ h) = ended_by (due h) (worked h)
worked (_ ∷ h) = worked h

-- ---- orders

-- the order that is out
abbrev pub out : List CoreRecord → Option Order
out [] = None
out (Ordered by o ∷ h) = Some o
out (Did by x ∷ h) = None
out (_ ∷ h) = out h

abbrev pub is_load : Order → Bool
is_load order.Load = true
is_load o = false

-- the file was ordered
abbrev pub loading : List CoreRecord → Bool
loading [] = false
loading (Ordered by o ∷ h) = is_load o || loading h
loading (_ ∷ h) = loading h

abbrev pub is_refusal : Outcome → Bool
is_refusal (outcome.Refused why) = true
is_refusal x = false

-- the order of the request that was taken last was refused
abbrev pub refused : List CoreRecord → Bool
refused [] = false
refused (Took by c n id ∷ h) = false
refused (Did by x ∷ h) = is_refusal x
refused (_ ∷ h) = refused h

-- ---- clients

abbrev pub is_number : ClientNo → ClientNo → Bool
is_number a b = a.0 == b.0

-- the living clients, in order of creation
abbrev pub clients : List CoreRecord → List ClientNo
clients [] = []
clients (Created by c name size ∷ h) = clients h ++ c ∷ []
clients (Destroyed by c ∷ h) = filter (λ d. not (is_number d c)) (clients h)
clients (_ ∷ h) = clients h

-- the name of the living client of a number
abbrev pub name_of : ℕ → List CoreRecord → Option (List ℕ)
name_of c [] = None
name_of c (Created by d name size ∷ h) = if d.0 == c then Some name else name_of c h
name_of c (Destroyed by d ∷ h) = if d.0 == c then None else name_of c h
name_of c (_ ∷ h) = name_of c h

abbrev pub is_name : List ℕ → Option (List ℕ) → Bool
is_name name None = false
is_name name (Some own) = bytes_eq own name

-- the living client of a name
abbrev pub named : List CoreRecord → List ℕ → Option ClientNo
named h name = find (λ c. is_name name (name_of c.0 h)) (clients h)
