-- The requests of a journal by their tickets: which were asked, taken, replied to, or went.
use Rattle.std.specs.Prelude.{◌≡◌, ℕ, ◌+◌, ◌==◌, ◌⊎◌, Bool, false, ◌&&◌, ◌||◌, if◌then◌else◌, List, [], ◌∷◌, ◌++◌, drop, map, slice_get, Option, Some, None}
use Rattle.mc_dispatch.specs.declared.call.Call.{Call}
use Rattle.mc_dispatch.specs.declared.call.Call.TheVariants as call
use Rattle.mc_dispatch.specs.declared.request.Request.{Request}
use Rattle.mc_player.specs.declared.record.Answer.{Answer}
use Rattle.mc_player.specs.declared.record.Answer.TheVariants as answer
use Rattle.mc_player.specs.declared.record.CoreRecord.{CoreRecord}
use Rattle.mc_player.specs.declared.record.CoreRecord.TheVariants.{Destroyed, Called, Took, Replied}
use Rattle.mc_player.specs.Journals.{put, request}
use Rattle.mc_player.specs.Rings.{has, unanswered}

abbrev pub is_ticket : Option ℕ → ℕ → Bool
is_ticket None n = false
is_ticket (Some m) n = m == n

-- a record has the ticket
abbrev pub used : ℕ → List CoreRecord → Bool
used n [] = false
used n (Called by c ticket call a ∷ h) = is_ticket ticket n || used n h
used n (Took by c m id ∷ h) = (m == n) || used n h
used n (Replied by c m e ∷ h) = (m == n) || used n h
used n (_ ∷ h) = used n h

-- its request was taken
abbrev pub taken : ℕ → List CoreRecord → Bool
taken n [] = false
taken n (Took by c m id ∷ h) = (m == n) || taken n h
taken n (_ ∷ h) = taken n h

-- its request was replied to
abbrev pub replied : ℕ → List CoreRecord → Bool
replied n [] = false
replied n (Replied by c m e ∷ h) = (m == n) || replied n h
replied n (_ ∷ h) = replied n h

-- its request went with its client
abbrev pub dropped : ℕ → List CoreRecord → Bool
dropped n [] = false
dropped n (Destroyed by c ∷ h) = has n (unanswered c.0 h) || dropped n h
dropped n (_ ∷ h) = dropped n h

-- a client's request was accepted with it
abbrev pub asks : ℕ → ℕ → List CoreRecord → Bool
asks c n [] = false
asks c n (Called by d ticket call a ∷ h) = ((d.0 == c) && is_ticket ticket n) || asks c n h
asks c n (_ ∷ h) = asks c n h

-- the request that was accepted with it
abbrev pub request_of : ℕ → List CoreRecord → Option Request
request_of n [] = None
request_of n (Called by c ticket call a ∷ h) =
    if is_ticket ticket n then request c ticket call else request_of n h
request_of n (_ ∷ h) = request_of n h

-- ---- in order

-- the tickets of all accepted requests, oldest first
abbrev pub asked : List CoreRecord → List ℕ
asked [] = []
asked (Called by c ticket call a ∷ h) = put ticket (asked h)
asked (_ ∷ h) = asked h

-- the tickets of those that were taken, oldest first
abbrev pub took : List CoreRecord → List ℕ
took [] = []
took (Took by c n id ∷ h) = took h ++ n ∷ []
took (_ ∷ h) = took h

abbrev pub tickets : List Request → List ℕ
tickets qs = map (λ (q : Request). q.ticket) qs

-- the first list is the second with some left out
abbrev pub IsPart : List ℕ → List ℕ → Type 0
IsPart xs [] = xs ≡ []
IsPart xs (y ∷ ys) = IsPart xs ys ⊎ ((slice_get xs 0 ≡ Some y) × IsPart (drop 1 xs) ys)

-- ---- among requests

-- the request of the client and the ticket is among these
abbrev pub holds : ℕ → ℕ → List Request → Bool
holds c n [] = false
holds c n (q ∷ qs) = ((q.client.0 == c) && (q.ticket == n)) || holds c n qs

abbrev pub is_at_work : ℕ → ℕ → Option Request → Bool
is_at_work c n None = false
is_at_work c n (Some q) = (q.client.0 == c) && (q.ticket == n)

-- ---- aborts

-- the number that an abort answered, while its replies come
abbrev pub promise_by : Call → Answer → Option ℕ
promise_by (call.Abort id) (answer.Removed n) = Some n
promise_by c a = None

abbrev pub promised : List CoreRecord → Option ℕ
promised [] = None
promised (Called by c ticket call a ∷ h) = promise_by call a
promised (Replied by c n e ∷ h) = promised h
promised (_ ∷ h) = None

-- the replies since any other record
abbrev pub since : List CoreRecord → ℕ
since [] = 0
since (Replied by c n e ∷ h) = since h + 1
since (_ ∷ h) = 0
