-- What a client's call leaves of a journal, whose newest record comes first.
use Rattle.std.specs.Prelude.{◌≡◌, ℕ, Bool, true, false, if◌then◌else◌, List, ◌∷◌, length, Option, None}
use Rattle.std.specs.Bool.{MatchBool}
use Rattle.mc_dispatch.specs.declared.call.Call.{Call}
use Rattle.mc_dispatch.specs.declared.call.Call.TheVariants as call
use Rattle.mc_dispatch.specs.declared.request.ClientNo.{ClientNo}
use Rattle.mc_player.specs.Rules.{is_request}
use Rattle.mc_player.specs.declared.record.Answer.{Answer}
use Rattle.mc_player.specs.declared.record.CoreRecord.{CoreRecord}
use Rattle.mc_player.specs.declared.record.CoreRecord.TheVariants.{Called}
use Rattle.mc_state.specs.Growth.{Adds, is_reply}
use Rattle.mc_state.specs.Steps.{ticket_for}

-- the call aborts requests
abbrev pub is_abort : Call → Bool
is_abort (call.Abort id) = true
is_abort c = false

-- an accepted request's ticket is the number of records before its own
abbrev pub ticket_of : List CoreRecord → Call → Answer → Option ℕ
ticket_of h c a = if is_request c then ticket_for (length h) a else None

-- one record of the call with its answer came behind the others, and behind an abort's the replies
-- to what it aborted
abbrev pub Answers : ℕ → ClientNo → Call → Answer → List CoreRecord → List CoreRecord → Type 0
Answers by c call a h h' = MatchBool (is_abort call)
    (Adds is_reply by (Called by c None call a ∷ h) h')
    (h' ≡ Called by c (ticket_of h call a) call a ∷ h)
