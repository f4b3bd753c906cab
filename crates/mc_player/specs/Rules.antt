-- Which record may come next in a player's journal.
use Rattle.std.specs.Prelude.{◌≡◌, ℕ, ℤ, ◌<◌, ◌==◌, nat_le, Bool, true, false, not, if◌then◌else◌, List, [], ◌∷◌, length, filter, Option, Some, None, IsSomeAnd, is_some, slice_get, ⊤}
use Rattle.std.specs.Bool.{MatchBool}
use Rattle.mc_value.specs.declared.value.Value.{Value, out-Value}
use Rattle.mc_value.specs.declared.value.Value.TheVariants as value
use Rattle.mc_value.specs.declared.value.Value.TheOpen.{Value-F}
use Rattle.mc_value.specs.declared.value.Format.{Format}
use Rattle.mc_value.specs.declared.value.Format.TheVariants as format
use Rattle.mc_packet.specs.Choices.{is_known}
use Rattle.mc_packet.specs.declared.choice.Why.TheVariants.{NoTrack}
use Rattle.mc_tracks.specs.Selection.{knows}
use Rattle.mc_tracks.specs.TrackList.{HaveDistinctNumbers}
use Rattle.mc_dispatch.specs.Queue.{is_named}
use Rattle.mc_dispatch.specs.declared.call.Call.{Call}
use Rattle.mc_dispatch.specs.declared.call.Call.TheVariants as call
use Rattle.mc_dispatch.specs.declared.request.ClientNo.{ClientNo}
use Rattle.mc_dispatch.specs.declared.request.Request.{Request}
use Rattle.mc_ring.specs.Ring.{IsSize, is_full}
use Rattle.mc_ring.specs.declared.event.Event.{Event}
use Rattle.mc_client.specs.Client.{can_switch}
use Rattle.mc_player.specs.declared.record.Answer.{Answer}
use Rattle.mc_player.specs.declared.record.Answer.TheVariants as answer
use Rattle.mc_player.specs.declared.record.Order.{Order}
use Rattle.mc_player.specs.declared.record.Order.TheVariants as order
use Rattle.mc_player.specs.declared.record.Outcome.{Outcome}
use Rattle.mc_player.specs.declared.record.Outcome.TheVariants as outcome
use Rattle.mc_player.specs.declared.record.CoreRecord.{CoreRecord}
use Rattle.mc_player.specs.declared.record.CoreRecord.TheVariants.{Created, Destroyed, Called, Learned, Wrote, Took, Ordered, Did, Pushed, Replied}
use Rattle.mc_player.specs.Deeds.{command_error, deed_error, deed_value, generic_error, invalid_parameter, queue_full, reply_of}
use Rattle.mc_player.specs.Effects.{Give, Push, Write, reply_due, rest}
use Rattle.mc_player.specs.Facts.{facts_of, last_deed, life_of, quits}
use Rattle.mc_player.specs.Journals.{clients, due, loading, named, out, queued, refused, worked}
use Rattle.mc_player.specs.Lives.{Life, Table, bears, next_event}

-- all that was due has come: the replies of an abort, what the last taken request, outcome or view
-- brings, and the reply to what is worked
pub record IsDone (t : Table) (h : List CoreRecord) : Type 0 where
  pub due : due h ≡ []
  pub rest : rest t h ≡ []
  pub reply : reply_due h ≡ false

-- ---- clients come

-- no living client has the number or the name, and fewer than 64 live
pub record MayCreate (t : Table) (h : List CoreRecord) (c : ClientNo) (name : List ℕ) (size : ℕ)
    : Type 0 where
  pub number : life_of t c.0 h ≡ None
  pub unnamed : named h name ≡ None
  pub fits : IsSize size
  pub few : length (clients h) < 64

-- ---- calls

abbrev pub is_settable : Value-F Value → Bool
is_settable (Value-F.Str s) = true
is_settable (Value-F.Flag b) = true
is_settable (Value-F.Int n) = true
is_settable v = false

abbrev pub is_none : Format → Bool
is_none format.None = true
is_none f = false

-- the form of a request is wrong: a command without words, a property in no format, or one that is
-- set to anything but a text, a flag or a number
abbrev pub is_bad : Call → Bool
is_bad (call.Command id words) = length words == 0
is_bad (call.Get id name to) = is_none to
is_bad (call.Set id name v) = not (is_settable (out-Value v))
is_bad c = false

abbrev pub is_request : Call → Bool
is_request (call.Command id words) = true
is_request (call.Get id name to) = true
is_request (call.Set id name v) = true
is_request c = false

-- the call is answered so, and has no ticket
pub record IsAnswered (ticket : Option ℕ) (a b : Answer) : Type 0 where
  pub untold : ticket ≡ None
  pub same : a ≡ b

-- a request is accepted with a new ticket, the number of records so far
pub record IsAccepted (h : List CoreRecord) (ticket : Option ℕ) (a : Answer) : Type 0 where
  pub new : ticket ≡ Some (length h)
  pub same : a ≡ answer.Ok

-- a wrong form is refused first, then a request for whose reply there is no place; else it is
-- accepted
abbrev pub MayRequest : List CoreRecord → Life → Option ℕ → Call → Answer → Type 0
MayRequest h l ticket c a =
    MatchBool (is_bad c) (IsAnswered ticket a (answer.Refused invalid_parameter))
    (MatchBool (is_full l.ring) (IsAnswered ticket a (answer.Refused queue_full))
    (IsAccepted h ticket a))

abbrev pub done_if : Bool → Answer
done_if true = answer.Ok
done_if false = answer.Refused invalid_parameter

-- what a call that is no request is answered
abbrev pub answer_of : Table → List CoreRecord → ClientNo → Life → Call → Answer
answer_of t h c l call.Poll = answer.Event (next_event t (facts_of t h) l)
answer_of t h c l (call.Observe id name to) = done_if (not (nat_le 1000 (length l.seen)))
answer_of t h c l (call.Unobserve id) = answer.Removed (length (filter (bears id) l.seen))
answer_of t h c l (call.Event n on) = done_if (can_switch n)
answer_of t h c l (call.Abort id) = answer.Removed (length (filter (is_named c id) (queued h)))
answer_of t h c l _ = answer.Ok

abbrev pub MayCall : Table → List CoreRecord → ClientNo → Option ℕ → Call → Answer → Life → Type 0
MayCall t h c ticket call a l = MatchBool (is_request call) (MayRequest h l ticket call a)
    (IsAnswered ticket a (answer_of t h c l call))

-- ---- orders and outcomes

-- the oldest request is taken where none is worked, no order is out, the file was ordered, and the
-- player does not end
pub record MayTake (t : Table) (h : List CoreRecord) (c : ClientNo) (ticket id : ℕ) : Type 0 where
  pub idle : worked h ≡ None
  pub none_out : out h ≡ None
  pub begun : loading h ≡ true
  pub goes_on : quits t h ≡ false
  pub oldest : IsSomeAnd (slice_get (queued h) 0)
      (λ q. (q.client ≡ c) × (q.ticket ≡ ticket) × (q.id ≡ id))

-- the file is ordered once, where nothing is due; a seek or a selection where a request asks for it
abbrev pub MayOrder : Table → List CoreRecord → Order → Type 0
MayOrder t h order.Load = (loading h ≡ false) × IsDone t h
MayOrder t h (order.Seek time dir) = slice_get (rest t h) 0 ≡ Some (Give (order.Seek time dir))
MayOrder t h (order.Select set at) = slice_get (rest t h) 0 ≡ Some (Give (order.Select set at))
MayOrder t h order.Idle = ⊥
MayOrder t h order.Finished = ⊥

-- the outcome is of the order: of a loaded file's tracks, each under a number of its own, known ones
-- are selected; a seek alone is refused, where no track is selected
abbrev pub IsOutcome : Order → Outcome → Type 0
IsOutcome order.Load (outcome.Loaded path tracks set) =
    HaveDistinctNumbers tracks × (is_known (knows tracks) set ≡ true)
IsOutcome (order.Seek time dir) outcome.Sought = ⊤
IsOutcome (order.Seek time dir) (outcome.Refused NoTrack) = ⊤
IsOutcome (order.Select set at) (outcome.Selected s) = s ≡ set
IsOutcome o x = ⊥

-- ---- pushes and replies

-- the push comes next, and is kept unless the ring is full
pub record MayPush (t : Table) (h : List CoreRecord) (c : ClientNo) (e : Event) (kept : Bool)
    : Type 0 where
  pub next : slice_get (rest t h) 0 ≡ Some (Push c e)
  pub fate : IsSomeAnd (life_of t c.0 h) (λ l. kept ≡ not (is_full l.ring))

-- the error of the reply to what is worked
abbrev pub worked_error : Table → List CoreRecord → ℤ
worked_error t h = if refused h then command_error else deed_error (last_deed t h)

-- the reply to a request, with an error and a value
pub record IsReply (c : ClientNo) (ticket : ℕ) (e : Event) (q : Request) (error : ℤ) (v : Value)
    : Type 0 where
  pub of_client : c ≡ q.client
  pub of_ticket : ticket ≡ q.ticket
  pub same : e ≡ reply_of q.call error v

-- the reply to the request that is being worked, where no order is out and nothing else is to come
pub record EndsWork (t : Table) (h : List CoreRecord) (c : ClientNo) (ticket : ℕ) (e : Event)
    : Type 0 where
  pub none_out : out h ≡ None
  pub none_left : rest t h ≡ []
  pub reply : IsSomeAnd (worked h)
      (λ q. IsReply c ticket e q (worked_error t h) (deed_value (last_deed t h)))

-- the replies to what was aborted come first; else that to what is worked
abbrev pub MayReply : Table → List CoreRecord → List Request → ClientNo → ℕ → Event → Type 0
MayReply t h (q ∷ qs) c ticket e = IsReply c ticket e q generic_error value.None
MayReply t h [] c ticket e = EndsWork t h c ticket e

-- ---- each record

abbrev pub May : Table → List CoreRecord → CoreRecord → Type 0
May t h (Created by c name size) = MayCreate t h c name size
May t h (Destroyed by c) = is_some (life_of t c.0 h) ≡ true
May t h (Called by c ticket call a) = IsSomeAnd (life_of t c.0 h) (MayCall t h c ticket call a)
May t h (Learned by view) = ⊤
May t h (Wrote by mask f) = (slice_get (rest t h) 0 ≡ Some (Write mask)) × (f ≡ facts_of t h)
May t h (Took by c ticket id) = MayTake t h c ticket id
May t h (Ordered by o) = (out h ≡ None) × MayOrder t h o
May t h (Did by x) = IsSomeAnd (out h) (λ o. IsOutcome o x)
May t h (Pushed by c e kept) = MayPush t h c e kept
May t h (Replied by c ticket e) = MayReply t h (due h) c ticket e

-- nothing but effects and replies comes before all that was due has come
abbrev pub IsInTurn : Table → List CoreRecord → CoreRecord → Type 0
IsInTurn t h (Wrote by mask f) = ⊤
IsInTurn t h (Ordered by o) = ⊤
IsInTurn t h (Pushed by c e kept) = ⊤
IsInTurn t h (Replied by c ticket e) = ⊤
IsInTurn t h r = IsDone t h

-- every record of the journal may come after those before it
abbrev pub IsAllowed : Table → List CoreRecord → Type 0
IsAllowed t [] = ⊤
IsAllowed t (r ∷ h) = (May t h r × IsInTurn t h r) × IsAllowed t h
