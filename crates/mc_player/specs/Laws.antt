-- What holds of every journal whose records were allowed.
use Rattle.std.specs.Prelude.{◌≡◌, ℕ, ℤ, ◌+◌, ◌≤◌, ◌⊎◌, Bool, true, false, not, ◌||◌, List, [], ◌∷◌, ◌++◌, length, drop, filter, IfSome, IsSomeAnd, Option, ⊤, ◌==◌, nat_le, is_some}
use Rattle.std.specs.Option.{option_map}
use Rattle.mc_dispatch.specs.declared.request.ClientNo.{ClientNo}
use Rattle.mc_dispatch.specs.Queue.{is_named}
use Rattle.mc_client.specs.Client.{can_switch}
use Rattle.std.specs.Bool.{MatchBool}
use Rattle.std.specs.List.{AllByRecursion, list_any}
use Rattle.mc_value.specs.declared.value.Value.{Value}
use Rattle.mc_dispatch.specs.declared.call.Call.{Call}
use Rattle.mc_dispatch.specs.declared.call.Call.TheVariants as call
use Rattle.mc_ring.specs.Event.{enters_ring, event_number}
use Rattle.mc_ring.specs.declared.event.Event.{Event}
use Rattle.mc_ring.specs.declared.event.Event.TheVariants as event
use Rattle.mc_props.specs.Fields.{AgreeOutside}
use Rattle.mc_props.specs.declared.facts.Facts.{Facts}
use Rattle.mc_client.specs.Seen.{Seen, is_settled, poll_by}
use Rattle.mc_player.specs.declared.record.Answer.{Answer}
use Rattle.mc_player.specs.declared.record.Answer.TheVariants as answer
use Rattle.mc_player.specs.declared.record.CoreRecord.{CoreRecord}
use Rattle.mc_player.specs.declared.record.CoreRecord.TheVariants.{Called, Wrote, Ordered, Pushed, Replied}
use Rattle.mc_player.specs.Deeds.{invalid_parameter, queue_full, reply_of}
use Rattle.mc_player.specs.Facts.{facts_of, life_of}
use Rattle.mc_player.specs.Journals.{due, queued, worked, clients, name_of}
use Rattle.mc_player.specs.Lives.{Table, now, Life, bears}
use Rattle.mc_player.specs.Plans.{last_wrote, plan, told}
use Rattle.mc_player.specs.Rings.{accepted, choked, full, has, held, off, polled, reserved, size_of, unanswered, watches}
use Rattle.mc_player.specs.Rules.{IsAllowed, IsAnswered as AnsweredBy, is_bad, is_request, done_if}
use Rattle.mc_player.specs.Tickets.{IsPart, asked, asks, dropped, holds, is_at_work, promised, replied, request_of, since, taken, tickets, took, used}

-- it holds of every allowed journal, for every table of properties
abbrev pub Always : (Table → List CoreRecord → Type 0) → Type 0
Always P = (t : Table) (h : List CoreRecord) → IsAllowed t h → P t h

-- each record stands so behind those before it
abbrev pub Each : (CoreRecord → List CoreRecord → Type 0) → List CoreRecord → Type 0
Each P [] = ⊤
Each P (r ∷ h) = P r h × Each P h

-- it holds of the journal, and did at each moment before
abbrev pub AtEach : (List CoreRecord → Type 0) → List CoreRecord → Type 0
AtEach P [] = P []
AtEach P (r ∷ h) = P (r ∷ h) × AtEach P h

abbrev pub IsBegun : {X : Type 0} → List X → List X → Type 0
IsBegun {X} xs ys = (later : List X) × (xs ++ later ≡ ys)

-- ---- events

-- what polls answered begins what the ring took, and what is held and set aside fits in it
pub record IsFifo (c : ℕ) (h : List CoreRecord) : Type 0 where
  pub begun : IsBegun (polled c h) (accepted c h)
  pub room : held c h + reserved c h ≤ size_of c h

-- a push to a client is of an event that rings hold and that it has not switched off; it is kept
-- just where the ring is not full
pub record PushStands (h : List CoreRecord) (c : ℕ) (e : Event) (kept : Bool) : Type 0 where
  pub kind : enters_ring e ≡ true
  pub heard : off c (event_number e) h ≡ false
  pub fate : kept ≡ not (full c h)

-- an accepted request's ticket is one that no record before has
pub record IsTaken (h : List CoreRecord) (ticket : Option ℕ) (a : Answer) : Type 0 where
  pub new : IsSomeAnd ticket (λ n. used n h ≡ false)
  pub same : a ≡ answer.Ok

-- a request is refused with -4 just where its form is wrong, else with -1 just where the ring is
-- full, and is accepted else
abbrev pub RequestStands : List CoreRecord → ℕ → Option ℕ → Call → Answer → Type 0
RequestStands h c ticket call a =
    MatchBool (is_bad call) (AnsweredBy ticket a (answer.Refused invalid_parameter))
    (MatchBool (full c h) (AnsweredBy ticket a (answer.Refused queue_full)) (IsTaken h ticket a))

abbrev pub FullTold : CoreRecord → List CoreRecord → Type 0
FullTold (Pushed by c e kept) h = PushStands h c.0 e kept
FullTold (Called by c ticket call a) h =
    MatchBool (is_request call) (RequestStands h c.0 ticket call a) ⊤
FullTold r h = ⊤

-- ---- polls

-- a poll answers the oldest event that the ring took and no poll answered; else an overflow where
-- it is choked; else what the first observer has that was last given something else; else nothing
abbrev pub poll_told : Table → ℕ → List CoreRecord → Event
poll_told t c h = poll_by (now t (facts_of t h)) (drop (length (polled c h)) (accepted c h))
    (choked c h) (watches t c h)

-- each observer was last given what it has
abbrev pub AllSettled : Table → ℕ → List CoreRecord → Type 0
AllSettled t c h =
    AllByRecursion (λ w. is_settled (now t (facts_of t h)) w ≡ true) (watches t c h)

abbrev pub PollStands : Table → CoreRecord → List CoreRecord → Type 0
PollStands t (Called by c ticket call.Poll a) h = (a ≡ answer.Event (poll_told t c.0 h))
    × (a ≡ answer.Event event.None → AllSettled t c.0 h)
PollStands t r h = ⊤

-- how many observers were last given something else than they have
abbrev pub unsettled : Table → Facts → List Seen → ℕ
unsettled t f ws = length (filter (λ w. not (is_settled (now t f) w)) ws)

-- a poll that answers a change settles one observer
abbrev pub ChangeStands : Table → CoreRecord → List CoreRecord → Type 0
ChangeStands t (Called by c ticket call.Poll (answer.Event (event.Change id name format v))) h =
    unsettled t (facts_of t h)
    (watches t c.0 (Called by c ticket call.Poll (answer.Event (event.Change id name format v)) ∷ h))
    + 1 ≡ unsettled t (facts_of t h) (watches t c.0 h)
ChangeStands t r h = ⊤

-- ---- other calls

-- an observer is refused where there are 1,000, and the number of an event that can't be switched
-- off; the answer to the end of observers and to an abort is how many there were
abbrev pub CallStands : Table → CoreRecord → List CoreRecord → Type 0
CallStands t (Called by c ticket (call.Observe id name format) a) h =
    a ≡ done_if (not (nat_le 1000 (length (watches t c.0 h))))
CallStands t (Called by c ticket (call.Unobserve id) a) h =
    a ≡ answer.Removed (length (filter (bears id) (watches t c.0 h)))
CallStands t (Called by c ticket (call.Event n on) a) h = a ≡ done_if (can_switch n)
CallStands t (Called by c ticket (call.Abort id) a) h =
    a ≡ answer.Removed (length (filter (is_named c id) (queued h)))
CallStands t r h = ⊤

-- ---- replies

-- a reply is the first of its ticket, to a client that lives and asked, behind the taking of its
-- request or behind an abort
pub record ReplyStands (h : List CoreRecord) (c n : ℕ) : Type 0 where
  pub first : replied n h ≡ false
  pub waits : has n (unanswered c h) ≡ true
  pub taken_or_due : (taken n h ≡ true) ⊎ (holds c n (due h) ≡ true)

abbrev pub Replies : CoreRecord → List CoreRecord → Type 0
Replies (Replied by c n e) h = ReplyStands h c.0 n
Replies r h = ⊤

-- an accepted request is queued, due for the reply to an abort, being worked, replied to, or went
-- with its client
abbrev pub HasFate : List CoreRecord → Type 0
HasFate h = (c n : ℕ) → asks c n h ≡ true
    → (holds c n (queued h) || (holds c n (due h) || (is_at_work c n (worked h)
    || (replied n h || dropped n h)))) ≡ true

-- a reply goes to the client that asked, with its request's number and kind
abbrev pub ReplyAnswers : CoreRecord → List CoreRecord → Type 0
ReplyAnswers (Replied by c n e) h = IsSomeAnd (request_of n h)
    (λ q. (q.client ≡ c) × (error : ℤ) × (v : Value) × (e ≡ reply_of q.call error v))
ReplyAnswers r h = ⊤

-- an abort that answered n is followed at once by n replies: those that came and those that are due
-- are n
abbrev pub AbortCounts : List CoreRecord → Type 0
AbortCounts h = IfSome (promised h) (λ n. since h + length (due h) ≡ n)

-- all of them came where anything else comes
abbrev pub AbortEnds : CoreRecord → List CoreRecord → Type 0
AbortEnds (Replied by c n e) h = ⊤
AbortEnds r h = IfSome (promised h) (λ n. since h ≡ n)

-- requests are taken in the order in which they were accepted
abbrev pub IsInOrder : List CoreRecord → Type 0
IsInOrder h = IsPart (took h ++ tickets (queued h)) (asked h)

-- ---- effects

-- what stands of a plan begins it
abbrev pub IsUnderWay : Table → List CoreRecord → Type 0
IsUnderWay t h = IsBegun (told h) (plan t h)

-- and is all of it where anything but an effect comes, a reply to what is worked among it
abbrev pub WholeBefore : Table → CoreRecord → List CoreRecord → Type 0
WholeBefore t (Wrote by mask f) h = ⊤
WholeBefore t (Pushed by c e kept) h = ⊤
WholeBefore t (Ordered by o) h = ⊤
WholeBefore t (Replied by c n e) h = due h ≡ [] → told h ≡ plan t h
WholeBefore t r h = told h ≡ plan t h

-- a writing has the facts of that moment, and its mask each field that changed since the last one
abbrev pub WriteStands : Table → CoreRecord → List CoreRecord → Type 0
WriteStands t (Wrote by mask f) h = (f ≡ facts_of t h) × AgreeOutside mask f (last_wrote h)
WriteStands t r h = ⊤

-- ---- clients, of any journal at all

abbrev pub has_number : ℕ → ClientNo → Bool
has_number c d = d.0 == c

-- the clients in order of creation are those that live, each under the name that it came with
abbrev pub AreListed : Table → List CoreRecord → Type 0
AreListed t h = (c : ℕ) → (is_some (life_of t c h) ≡ list_any (has_number c) (clients h))
    × (option_map (λ (l : Life). l.name) (life_of t c h) ≡ name_of c h)
