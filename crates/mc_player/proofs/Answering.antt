-- A reply goes to the client that asked, with its request's number and kind.
use Rattle.std.proofs.Common.{◌≡◌, ℤ, ℕ, ◌==◌, inl, inr, true, false, List, [], ◌∷◌, length, Option, Some, None, refl, ap, subst, sym, ◌∙◌}
use Rattle.std.specs.Prelude.{not, IfSome, IsSomeAnd}
use Rattle.std.specs.List.{AllByRecursion}
use Rattle.std.proofs.lemmas.Bool.{cases_Bool, eqb-true, eq-eqb, or_left, or_right, false_from_ne_true}
use Rattle.mc_value.specs.declared.value.Value.{Value}
use Rattle.mc_value.specs.declared.value.Value.TheVariants as value
use Rattle.mc_dispatch.specs.Queue.{is_of}
use Rattle.mc_dispatch.specs.declared.call.Call.{Call}
use Rattle.mc_dispatch.specs.declared.request.ClientNo.{ClientNo}
use Rattle.mc_dispatch.specs.declared.request.Request.{Request}
use Rattle.mc_ring.specs.declared.event.Event.{Event}
use Rattle.mc_player.specs.declared.record.Answer.{Answer}
use Rattle.mc_player.specs.declared.record.CoreRecord.{CoreRecord}
use Rattle.mc_player.specs.declared.record.CoreRecord.TheVariants.{Created, Destroyed, Called, Learned, Wrote, Took, Ordered, Did, Pushed, Replied}
use Rattle.mc_player.specs.Deeds.{deed_value, generic_error, reply_of}
use Rattle.mc_player.specs.Facts.{last_deed}
use Rattle.mc_player.specs.Journals.{due, queued, request, worked}
use Rattle.mc_player.specs.Lives.{Table}
use Rattle.mc_player.specs.Laws.{Each, ReplyAnswers}
use Rattle.mc_player.specs.Rules.{IsAllowed, IsReply, MayReply, worked_error}
use Rattle.mc_player.specs.Tickets.{is_ticket, request_of, used}
use Rattle.mc_player.proofs.Lists.{All-first, All-kept, All-put, All-rest, All-to, ended-some, left-all, some-to, taken-all, unless-some}
use Rattle.mc_player.proofs.Once.{IsNew, ticket_new}
use Rattle.mc_player.proofs.Replies.{unused}

abbrev pub Is : List CoreRecord → Request → Type 0
Is h q = request_of q.ticket h ≡ Some q

request_used : (n : ℕ) (h : List CoreRecord) (q : Request) → request_of n h ≡ Some q → used n h ≡ true
request_used n [] q is = absurd (cc)
request_used n (Called by c ticket x a ∷ h) q is = elim (cases_Bool (is_ticket ticket n)) [
  | inl y ↦ or_left _ (used n h) y
  | inr k ↦ let e : request_of n h ≡ Some q = rw k at is in or_right (is_ticket ticket n) _ (request_used n h q e)
]
request_used n (Took by c m id ∷ h) q is = or_right (m == n) _ (request_used n h q is)
request_used n (Replied by c m e ∷ h) q is = or_right (m == n) _ (request_used n h q is)
request_used n (Created by c name size ∷ h) q is = request_used n h q is
request_used n (Destroyed by c ∷ h) q is = request_used n h q is
request_used n (Learned by view ∷ h) q is = request_used n h q is
request_used n (Wrote by mask f ∷ h) q is = request_used n h q is
request_used n (Ordered by o ∷ h) q is = request_used n h q is
request_used n (Did by o ∷ h) q is = request_used n h q is
request_used n (Pushed by c x kept ∷ h) q is = request_used n h q is

other_ticket : (t : Table) (h : List CoreRecord) (ticket : Option ℕ) (q : Request) → IsAllowed t h → IsNew h ticket → Is h q → is_ticket ticket q.ticket ≡ false
other_ticket t h None q all new is = refl
other_ticket t h (Some m) q all new is = false_from_ne_true _ (λ y.
    let e : used (length h) h ≡ true = subst (λ (n : ℕ). used n h ≡ true) (sym (eqb-true m q.ticket y) ∙ new) (request_used q.ticket h q is) in
    absurd (let n = unused t h all in cc))

after_call : (t : Table) (by : ℕ) (h : List CoreRecord) (c : ClientNo) (ticket : Option ℕ) (x : Call) (a : Answer) (q : Request) → IsAllowed t h → IsNew h ticket → Is h q → Is (Called by c ticket x a ∷ h) q
after_call t by h c ticket x a q all new is = let n = other_ticket t h ticket q all new is in rw n is

new_is : (by : ℕ) (h : List CoreRecord) (c : ClientNo) (ticket : Option ℕ) (x : Call) (a : Answer) → IfSome (request c ticket x) (Is (Called by c ticket x a ∷ h))
new_is by h c None x a = tt
new_is by h c (Some n) x a = rw (eq-eqb n n refl) refl

-- what waits is as it was asked
record AreAsked (h : List CoreRecord) : Type 0 where
  pub of_queue : AllByRecursion (Is h) (queued h)
  pub of_due : AllByRecursion (Is h) (due h)
  pub of_work : IfSome (worked h) (Is h)

asked : (t : Table) (h : List CoreRecord) → IsAllowed t h → AreAsked h
asked t [] all = record { of_queue = tt; of_due = tt; of_work = tt }
asked t (Destroyed by c ∷ h) all =
    let e = asked t h all.1 in
    record {
      of_queue = All-kept (Is h) (λ (q : Request). not (is_of c q)) (queued h) e.of_queue;
      of_due = e.of_due;
      of_work = unless-some (Is h) (is_of c) (worked h) e.of_work;
    }
asked t (Called by c ticket x a ∷ h) all =
    let e = asked t h all.1 in
    let next : (q : Request) → Is h q → Is (Called by c ticket x a ∷ h) q = λ q. after_call t by h c ticket x a q all.1 (ticket_new t h c ticket x a all.0.0) in
    let more : AllByRecursion (Is (Called by c ticket x a ∷ h)) (queued h) = All-to (Is h) (Is (Called by c ticket x a ∷ h)) next (queued h) e.of_queue in
    record {
      of_queue = All-put (Is (Called by c ticket x a ∷ h)) (request c ticket x) _ (left-all (Is (Called by c ticket x a ∷ h)) c x (queued h) more) (new_is by h c ticket x a);
      of_due = taken-all (Is (Called by c ticket x a ∷ h)) c x (queued h) more;
      of_work = some-to (Is h) (Is (Called by c ticket x a ∷ h)) next (worked h) e.of_work;
    }
asked t (Took by c n id ∷ h) all =
    let e = asked t h all.1 in
    record { of_queue = All-rest (Is h) (queued h) e.of_queue; of_due = e.of_due; of_work = All-first (Is h) (queued h) e.of_queue }
asked t (Replied by c n x ∷ h) all =
    let e = asked t h all.1 in
    record { of_queue = e.of_queue; of_due = All-rest (Is h) (due h) e.of_due; of_work = ended-some (Is h) (due h) (worked h) e.of_work }
asked t (Created by c name size ∷ h) all = let e = asked t h all.1 in record { of_queue = e.of_queue; of_due = e.of_due; of_work = e.of_work }
asked t (Learned by view ∷ h) all = let e = asked t h all.1 in record { of_queue = e.of_queue; of_due = e.of_due; of_work = e.of_work }
asked t (Wrote by mask f ∷ h) all = let e = asked t h all.1 in record { of_queue = e.of_queue; of_due = e.of_due; of_work = e.of_work }
asked t (Ordered by o ∷ h) all = let e = asked t h all.1 in record { of_queue = e.of_queue; of_due = e.of_due; of_work = e.of_work }
asked t (Did by o ∷ h) all = let e = asked t h all.1 in record { of_queue = e.of_queue; of_due = e.of_due; of_work = e.of_work }
asked t (Pushed by c x kept ∷ h) all = let e = asked t h all.1 in record { of_queue = e.of_queue; of_due = e.of_due; of_work = e.of_work }

-- ---- replies

abbrev Answers : Event → ClientNo → Request → Type 0
Answers e c q = (q.client ≡ c) × (error : ℤ) × (v : Value) × (e ≡ reply_of q.call error v)

answers_one : (h : List CoreRecord) (c : ClientNo) (n : ℕ) (e : Event) (error : ℤ) (v : Value) (q : Request) → Is h q → IsReply c n e q error v → IsSomeAnd (request_of n h) (Answers e c)
answers_one h c n e error v q is r =
    let found : request_of n h ≡ Some q = ap (λ (m : ℕ). request_of m h) r.of_ticket ∙ is in
    rw found (sym r.of_client, error, v, r.same)

by_worked : (h : List CoreRecord) (c : ClientNo) (n : ℕ) (e : Event) (error : ℤ) (v : Value) (w : Option Request) → IfSome w (Is h)
    → IsSomeAnd w (λ q. IsReply c n e q error v) → IsSomeAnd (request_of n h) (Answers e c)
by_worked h c n e error v None is s = absurd s
by_worked h c n e error v (Some q) is s = answers_one h c n e error v q is s

by_due : (t : Table) (h : List CoreRecord) (c : ClientNo) (n : ℕ) (e : Event) (ds : List Request) → AreAsked h → AllByRecursion (Is h) ds → MayReply t h ds c n e
    → IsSomeAnd (request_of n h) (Answers e c)
by_due t h c n e [] are is may = by_worked h c n e (worked_error t h) (deed_value (last_deed t h)) (worked h) are.of_work may.reply
by_due t h c n e (q ∷ qs) are is may = answers_one h c n e generic_error value.None q is.0 may

pub answered : (t : Table) (h : List CoreRecord) → IsAllowed t h → Each ReplyAnswers h
answered t [] all = tt
answered t (Replied by c n e ∷ h) all = let are = asked t h all.1 in (by_due t h c n e (due h) are are.of_due all.0.0, answered t h all.1)
answered t (Created by c name size ∷ h) all = (tt, answered t h all.1)
answered t (Destroyed by c ∷ h) all = (tt, answered t h all.1)
answered t (Called by c ticket x a ∷ h) all = (tt, answered t h all.1)
answered t (Learned by view ∷ h) all = (tt, answered t h all.1)
answered t (Wrote by mask f ∷ h) all = (tt, answered t h all.1)
answered t (Took by c n id ∷ h) all = (tt, answered t h all.1)
answered t (Ordered by o ∷ h) all = (tt, answered t h all.1)
answered t (Did by o ∷ h) all = (tt, answered t h all.1)
answered t (Pushed by c x kept ∷ h) all = (tt, answered t h all.1)
