-- An abort that answered n is followed at once by n replies.
use Rattle.std.proofs.Common.{◌≡◌, ℕ, suc, ◌+◌, true, false, List, [], ◌∷◌, length, Option, Some, None, arith, refl, ap}
use Rattle.std.specs.Prelude.{filter, slice_get, IfSome, IsSomeAnd, is_some}
use Rattle.mc_dispatch.specs.Queue.{is_named}
use Rattle.mc_dispatch.specs.declared.call.Call.{Call}
use Rattle.mc_dispatch.specs.declared.call.Call.TheVariants as call
use Rattle.mc_dispatch.specs.declared.request.ClientNo.{ClientNo}
use Rattle.mc_dispatch.specs.declared.request.Request.{Request}
use Rattle.mc_ring.specs.declared.event.Event.{Event}
use Rattle.mc_player.specs.declared.record.Answer.{Answer}
use Rattle.mc_player.specs.declared.record.Answer.TheVariants as answer
use Rattle.mc_player.specs.declared.record.Order.{Order}
use Rattle.mc_player.specs.declared.record.Order.TheVariants as order
use Rattle.mc_player.specs.declared.record.CoreRecord.{CoreRecord}
use Rattle.mc_player.specs.declared.record.CoreRecord.TheVariants.{Created, Destroyed, Called, Learned, Wrote, Took, Ordered, Did, Pushed, Replied}
use Rattle.mc_player.specs.Effects.{Effect, Give, Push, Write, reply_due, rest}
use Rattle.mc_player.specs.Facts.{life_of}
use Rattle.mc_player.specs.Journals.{due, queued, worked}
use Rattle.mc_player.specs.Laws.{AbortCounts, AbortEnds, AtEach, Each}
use Rattle.mc_player.specs.Lives.{Life, Table}
use Rattle.mc_player.specs.Rules.{IsAllowed, MayCall, MayOrder, MayReply}
use Rattle.mc_player.specs.Tickets.{promise_by, promised, since}

-- those that came and those that are due are n, and what is worked waits for an order
abbrev Counts : List CoreRecord → ℕ → Type 0
Counts h n = (since h + length (due h) ≡ n) × (reply_due h ≡ false)

removed_same : (a b : ℕ) → answer.Removed a ≡ answer.Removed b → a ≡ b
removed_same a b e = cc

some_removed : (t : Table) (h : List CoreRecord) (c : ClientNo) (ticket : Option ℕ) (id n : ℕ) (o : Option Life) → IsSomeAnd o (MayCall t h c ticket (call.Abort id) (answer.Removed n))
    → n ≡ length (filter (is_named c id) (queued h))
some_removed t h c ticket id n None may = absurd may
some_removed t h c ticket id n (Some l) may = removed_same n _ may.same

call_step : (t : Table) (by : ℕ) (h : List CoreRecord) (c : ClientNo) (ticket : Option ℕ) (x : Call) (a : Answer) → IsSomeAnd (life_of t c.0 h) (MayCall t h c ticket x a) → reply_due h ≡ false
    → IfSome (promise_by x a) (Counts (Called by c ticket x a ∷ h))
call_step t by h c ticket (call.Abort id) (answer.Removed n) may quiet = let e = some_removed t h c ticket id n (life_of t c.0 h) may in (omega (arith, e), quiet)
call_step t by h c ticket (call.Abort id) answer.Ok may quiet = tt
call_step t by h c ticket (call.Abort id) (answer.Refused n) may quiet = tt
call_step t by h c ticket (call.Abort id) (answer.Event e) may quiet = tt
call_step t by h c ticket call.Poll a may quiet = tt
call_step t by h c ticket (call.Observe id name format) a may quiet = tt
call_step t by h c ticket (call.Unobserve id) a may quiet = tt
call_step t by h c ticket (call.Event n on) a may quiet = tt
call_step t by h c ticket (call.Command id words) a may quiet = tt
call_step t by h c ticket (call.Get id name format) a may quiet = tt
call_step t by h c ticket (call.Set id name value) a may quiet = tt

some_request : (P : Request → Type 0) (w : Option Request) → IsSomeAnd w P → is_some w ≡ true
some_request P None s = absurd s
some_request P (Some q) s = refl

reply_step : (t : Table) (by : ℕ) (h : List CoreRecord) (c : ClientNo) (n : ℕ) (e : Event) (o : Option ℕ) (ds : List Request) → due h ≡ ds → MayReply t h ds c n e
    → IfSome o (Counts h) → IfSome o (Counts (Replied by c n e ∷ h))
reply_step t by h c n e None ds is may before = tt
reply_step t by h c n e (Some k) [] is may before =
    let w = some_request _ (worked h) may.reply in absurd (let quiet : true ≡ false = rw (w, may.none_out) at before.1 in cc)
reply_step t by h c n e (Some k) (q ∷ qs) is may before =
    let one : length (due h) ≡ suc (length qs) = ap (λ (rs : List Request). length rs) is in
    let count = before.0 in
    let quiet = before.1 in
    rw is (omega (arith, one, count), quiet)

counts : (t : Table) (h : List CoreRecord) → IsAllowed t h → IfSome (promised h) (Counts h)
counts t [] all = tt
counts t (Called by c ticket x a ∷ h) all = call_step t by h c ticket x a all.0.0 (all.0.1).reply
counts t (Replied by c n e ∷ h) all = reply_step t by h c n e (promised h) (due h) refl all.0.0 (counts t h all.1)
counts t (Created by c name size ∷ h) all = tt
counts t (Destroyed by c ∷ h) all = tt
counts t (Learned by view ∷ h) all = tt
counts t (Wrote by mask f ∷ h) all = tt
counts t (Took by c n id ∷ h) all = tt
counts t (Ordered by o ∷ h) all = tt
counts t (Did by x ∷ h) all = tt
counts t (Pushed by c x kept ∷ h) all = tt

-- ---- all of them come before anything else

some_count : (o : Option ℕ) (h : List CoreRecord) → IfSome o (Counts h) → IfSome o (λ n. since h + length (due h) ≡ n)
some_count None h c = tt
some_count (Some n) h c = c.0

some_all : (o : Option ℕ) (h : List CoreRecord) → IfSome o (Counts h) → due h ≡ [] → IfSome o (λ n. since h ≡ n)
some_all None h c none = tt
some_all (Some n) h c none = let l : length (due h) ≡ 0 = ap (λ (rs : List Request). length rs) none in let e = c.0 in omega (arith, l, e)

-- while effects are to come no abort is
by_promise : (o : Option ℕ) (es : List Effect) → es ≡ [] → IfSome o (λ n. es ≡ [])
by_promise None es e = tt
by_promise (Some n) es e = e

effectless : (t : Table) (h : List CoreRecord) → IfSome (promised h) (λ n. rest t h ≡ [])
effectless t [] = tt
effectless t (Called by c ticket x a ∷ h) = by_promise (promise_by x a) [] refl
effectless t (Replied by c n e ∷ h) = effectless t h
effectless t (Created by c name size ∷ h) = tt
effectless t (Destroyed by c ∷ h) = tt
effectless t (Learned by view ∷ h) = tt
effectless t (Wrote by mask f ∷ h) = tt
effectless t (Took by c n id ∷ h) = tt
effectless t (Ordered by o ∷ h) = tt
effectless t (Did by x ∷ h) = tt
effectless t (Pushed by c x kept ∷ h) = tt

none_first : (es : List Effect) (x : Effect) → es ≡ [] → slice_get es 0 ≡ Some x → ⊥
none_first [] x none is = cc
none_first (e ∷ es) x none is = cc

busy : (o : Option ℕ) (es : List Effect) (x : Effect) (h : List CoreRecord) → IfSome o (λ k. es ≡ []) → slice_get es 0 ≡ Some x → IfSome o (λ k. since h ≡ k)
busy None es x h none is = tt
busy (Some k) es x h none is = absurd (none_first es x none is)

order_ends : (t : Table) (h : List CoreRecord) (o : Order) → IsAllowed t h → MayOrder t h o → IfSome (promised h) (λ n. since h ≡ n)
order_ends t h order.Load all may = some_all (promised h) h (counts t h all) (may.1).due
order_ends t h (order.Seek time dir) all may = busy (promised h) (rest t h) (Give (order.Seek time dir)) h (effectless t h) may
order_ends t h (order.Select set at) all may = busy (promised h) (rest t h) (Give (order.Select set at)) h (effectless t h) may
order_ends t h order.Idle all may = absurd may
order_ends t h order.Finished all may = absurd may

pub abort_counts : (t : Table) (h : List CoreRecord) → IsAllowed t h → AtEach AbortCounts h
abort_counts t [] all = tt
abort_counts t (r ∷ h) all = (some_count (promised (r ∷ h)) (r ∷ h) (counts t (r ∷ h) all), abort_counts t h all.1)

pub abort_ends : (t : Table) (h : List CoreRecord) → IsAllowed t h → Each AbortEnds h
abort_ends t [] all = tt
abort_ends t (Replied by c n e ∷ h) all = (tt, abort_ends t h all.1)
abort_ends t (Wrote by mask f ∷ h) all = (busy (promised h) (rest t h) (Write mask) h (effectless t h) all.0.0.0, abort_ends t h all.1)
abort_ends t (Pushed by c x kept ∷ h) all = (busy (promised h) (rest t h) (Push c x) h (effectless t h) all.0.0.next, abort_ends t h all.1)
abort_ends t (Ordered by o ∷ h) all = (order_ends t h o all.1 all.0.0.1, abort_ends t h all.1)
abort_ends t (Created by c name size ∷ h) all = (some_all (promised h) h (counts t h all.1) (all.0.1).due, abort_ends t h all.1)
abort_ends t (Destroyed by c ∷ h) all = (some_all (promised h) h (counts t h all.1) (all.0.1).due, abort_ends t h all.1)
abort_ends t (Called by c ticket x a ∷ h) all = (some_all (promised h) h (counts t h all.1) (all.0.1).due, abort_ends t h all.1)
abort_ends t (Learned by view ∷ h) all = (some_all (promised h) h (counts t h all.1) (all.0.1).due, abort_ends t h all.1)
abort_ends t (Took by c n id ∷ h) all = (some_all (promised h) h (counts t h all.1) (all.0.1).due, abort_ends t h all.1)
abort_ends t (Did by x ∷ h) all = (some_all (promised h) h (counts t h all.1) (all.0.1).due, abort_ends t h all.1)
