-- A taken request: its order, or its effects and its reply.
use Rattle.std.proofs.Common.{◌≡◌, ℕ, Bool, true, false, ◌&&◌, List, [], ◌∷◌, length, Option, Some, None, refl, sym, ap, subst, ◌∙◌, drop, reverse}
use Rattle.std.specs.Prelude.{IsSomeAnd, IsTrue, is_some, slice_get, if◌then◌else◌}
use Rattle.mc_dispatch.specs.declared.request.ClientNo.{ClientNo}
use Rattle.mc_dispatch.specs.declared.request.Request.{Request}
use Rattle.mc_ring.specs.declared.event.Event.{Event}
use Rattle.mc_ring.specs.declared.event.Event.TheVariants as event
use Rattle.mc_client.specs.Client.{is_reply}
use Rattle.mc_props.specs.declared.entries.PropEntry.{PropEntry}
use Rattle.mc_props.specs.declared.facts.Facts.{Facts}
use Rattle.mc_props.specs.declared.reading.Reading.{Reading}
use Rattle.mc_player.specs.declared.deed.Deed.{Deed}
use Rattle.mc_player.specs.declared.deed.Deed.TheVariants as deed
use Rattle.mc_player.specs.declared.record.Order.{Order}
use Rattle.mc_player.specs.declared.record.Order.TheVariants as order
use Rattle.mc_player.specs.declared.record.CoreRecord.{CoreRecord}
use Rattle.mc_player.specs.declared.record.CoreRecord.TheVariants.{Ordered, Replied, Took}
use Rattle.mc_player.specs.Deeds.{after_deed, command_error, deed_error, deed_value, reply_of}
use Rattle.mc_player.specs.Effects.{Effect, Give, hears, plan_deed, reply_due, rest}
use Rattle.mc_player.specs.Facts.{life_of, next_deed}
use Rattle.mc_player.specs.Journals.{clients, due, worked}
use Rattle.mc_player.specs.Lives.{Table}
use Rattle.mc_player.specs.Rules.{IsReply, MayOrder}
use Rattle.mc_state.specs.Steps.{Wrote}
use Rattle.mc_deeds.specs.Follow.{plan_follow}
use Rattle.mc_state.specs.Growth.{Adds, is_effect, is_news, is_reply as is_reply_record}
use Rattle.mc_state.specs.Pushing.{coming}
use Rattle.mc_state.specs.Replying.{IsEnd, error_now}
use Rattle.mc_state.specs.Stands.{CoreState, IsQuiet, Readings, readings_of, table_of}
use Rattle.mc_deeds.specs.Closes.{IsClose, IsFollow, order_in}
use Rattle.mc_state.specs.Taking.{IsNext}
use Rattle.mc_core.specs.Working.{IsTask, Works, out_by}
use Rattle.mc_deeds.specs.declared.follow.Follow.{Follow}
use Rattle.mc_deeds.specs.declared.follow.Follow.TheVariants as follow
use Rattle.mc_deeds.specs.declared.follow.Twice.{Twice}
use Rattle.mc_deeds.specs.declared.closes.Close.TheVariants as close
use Rattle.mc_core.specs.declared.working.Task.{Task}
use Rattle.mc_state.proofs.Growing.{adds_as, adds_record, adds_then, due_same, pushes_same}
use Rattle.mc_state.proofs.Steps.{as_told}

pub none_waits : (qs : List Request) → slice_get qs 0 ≡ None → qs ≡ []
none_waits [] e = refl
none_waits (q ∷ qs) e = absurd (cc)

pub task_next : (value : ℕ → Facts → Reading) (task : Task) (s : CoreState) → IsQuiet value s → s.out ≡ None → s.loading ≡ true → s.quits ≡ false
    → IsTask value task s → IsNext value task.client task.ticket task.id task.deed s
task_next value task s quiet none begun on is = record {
  quiet = quiet;
  none_out = none;
  begun = begun;
  goes_on = on;
  oldest = less (slice_get s.queue.requests 0) is.oldest;
  does = is.does;
}
  where
    less : (o : Option Request)
        → IsSomeAnd o (λ q. (q.client ≡ task.client) × (q.ticket ≡ task.ticket) × (q.id ≡ task.id)
        × IsClose (after_deed task.deed s.facts) (length s.order) q.call task.deed task.close)
        → IsSomeAnd o (λ q. (q.client ≡ task.client) × (q.ticket ≡ task.ticket) × (q.id ≡ task.id))
    less None h = absurd h
    less (Some q) h = (h.0, h.1, h.2)

-- what the task's request is told
pub close_at : (value : ℕ → Facts → Reading) (task : Task) (s : CoreState) → IsTask value task s
    → (q : Request) × (slice_get s.queue.requests 0 ≡ Some q) × (q.client ≡ task.client) × (q.ticket ≡ task.ticket)
    × IsClose (after_deed task.deed s.facts) (length s.order) q.call task.deed task.close
close_at value task s is = of (slice_get s.queue.requests 0) refl is.oldest
  where
    of : (o : Option Request) → slice_get s.queue.requests 0 ≡ o
        → IsSomeAnd o (λ q. (q.client ≡ task.client) × (q.ticket ≡ task.ticket) × (q.id ≡ task.id)
        × IsClose (after_deed task.deed s.facts) (length s.order) q.call task.deed task.close)
        → (q : Request) × (slice_get s.queue.requests 0 ≡ Some q) × (q.client ≡ task.client) × (q.ticket ≡ task.ticket)
        × IsClose (after_deed task.deed s.facts) (length s.order) q.call task.deed task.close
    of None e h = absurd h
    of (Some q) e h = (q, e, h.0, h.1, h.3)

-- ---- what is to come behind the record of the taking

pub same_table : (value : ℕ → Facts → Reading) (s s' : CoreState) → s'.entries ≡ s.entries → table_of value s' ≡ table_of value s
same_table value s s' es = ap (λ (x : List PropEntry). record { value = value; entries = x }) es

pub took_coming : (value : ℕ → Facts → Reading) (by : ℕ) (c : ClientNo) (n id : ℕ) (d : Deed) (s s' : CoreState)
    → Wrote s s' (Took by c n id) → d ≡ next_deed (table_of value s) (reverse s.journal)
    → coming value s' ≡ plan_deed (table_of value s) (reverse s.journal) d
took_coming value by c n id d s s' w does =
    ap (λ (x : Table). rest x (reverse s'.journal)) (same_table value s s' w.entries)
    ∙ ap (λ (x : List CoreRecord). rest (table_of value s) x) (as_told s.journal s'.journal (Took by c n id) w.journal)
    ∙ ap (plan_deed (table_of value s) (reverse s.journal)) (sym does)

-- a plan for the same clients is the same behind a record that changes none of them
pub follow_same : (t : Table) (h h' : List CoreRecord) (cs : List ClientNo) (x : Follow)
    → ((e : Event) (c : ℕ) → hears e (life_of t c h') ≡ hears e (life_of t c h)) → plan_follow t h' cs x ≡ plan_follow t h cs x
follow_same t h h' cs follow.Nothing same = refl
follow_same t h h' cs (follow.Writes mask facts) same = refl
follow_same t h h' cs (follow.Sends words events) same = pushes_same t (event.Message words) h h' cs (same (event.Message words))
follow_same t h h' cs (follow.SendsTo c p) same = pushes_same t p.event h h' (c ∷ []) (same p.event)
follow_same t h h' cs follow.Quits same =
    rw (pushes_same t (event.EndFile 3) h h' cs (same (event.EndFile 3)), pushes_same t event.Shutdown h h' cs (same event.Shutdown)) refl
follow_same t h h' cs (follow.Loads facts) same =
    rw (pushes_same t event.StartFile h h' cs (same event.StartFile), pushes_same t event.FileLoaded h h' cs (same event.FileLoaded)) refl
follow_same t h h' cs follow.Seeks same = pushes_same t event.Seek h h' cs (same event.Seek)

-- the plan that a record brought, told of the journal with it
pub follow_due : (value : ℕ → Facts → Reading) (s s' : CoreState) (r : CoreRecord) (x : Follow) (es : List Effect)
    → Wrote s s' r → s.order ≡ clients (reverse s.journal) → s'.order ≡ s.order
    → ((e : Event) (c : ℕ) → hears e (life_of (table_of value s) c (r ∷ reverse s.journal)) ≡ hears e (life_of (table_of value s) c (reverse s.journal)))
    → coming value s' ≡ es → plan_follow (table_of value s) (reverse s.journal) (clients (reverse s.journal)) x ≡ es
    → coming value s' ≡ plan_follow (table_of value s') (reverse s'.journal) s'.order x
follow_due value s s' r x es w listed os same comes plan =
    let t : Table = table_of value s in
    let h : List CoreRecord = reverse s.journal in
    comes ∙ sym plan ∙ sym (follow_same t h (r ∷ h) (clients h) x same)
    ∙ ap (λ (y : List CoreRecord). plan_follow t y (clients h) x) (sym (as_told s.journal s'.journal r w.journal))
    ∙ ap (λ (y : Table). plan_follow y (reverse s'.journal) (clients h) x) (sym (same_table value s s' w.entries))
    ∙ ap (λ (cs : List ClientNo). plan_follow (table_of value s') (reverse s'.journal) cs x) (sym (os ∙ listed))

-- ---- the order

given : (t : Table) (h : List CoreRecord) (d : Deed) (o : Order) → order_in d ≡ Some o → plan_deed t h d ≡ Give o ∷ []
given t h (deed.Seeks time dir) o e = ap (λ (x : Order). Give x ∷ []) (let y : order.Seek time dir ≡ o = cc in y)
given t h (deed.Selects set at) o e = ap (λ (x : Order). Give x ∷ []) (let y : order.Select set at ≡ o = cc in y)
given t h (deed.Fails x) o e = absurd (cc)
given t h deed.Ignores o e = absurd (cc)
given t h (deed.Gives x) o e = absurd (cc)
given t h (deed.Pauses x) o e = absurd (cc)
given t h (deed.Mutes x) o e = absurd (cc)
given t h (deed.Sends x) o e = absurd (cc)
given t h (deed.SendsTo c x) o e = absurd (cc)
given t h deed.Quits o e = absurd (cc)

may_order : (t : Table) (h : List CoreRecord) (d : Deed) (o : Order) → order_in d ≡ Some o → slice_get (rest t h) 0 ≡ Some (Give o) → MayOrder t h o
may_order t h (deed.Seeks time dir) o e next = subst (MayOrder t h) y (next ∙ ap (λ (x : Order). Some (Give x)) (sym y))
  where
    y : order.Seek time dir ≡ o
    y = cc
may_order t h (deed.Selects set at) o e next = subst (MayOrder t h) y (next ∙ ap (λ (x : Order). Some (Give x)) (sym y))
  where
    y : order.Select set at ≡ o
    y = cc
may_order t h (deed.Fails x) o e next = absurd (cc)
may_order t h deed.Ignores o e next = absurd (cc)
may_order t h (deed.Gives x) o e next = absurd (cc)
may_order t h (deed.Pauses x) o e next = absurd (cc)
may_order t h (deed.Mutes x) o e next = absurd (cc)
may_order t h (deed.Sends x) o e next = absurd (cc)
may_order t h (deed.SendsTo c x) o e next = absurd (cc)
may_order t h deed.Quits o e next = absurd (cc)

works_order : (t : Table) (by : ℕ) (h h' : List CoreRecord) (d : Deed) (o : Order) (c : ClientNo) (n id : ℕ) → order_in d ≡ Some o
    → h' ≡ Ordered by o ∷ Took by c n id ∷ h → Works t by h o h'
works_order t by h h' (deed.Seeks time dir) o c n id e is = subst (λ (x : Order). Works t by h x h') y
    (c, n, id, is ∙ ap (λ (x : Order). Ordered by x ∷ Took by c n id ∷ h) (sym y))
  where
    y : order.Seek time dir ≡ o
    y = cc
works_order t by h h' (deed.Selects set at) o c n id e is = subst (λ (x : Order). Works t by h x h') y
    (c, n, id, is ∙ ap (λ (x : Order). Ordered by x ∷ Took by c n id ∷ h) (sym y))
  where
    y : order.Select set at ≡ o
    y = cc
works_order t by h h' (deed.Fails x) o c n id e is = absurd (cc)
works_order t by h h' deed.Ignores o c n id e is = absurd (cc)
works_order t by h h' (deed.Gives x) o c n id e is = absurd (cc)
works_order t by h h' (deed.Pauses x) o c n id e is = absurd (cc)
works_order t by h h' (deed.Mutes x) o c n id e is = absurd (cc)
works_order t by h h' (deed.Sends x) o c n id e is = absurd (cc)
works_order t by h h' (deed.SendsTo d x) o c n id e is = absurd (cc)
works_order t by h h' deed.Quits o c n id e is = absurd (cc)

and_false : (b : Bool) → (b && false) ≡ false
and_false true = refl
and_false false = refl

pub order_may : (value : ℕ → Facts → Reading) (by : ℕ) (c : ClientNo) (n id : ℕ) (d : Deed) (o : Order) (s s' : CoreState)
    → Wrote s s' (Took by c n id) → d ≡ next_deed (table_of value s) (reverse s.journal) → order_in d ≡ Some o
    → MayOrder (table_of value s') (reverse s'.journal) o
order_may value by c n id d o s s' w does asks =
    may_order (table_of value s') (reverse s'.journal) d o asks
    (ap (λ (es : List Effect). slice_get es 0) (took_coming value by c n id d s s' w does ∙ given (table_of value s) (reverse s.journal) d o asks))

pub order_quiet : (value : ℕ → Facts → Reading) (by : ℕ) (c : ClientNo) (n id : ℕ) (d : Deed) (o : Order) (s s1 s2 : CoreState)
    → IsQuiet value s → Wrote s s1 (Took by c n id) → d ≡ next_deed (table_of value s) (reverse s.journal) → order_in d ≡ Some o
    → Wrote s1 s2 (Ordered by o) → IsQuiet value s2
order_quiet value by c n id d o s s1 s2 quiet a does asks b =
    let h1 : reverse s1.journal ≡ Took by c n id ∷ reverse s.journal = as_told s.journal s1.journal (Took by c n id) a.journal in
    let h2 : reverse s2.journal ≡ Ordered by o ∷ reverse s1.journal = as_told s1.journal s2.journal (Ordered by o) b.journal in
    record {
      due = ap due h2 ∙ ap due h1 ∙ quiet.due;
      rest = ap (λ (x : Table). rest x (reverse s2.journal)) (same_table value s1 s2 b.entries)
          ∙ ap (λ (x : List CoreRecord). rest (table_of value s1) x) h2
          ∙ ap (λ (es : List Effect). drop 1 es) (took_coming value by c n id d s s1 a does ∙ given (table_of value s) (reverse s.journal) d o asks);
      reply = ap reply_due h2 ∙ and_false (is_some (worked (reverse s1.journal)));
    }

pub order_works : (t : Table) (by : ℕ) (c : ClientNo) (n id : ℕ) (d : Deed) (o : Order) (s s1 s2 : CoreState)
    → Wrote s s1 (Took by c n id) → order_in d ≡ Some o → Wrote s1 s2 (Ordered by o)
    → Works t by (reverse s.journal) o (reverse s2.journal)
order_works t by c n id d o s s1 s2 a asks b =
    works_order t by (reverse s.journal) (reverse s2.journal) d o c n id asks
    (as_told s1.journal s2.journal (Ordered by o) b.journal
    ∙ ap (λ (x : List CoreRecord). Ordered by o ∷ x) (as_told s.journal s1.journal (Took by c n id) a.journal))

-- ---- the effects and the reply

pub news_is_effect : (r : CoreRecord) → is_news r ≡ true → is_effect r ≡ true
news_is_effect r e = rw e refl

pub reply_is_effect : (r : CoreRecord) → is_reply_record r ≡ true → is_effect r ≡ true
reply_is_effect (Replied by c n e) p = refl
reply_is_effect r p = absurd (cc)

-- the core behind the effects of a taken request
pub record IsWorked (by : ℕ) (task : Task) (s s1 s2 : CoreState) : Type 0 where
  pub took : Wrote s s1 (Took by task.client task.ticket task.id)
  pub work : s1.work ≡ slice_get s.queue.requests 0
  pub deed : s1.deed ≡ task.deed
  pub none : (s1.out ≡ s.out) × (s1.refused ≡ false)
  pub news : Adds is_news by (reverse s1.journal) (reverse s2.journal)
  pub same : readings_of s2 ≡ readings_of s1

pub worked_end : (value : ℕ → Facts → Reading) (by : ℕ) (task : Task) (s s1 s2 : CoreState) (x : Follow) (p : Twice)
    → IsQuiet value s → s.out ≡ None → IsTask value task s → task.close ≡ close.Replies x p → IsWorked by task s s1 s2
    → coming value s2 ≡ [] → IsEnd value task.client task.ticket p.event s2
worked_end value by task s s1 s2 x p quiet none is ends w nothing =
    let q = close_at value task s is in
    let closes : IsClose (after_deed task.deed s.facts) (length s.order) (q.0).call task.deed (close.Replies x p) =
    subst (IsClose (after_deed task.deed s.facts) (length s.order) (q.0).call task.deed) ends q.4 in
    let due1 : due (reverse s1.journal) ≡ due (reverse s.journal) =
    ap due (as_told s.journal s1.journal (Took by task.client task.ticket task.id) w.took.journal) in
    let work : s2.work ≡ Some q.0 = ap (λ (y : Readings). y.work) w.same ∙ w.work ∙ q.1 in
    let wrong : error_now s2 ≡ deed_error task.deed =
    ap (λ (y : Readings). if y.refused then command_error else deed_error y.deed) w.same
    ∙ ap (λ (b : Bool). if b then command_error else deed_error s1.deed) w.none.1 ∙ ap deed_error w.deed in
    let given : deed_value s2.deed ≡ deed_value task.deed = ap (λ (y : Readings). deed_value y.deed) w.same ∙ ap deed_value w.deed in
    let reply : IsReply task.client task.ticket p.event q.0 (error_now s2) (deed_value s2.deed) = record {
      of_client = sym q.2;
      of_ticket = sym q.3;
      same = (closes.1).first ∙ ap (λ e. reply_of (q.0).call e (deed_value task.deed)) (sym wrong)
          ∙ ap (λ v. reply_of (q.0).call (error_now s2) v) (sym given);
    } in
    record {
      none_due = due_same by (reverse s1.journal) (reverse s2.journal) w.news ∙ due1 ∙ quiet.due;
      none_left = nothing;
      none_out = ap (λ (y : Readings). y.out) w.same ∙ w.none.0 ∙ none;
      reply = subst (λ (o : Option Request). IsSomeAnd o (λ q. IsReply task.client task.ticket p.event q (error_now s2) (deed_value s2.deed))) (sym work) reply;
    }

pub worked_adds : (by : ℕ) (task : Task) (e : Event) (s s1 s2 s3 : CoreState) → IsWorked by task s s1 s2
    → Wrote s2 s3 (Replied by task.client task.ticket e)
    → Adds is_effect by (Took by task.client task.ticket task.id ∷ reverse s.journal) (reverse s3.journal)
worked_adds by task e s s1 s2 s3 w b =
    subst (λ (x : List CoreRecord). Adds is_effect by x (reverse s3.journal))
    (as_told s.journal s1.journal (Took by task.client task.ticket task.id) w.took.journal)
    (adds_then is_effect by (reverse s1.journal) (reverse s2.journal) (reverse s3.journal)
    (adds_as is_news is_effect by (reverse s1.journal) (reverse s2.journal) news_is_effect w.news)
    (adds_record is_effect by s2.journal s3.journal (Replied by task.client task.ticket e) b.journal refl refl))

-- ---- what the parts of a task say

pub asks_order : (value : ℕ → Facts → Reading) (task : Task) (s : CoreState) (o : Order) → IsTask value task s → task.close ≡ close.Orders o
    → order_in task.deed ≡ Some o
asks_order value task s o is ends =
    let q = close_at value task s is in
    subst (IsClose (after_deed task.deed s.facts) (length s.order) (q.0).call task.deed) ends q.4

pub replies_by : (value : ℕ → Facts → Reading) (task : Task) (s : CoreState) (x : Follow) (p : Twice) → IsTask value task s → task.close ≡ close.Replies x p
    → IsFollow (after_deed task.deed s.facts) (length s.order) task.deed x × (p.told ≡ p.event) × IsTrue (is_reply p.event)
replies_by value task s x p is ends =
    let q = close_at value task s is in
    let closes : IsClose (after_deed task.deed s.facts) (length s.order) (q.0).call task.deed (close.Replies x p) =
    subst (IsClose (after_deed task.deed s.facts) (length s.order) (q.0).call task.deed) ends q.4 in
    (closes.0, (closes.1).second ∙ sym (closes.1).first, closes.2)

pub task_due : (value : ℕ → Facts → Reading) (by : ℕ) (task : Task) (s s1 : CoreState) (x : Follow) (p : Twice) → IsTask value task s → task.close ≡ close.Replies x p
    → Wrote s s1 (Took by task.client task.ticket task.id) → s1.order ≡ s.order
    → coming value s1 ≡ plan_follow (table_of value s1) (reverse s1.journal) s1.order x
task_due value by task s s1 x p is ends w os =
    follow_due value s s1 (Took by task.client task.ticket task.id) x (plan_deed (table_of value s) (reverse s.journal) task.deed) w is.listed os (λ e c. refl)
    (took_coming value by task.client task.ticket task.id task.deed s s1 w is.does)
    ((replies_by value task s x p is ends).0.plan (table_of value s) (reverse s.journal))

order_out : (d : Deed) (o : Order) → order_in d ≡ Some o → Some o ≡ out_by o
order_out (deed.Seeks time dir) o e = let y : order.Seek time dir ≡ o = cc in subst (λ (x : Order). Some x ≡ out_by x) y refl
order_out (deed.Selects set at) o e = let y : order.Select set at ≡ o = cc in subst (λ (x : Order). Some x ≡ out_by x) y refl
order_out (deed.Fails x) o e = absurd (cc)
order_out deed.Ignores o e = absurd (cc)
order_out (deed.Gives x) o e = absurd (cc)
order_out (deed.Pauses x) o e = absurd (cc)
order_out (deed.Mutes x) o e = absurd (cc)
order_out (deed.Sends x) o e = absurd (cc)
order_out (deed.SendsTo c x) o e = absurd (cc)
order_out deed.Quits o e = absurd (cc)

pub task_out : (value : ℕ → Facts → Reading) (task : Task) (s : CoreState) (o : Order) → IsTask value task s → task.close ≡ close.Orders o → Some o ≡ out_by o
task_out value task s o is ends = order_out task.deed o (asks_order value task s o is ends)
