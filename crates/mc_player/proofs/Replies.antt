-- Each reply stands in its place, and each accepted request has its fate.
use Rattle.std.proofs.Common.{◌≡◌, ℤ, ℕ, ◌<◌, ◌≤◌, ◌==◌, inl, inr, ◌⊎◌, Bool, true, false, ◌&&◌, ◌||◌, List, [], ◌∷◌, length, Option, Some, None, refl, sym, ap, subst, ◌∙◌, arith}
use Rattle.std.specs.Prelude.{slice_get, IfSome, IsSomeAnd}
use Rattle.std.proofs.lemmas.Bool.{cases_Bool, cases_lt, eqb-true, eq-eqb, and_from, and_parts, or_cases, or_from, or_left, or_right, or_parts, false_from_ne_true}
use Rattle.mc_value.specs.declared.value.Value.{Value}
use Rattle.mc_dispatch.specs.Queue.{has_ticket, is_of}
use Rattle.mc_dispatch.specs.declared.call.Call.{Call}
use Rattle.mc_dispatch.specs.declared.request.ClientNo.{ClientNo}
use Rattle.mc_dispatch.specs.declared.request.Request.{Request}
use Rattle.mc_ring.specs.declared.event.Event.{Event}
use Rattle.mc_player.specs.declared.record.CoreRecord.{CoreRecord}
use Rattle.mc_player.specs.declared.record.CoreRecord.TheVariants.{Created, Destroyed, Called, Learned, Wrote, Took, Ordered, Did, Pushed, Replied}
use Rattle.mc_player.specs.Deeds.{deed_value}
use Rattle.mc_player.specs.Facts.{last_deed}
use Rattle.mc_player.specs.Journals.{due, put, queued, request, worked}
use Rattle.mc_player.specs.Lives.{Table}
use Rattle.mc_player.specs.Laws.{Each, HasFate, Replies, ReplyStands}
use Rattle.mc_player.specs.Rings.{has, unanswered, without_ticket}
use Rattle.mc_player.specs.Rules.{IsAllowed, IsReply, MayReply, worked_error}
use Rattle.mc_player.specs.Tickets.{asks, dropped, holds, is_at_work, is_ticket, replied, taken, used}
use Rattle.mc_player.specs.Waiting.{count, one, waiting}
use Rattle.mc_player.proofs.Counts.{count_first}
use Rattle.mc_player.proofs.Lists.{ended-some, unless-some}
use Rattle.mc_player.proofs.Once.{IsNew, none_later, once, ticket_new}
use Rattle.mc_player.proofs.Owed.{has_times, of_both, owed, reply_both, times_has}
use Rattle.mc_player.proofs.Waits.{replies_to, waiting_called, waiting_gone, waiting_less, waiting_replied, waiting_took, but}

-- ---- no record has a later ticket

waits_before : (t : Table) (h : List CoreRecord) (n : ℕ) → IsAllowed t h → 1 ≤ waiting (has_ticket n) h → n < length h
waits_before t h n all w = elim (cases_lt n (length h)) [ inl l ↦ l | inr g ↦ absurd (let z = none_later t h n all g in omega (arith, z, w)) ]

reply_waits : (t : Table) (h : List CoreRecord) (c : ClientNo) (n : ℕ) (e : Event) → MayReply t h (due h) c n e → 1 ≤ waiting (has_ticket n) h
reply_waits t h c n e may =
    let r = replies_to t h c n e may in
    let l = waiting_replied (has_ticket n) 0 c n e h r in
    let o : one (has_ticket n) (Some r.request) ≡ 1 = rw (eq-eqb r.request.ticket n (sym r.of_ticket)) refl in
    omega (arith, l, o)

first_waits : (qs : List Request) (c : ClientNo) (n id : ℕ) → IsSomeAnd (slice_get qs 0) (λ q. (q.client ≡ c) × (q.ticket ≡ n) × (q.id ≡ id)) → one (has_ticket n) (slice_get qs 0) ≡ 1
first_waits [] c n id s = absurd s
first_waits (q ∷ qs) c n id s = rw (eq-eqb q.ticket n s.1) refl

took_waits : (h : List CoreRecord) (c : ClientNo) (n id : ℕ) → IsSomeAnd (slice_get (queued h) 0) (λ q. (q.client ≡ c) × (q.ticket ≡ n) × (q.id ≡ id)) → 1 ≤ waiting (has_ticket n) h
took_waits h c n id s = let f = count_first (has_ticket n) (queued h) in let o = first_waits (queued h) c n id s in omega (arith, f, o)

new_before : (h : List CoreRecord) (ticket : Option ℕ) (n : ℕ) → IsNew h ticket → is_ticket ticket n ≡ true → n ≡ length h
new_before h None n new is = absurd (cc)
new_before h (Some m) n new is = sym (eqb-true m n is) ∙ new

pub used_before : (t : Table) (h : List CoreRecord) (n : ℕ) → IsAllowed t h → used n h ≡ true → n < length h
used_before t [] n all is = absurd (cc)
used_before t (Called by c ticket x a ∷ h) n all is = elim (or_cases (is_ticket ticket n) (used n h) is) [
  | inl y ↦ let e = new_before h ticket n (ticket_new t h c ticket x a all.0.0) y in omega (arith, e)
  | inr y ↦ let e = used_before t h n all.1 y in omega (arith, e)
]
used_before t (Took by c m id ∷ h) n all is = elim (or_cases (m == n) (used n h) is) [
  | inl y ↦
      let e = waits_before t h m all.1 (took_waits h c m id all.0.0.oldest) in
      let s = eqb-true m n y in
      omega (arith, e, s)
  | inr y ↦ let e = used_before t h n all.1 y in omega (arith, e)
]
used_before t (Replied by c m x ∷ h) n all is = elim (or_cases (m == n) (used n h) is) [
  | inl y ↦
      let e = waits_before t h m all.1 (reply_waits t h c m x all.0.0) in
      let s = eqb-true m n y in
      omega (arith, e, s)
  | inr y ↦ let e = used_before t h n all.1 y in omega (arith, e)
]
used_before t (Created by c name size ∷ h) n all is = let e = used_before t h n all.1 is in omega (arith, e)
used_before t (Destroyed by c ∷ h) n all is = let e = used_before t h n all.1 is in omega (arith, e)
used_before t (Learned by view ∷ h) n all is = let e = used_before t h n all.1 is in omega (arith, e)
used_before t (Wrote by mask f ∷ h) n all is = let e = used_before t h n all.1 is in omega (arith, e)
used_before t (Ordered by o ∷ h) n all is = let e = used_before t h n all.1 is in omega (arith, e)
used_before t (Did by o ∷ h) n all is = let e = used_before t h n all.1 is in omega (arith, e)
used_before t (Pushed by c x kept ∷ h) n all is = let e = used_before t h n all.1 is in omega (arith, e)

pub unused : (t : Table) (h : List CoreRecord) → IsAllowed t h → used (length h) h ≡ false
unused t h all = false_from_ne_true _ (λ is. let l = used_before t h (length h) all is in absurd (omega (arith, l)))

-- ---- what waits has no reply yet

replied-used : (n : ℕ) (h : List CoreRecord) → used n h ≡ false → replied n h ≡ false
replied-used n [] k = refl
replied-used n (Called by c ticket x a ∷ h) k = replied-used n h (or_parts (is_ticket ticket n) (used n h) k).1
replied-used n (Took by c m id ∷ h) k = replied-used n h (or_parts (m == n) (used n h) k).1
replied-used n (Replied by c m e ∷ h) k = let p = or_parts (m == n) (used n h) k in or_from (m == n) (replied n h) p.0 (replied-used n h p.1)
replied-used n (Created by c name size ∷ h) k = replied-used n h k
replied-used n (Destroyed by c ∷ h) k = replied-used n h k
replied-used n (Learned by view ∷ h) k = replied-used n h k
replied-used n (Wrote by mask f ∷ h) k = replied-used n h k
replied-used n (Ordered by o ∷ h) k = replied-used n h k
replied-used n (Did by o ∷ h) k = replied-used n h k
replied-used n (Pushed by c x kept ∷ h) k = replied-used n h k

new_live : (t : Table) (h : List CoreRecord) (c : ClientNo) (ticket : Option ℕ) (x : Call) (n : ℕ) → IsAllowed t h → IsNew h ticket → 1 ≤ one (has_ticket n) (request c ticket x) → replied n h ≡ false
new_live t h c None x n all new w = absurd (omega (arith, w))
new_live t h c (Some m) x n all new w = elim (cases_Bool (m == n)) [
  | inl y ↦ replied-used n h (subst (λ (k : ℕ). used k h ≡ false) (sym new ∙ eqb-true m n y) (unused t h all))
  | inr k ↦ absurd (let z : 1 ≤ 0 = rw k at w in omega (arith, z))
]

no_reply : (n m : ℕ) (q : Request) → m ≡ q.ticket → one (has_ticket n) (Some q) ≡ 0 → (m == n) ≡ false
no_reply n m q e z = false_from_ne_true _ (λ y.
    let o : one (has_ticket n) (Some q) ≡ 1 = rw (eq-eqb q.ticket n (sym e ∙ eqb-true m n y)) refl in
    absurd (omega (arith, z, o)))

pub live : (t : Table) (h : List CoreRecord) (n : ℕ) → IsAllowed t h → 1 ≤ waiting (has_ticket n) h → replied n h ≡ false
live t [] n all w = refl
live t (Called by c ticket x a ∷ h) n all w =
    let g = waiting_called (has_ticket n) by c ticket x a h (all.0.1).due in
    elim (cases_lt (waiting (has_ticket n) h) 1) [
      | inl none ↦ new_live t h c ticket x n all.1 (ticket_new t h c ticket x a all.0.0) (omega (arith, g, w, none))
      | inr some ↦ live t h n all.1 some
    ]
live t (Destroyed by c ∷ h) n all w =
    let g = waiting_gone (has_ticket n) by c h (all.0.1).due in
    let l = waiting_less (but (has_ticket n) c) (has_ticket n) h (λ q p. (and_parts (q.ticket == n) _ p).0) in
    live t h n all.1 (omega (arith, w, g, l))
live t (Took by c m id ∷ h) n all w = let g = waiting_took (has_ticket n) by c m id h all.0.0.idle in live t h n all.1 (omega (arith, w, g))
live t (Replied by c m x ∷ h) n all w =
    let r = replies_to t h c m x all.0.0 in
    let g = waiting_replied (has_ticket n) by c m x h r in
    let o = once t h n all.1 in
    or_from (m == n) (replied n h) (no_reply n m r.request r.of_ticket (omega (arith, w, g, o))) (live t h n all.1 (omega (arith, w, g)))
live t (Created by c name size ∷ h) n all w = live t h n all.1 w
live t (Learned by view ∷ h) n all w = live t h n all.1 w
live t (Wrote by mask f ∷ h) n all w = live t h n all.1 w
live t (Ordered by o ∷ h) n all w = live t h n all.1 w
live t (Did by o ∷ h) n all w = live t h n all.1 w
live t (Pushed by c x kept ∷ h) n all w = live t h n all.1 w

-- ---- what is worked was taken

first_taken : (qs : List Request) (c : ClientNo) (n id : ℕ) (b : ℕ → Bool) → IsSomeAnd (slice_get qs 0) (λ q. (q.client ≡ c) × (q.ticket ≡ n) × (q.id ≡ id))
    → IfSome (slice_get qs 0) (λ q. ((n == q.ticket) || b q.ticket) ≡ true)
first_taken [] c n id b s = tt
first_taken (q ∷ qs) c n id b s = or_left (n == q.ticket) _ (eq-eqb n q.ticket (sym s.1))

was_taken : (t : Table) (h : List CoreRecord) → IsAllowed t h → IfSome (worked h) (λ q. taken q.ticket h ≡ true)
was_taken t [] all = tt
was_taken t (Destroyed by c ∷ h) all = unless-some (λ q. taken q.ticket h ≡ true) (is_of c) (worked h) (was_taken t h all.1)
was_taken t (Took by c n id ∷ h) all = first_taken (queued h) c n id (λ m. taken m h) all.0.0.oldest
was_taken t (Replied by c n e ∷ h) all = ended-some (λ q. taken q.ticket h ≡ true) (due h) (worked h) (was_taken t h all.1)
was_taken t (Created by c name size ∷ h) all = was_taken t h all.1
was_taken t (Called by c ticket x a ∷ h) all = was_taken t h all.1
was_taken t (Learned by view ∷ h) all = was_taken t h all.1
was_taken t (Wrote by mask f ∷ h) all = was_taken t h all.1
was_taken t (Ordered by o ∷ h) all = was_taken t h all.1
was_taken t (Did by o ∷ h) all = was_taken t h all.1
was_taken t (Pushed by c x kept ∷ h) all = was_taken t h all.1

-- ---- replies

of_worked : (h : List CoreRecord) (c : ClientNo) (n : ℕ) (e : Event) (error : ℤ) (v : Value) (w : Option Request) → IfSome w (λ q. taken q.ticket h ≡ true)
    → IsSomeAnd w (λ q. IsReply c n e q error v) → taken n h ≡ true
of_worked h c n e error v None s r = absurd r
of_worked h c n e error v (Some q) s r = subst (λ (m : ℕ). taken m h ≡ true) (sym r.of_ticket) s

holds_head : (c : ClientNo) (n : ℕ) (q : Request) (qs : List Request) → c ≡ q.client → n ≡ q.ticket → holds c.0 n (q ∷ qs) ≡ true
holds_head c n q qs e s =
    or_left _ (holds c.0 n qs) (and_from (q.client.0 == c.0) (q.ticket == n) (eq-eqb q.client.0 c.0 (ap (λ (k : ClientNo). k.0) (sym e))) (eq-eqb q.ticket n (sym s)))

behind : (t : Table) (h : List CoreRecord) (c : ClientNo) (n : ℕ) (e : Event) (ds : List Request) → IsAllowed t h → MayReply t h ds c n e
    → (taken n h ≡ true) ⊎ (holds c.0 n ds ≡ true)
behind t h c n e [] all may = inl (of_worked h c n e (worked_error t h) (deed_value (last_deed t h)) (worked h) (was_taken t h all) may.reply)
behind t h c n e (q ∷ qs) all may = inr (holds_head c n q qs may.of_client may.of_ticket)

has_reply : (t : Table) (h : List CoreRecord) (c : ClientNo) (n : ℕ) (e : Event) → IsAllowed t h → MayReply t h (due h) c n e → has n (unanswered c.0 h) ≡ true
has_reply t h c n e all may =
    let r = replies_to t h c n e may in
    let l = waiting_replied (of_both c.0 n) 0 c n e h r in
    let o : one (of_both c.0 n) (Some r.request) ≡ 1 = reply_both c.0 n n c r.request r.of_client r.of_ticket ∙ rw (eq-eqb c.0 c.0 refl, eq-eqb n n refl) refl in
    let w = owed t h c.0 n all in
    times_has n (unanswered c.0 h) (omega (arith, l, o, w))

pub reply_stands : (t : Table) (h : List CoreRecord) (c : ClientNo) (n : ℕ) (e : Event) → IsAllowed t h → MayReply t h (due h) c n e → ReplyStands h c.0 n
reply_stands t h c n e all may = record {
  first = live t h n all (reply_waits t h c n e may);
  waits = has_reply t h c n e all may;
  taken_or_due = behind t h c n e (due h) all may;
}

pub replies : (t : Table) (h : List CoreRecord) → IsAllowed t h → Each Replies h
replies t [] all = tt
replies t (Replied by c n e ∷ h) all = (reply_stands t h c n e all.1 all.0.0, replies t h all.1)
replies t (Created by c name size ∷ h) all = (tt, replies t h all.1)
replies t (Destroyed by c ∷ h) all = (tt, replies t h all.1)
replies t (Called by c ticket x a ∷ h) all = (tt, replies t h all.1)
replies t (Learned by view ∷ h) all = (tt, replies t h all.1)
replies t (Wrote by mask f ∷ h) all = (tt, replies t h all.1)
replies t (Took by c n id ∷ h) all = (tt, replies t h all.1)
replies t (Ordered by o ∷ h) all = (tt, replies t h all.1)
replies t (Did by o ∷ h) all = (tt, replies t h all.1)
replies t (Pushed by c x kept ∷ h) all = (tt, replies t h all.1)

-- ---- fates

count_holds : (c n : ℕ) (qs : List Request) → 1 ≤ count (of_both c n) qs → holds c n qs ≡ true
count_holds c n [] l = absurd (omega (arith, l))
count_holds c n (q ∷ qs) l = elim (cases_Bool ((q.client.0 == c) && (q.ticket == n))) [
  | inl y ↦ or_left _ (holds c n qs) y
  | inr k ↦ let g : 1 ≤ count (of_both c n) qs = rw k at l in or_right ((q.client.0 == c) && (q.ticket == n)) _ (count_holds c n qs g)
]

one_at_work : (c n : ℕ) (w : Option Request) → 1 ≤ one (of_both c n) w → is_at_work c n w ≡ true
one_at_work c n None l = absurd (omega (arith, l))
one_at_work c n (Some q) l = elim (cases_Bool ((q.client.0 == c) && (q.ticket == n))) [
  | inl y ↦ y
  | inr k ↦ absurd (let g : 1 ≤ 0 = rw k at l in omega (arith, g))
]

hand : (c n : ℕ) (h : List CoreRecord) (b : Bool) → 1 ≤ waiting (of_both c n) h → (holds c n (queued h) || (holds c n (due h) || (is_at_work c n (worked h) || b))) ≡ true
hand c n h b l = elim (cases_lt (count (of_both c n) (queued h)) 1) [
  | inr some ↦ or_left _ _ (count_holds c n (queued h) some)
  | inl none ↦ or_right (holds c n (queued h)) _ (elim (cases_lt (count (of_both c n) (due h)) 1) [
    | inr some ↦ or_left _ _ (count_holds c n (due h) some)
    | inl no_due ↦ or_right (holds c n (due h)) _ (or_left _ b (one_at_work c n (worked h) (omega (arith, l, none, no_due))))
  ])
]

both-to : (a b x y : Bool) → (a ≡ true → x ≡ true) → (b ≡ true → y ≡ true) → (a || b) ≡ true → (x || y) ≡ true
both-to a b x y f g h = elim (or_cases a b h) [ inl p ↦ or_left x y (f p) | inr p ↦ or_right x y (g p) ]

has-put : (n : ℕ) (o : Option ℕ) (us : List ℕ) → has n us ≡ true → has n (put o us) ≡ true
has-put n None us h = h
has-put n (Some m) [] h = absurd (cc)
has-put n (Some m) (u ∷ us) h = elim (or_cases (u == n) (has n us) h) [
  | inl y ↦ or_left (u == n) _ y
  | inr y ↦ or_right (u == n) _ (has-put n (Some m) us y)
]

has_put : (n : ℕ) (o : Option ℕ) (us : List ℕ) → is_ticket o n ≡ true → has n (put o us) ≡ true
has_put n None us is = absurd (cc)
has_put n (Some m) [] is = or_left (m == n) false is
has_put n (Some m) (u ∷ us) is = or_right (u == n) _ (has_put n (Some m) us is)

has-without : (n m : ℕ) (us : List ℕ) → (m == n) ≡ false → has n us ≡ true → has n (without_ticket m us) ≡ true
has-without n m [] d h = h
has-without n m (u ∷ us) d h = elim (cases_Bool (u == m)) [
  | inl y ↦ elim (or_cases (u == n) (has n us) h) [
    | inl z ↦ absurd (let e : (m == n) ≡ true = eq-eqb m n (sym (eqb-true u m y) ∙ eqb-true u n z) in cc)
    | inr z ↦ rw y (has-without n m us d z)
  ]
  | inr k ↦ elim (or_cases (u == n) (has n us) h) [
    | inl z ↦ rw k (or_left (u == n) (has n (without_ticket m us)) z)
    | inr z ↦ rw k (or_right (u == n) (has n (without_ticket m us)) (has-without n m us d z))
  ]
]

still : (c n m by : ℕ) (d : ClientNo) (e : Event) (h : List CoreRecord) → (m == n) ≡ false → has n (unanswered c h) ≡ true → has n (unanswered c (Replied by d m e ∷ h)) ≡ true
still c n m by d e h k w = elim (cases_Bool (d.0 == c)) [ inl z ↦ rw z (has-without n m (unanswered c h) k w) | inr z ↦ rw z w ]

-- what a client asked waits for its reply, or has it, or went with its client
ended : (c n : ℕ) (h : List CoreRecord) → asks c n h ≡ true → (has n (unanswered c h) || (replied n h || dropped n h)) ≡ true
ended c n [] is = absurd (cc)
ended c n (Destroyed by d ∷ h) is = elim (cases_Bool (d.0 == c)) [
  | inl y ↦ elim (or_cases (has n (unanswered c h)) (replied n h || dropped n h) (ended c n h is)) [
    | inl w ↦ or_right _ _ (or_right (replied n h) _ (or_left _ (dropped n h) (subst (λ (k : ℕ). has n (unanswered k h) ≡ true) (sym (eqb-true d.0 c y)) w)))
    | inr w ↦ or_right _ _ (both-to (replied n h) (dropped n h) _ _ (λ z. z) (or_right (has n (unanswered d.0 h)) _) w)
  ]
  | inr k ↦ rw k (both-to (has n (unanswered c h)) _ _ _ (λ z. z) (both-to (replied n h) (dropped n h) _ _ (λ z. z) (or_right (has n (unanswered d.0 h)) _)) (ended c n h is))
]
ended c n (Called by d ticket x a ∷ h) is = elim (or_cases ((d.0 == c) && is_ticket ticket n) (asks c n h) is) [
  | inl y ↦
      let p = and_parts (d.0 == c) (is_ticket ticket n) y in
      rw p.0 (or_left _ (replied n h || dropped n h) (has_put n ticket (unanswered c h) p.1))
  | inr y ↦ elim (cases_Bool (d.0 == c)) [
    | inl z ↦ rw z (both-to (has n (unanswered c h)) _ _ _ (has-put n ticket (unanswered c h)) (λ w. w) (ended c n h y))
    | inr k ↦ rw k (ended c n h y)
  ]
]
ended c n (Replied by d m e ∷ h) is = elim (or_cases (has n (unanswered c h)) (replied n h || dropped n h) (ended c n h is)) [
  | inl w ↦ elim (cases_Bool (m == n)) [
    | inl y ↦ or_right _ _ (or_left _ (dropped n h) (or_left (m == n) (replied n h) y))
    | inr k ↦ or_left (has n (unanswered c (Replied by d m e ∷ h))) _ (still c n m by d e h k w)
  ]
  | inr w ↦ or_right _ _ (both-to (replied n h) (dropped n h) _ _ (or_right (m == n) _) (λ z. z) w)
]
ended c n (Created by d name size ∷ h) is = ended c n h is
ended c n (Learned by view ∷ h) is = ended c n h is
ended c n (Wrote by mask f ∷ h) is = ended c n h is
ended c n (Took by d m id ∷ h) is = ended c n h is
ended c n (Ordered by o ∷ h) is = ended c n h is
ended c n (Did by o ∷ h) is = ended c n h is
ended c n (Pushed by d x kept ∷ h) is = ended c n h is

spread : (a b d e : Bool) → e ≡ true → (a || (b || (d || e))) ≡ true
spread a b d e y = or_right a _ (or_right b _ (or_right d e y))

pub fate : (t : Table) (h : List CoreRecord) → IsAllowed t h → HasFate h
fate t h all c n is = elim (or_cases (has n (unanswered c h)) (replied n h || dropped n h) (ended c n h is)) [
  | inl w ↦ let l = has_times n (unanswered c h) w in let o = owed t h c n all in hand c n h (replied n h || dropped n h) (omega (arith, l, o))
  | inr w ↦ spread (holds c n (queued h)) (holds c n (due h)) (is_at_work c n (worked h)) (replied n h || dropped n h) w
]
