-- What waits for a reply, record by record.
use Rattle.std.proofs.Common.{◌≡◌, ℤ, ℕ, ◌+◌, ◌-◌, ◌<◌, ◌≤◌, ◌==◌, inl, inr, Bool, true, false, not, ◌&&◌, List, [], ◌∷◌, drop, Option, Some, None, refl, sym, ap, subst, ◌∙◌, arith}
use Rattle.std.specs.Prelude.{if◌then◌else◌, IsSomeAnd, is_some}
use Rattle.std.specs.Option.{option_map}
use Rattle.std.proofs.lemmas.Bool.{cases_Bool, eqb-true, eq-eqb, ne_eqb}
use Rattle.mc_value.specs.declared.value.Value.{Value}
use Rattle.mc_dispatch.specs.Queue.{is_of}
use Rattle.mc_dispatch.specs.declared.call.Call.{Call}
use Rattle.mc_dispatch.specs.declared.call.Call.TheVariants as call
use Rattle.mc_dispatch.specs.declared.request.ClientNo.{ClientNo}
use Rattle.mc_dispatch.specs.declared.request.Request.{Request}
use Rattle.mc_ring.specs.declared.event.Event.{Event}
use Rattle.mc_ring.specs.declared.event.Event.TheVariants as event
use Rattle.mc_props.specs.declared.facts.Facts.{Facts}
use Rattle.mc_player.specs.declared.record.Answer.{Answer}
use Rattle.mc_player.specs.declared.record.Answer.TheVariants as answer
use Rattle.mc_player.specs.declared.record.CoreRecord.{CoreRecord}
use Rattle.mc_player.specs.declared.record.CoreRecord.TheVariants.{Created, Destroyed, Called, Learned, Wrote, Took, Ordered, Did, Pushed, Replied}
use Rattle.mc_player.specs.Deeds.{deed_value}
use Rattle.mc_player.specs.Facts.{facts_of, last_deed, life_of}
use Rattle.mc_player.specs.Journals.{due, ended_by, left_by, queued, request, worked}
use Rattle.mc_player.specs.Lives.{Life, Table, life_asked, life_called, life_polled, life_pushed, life_replied}
use Rattle.mc_player.specs.Rules.{IsAllowed, IsReply, MayReply, worked_error}
use Rattle.mc_player.specs.Waiting.{Waits, count, is_client, one, set_aside, waiting}
use Rattle.mc_player.proofs.Counts.{count_but, count_first, count_less, count_none, count_put, count_same, left_parts, one_but, one_less, one_none, one_same}

-- ---- each record

pub waiting_called : (P : Request → Bool) (by : ℕ) (c : ClientNo) (ticket : Option ℕ) (x : Call) (a : Answer) (h : List CoreRecord) → due h ≡ []
    → waiting P (Called by c ticket x a ∷ h) ≡ waiting P h + one P (request c ticket x)
waiting_called P by c ticket x a h none =
    let p = count_put P (request c ticket x) (left_by c x (queued h)) in
    let l = left_parts P c x (queued h) in
    let d : count P (due h) ≡ 0 = ap (count P) none in
    omega (arith, p, l, d)

pub waiting_took : (P : Request → Bool) (by : ℕ) (c : ClientNo) (n id : ℕ) (h : List CoreRecord) → worked h ≡ None
    → waiting P (Took by c n id ∷ h) ≡ waiting P h
waiting_took P by c n id h none =
    let f = count_first P (queued h) in
    let w : one P (worked h) ≡ 0 = ap (one P) none in
    omega (arith, f, w)

abbrev pub but : (Request → Bool) → ClientNo → Request → Bool
but P c q = P q && not (is_of c q)

pub waiting_gone : (P : Request → Bool) (by : ℕ) (c : ClientNo) (h : List CoreRecord) → due h ≡ []
    → waiting P (Destroyed by c ∷ h) ≡ waiting (but P c) h
waiting_gone P by c h none =
    let q = count_but P (is_of c) (queued h) in
    let w = one_but P (is_of c) (worked h) in
    let d : count P (due h) ≡ 0 = ap (count P) none in
    let e : count (but P c) (due h) ≡ 0 = ap (count (but P c)) none in
    omega (arith, q, w, d, e)

-- the request that a reply is to; it waits no more
pub record RepliesTo (ds : List Request) (w : Option Request) (c : ClientNo) (n : ℕ) : Type 0 where
  pub request : Request
  pub of_client : c ≡ request.client
  pub of_ticket : n ≡ request.ticket
  pub less : (P : Request → Bool) → count P (drop 1 ds) + one P (ended_by ds w) + one P (Some request) ≡ count P ds + one P w

ends : (w : Option Request) (c : ClientNo) (n : ℕ) (e : Event) (error : ℤ) (v : Value) → IsSomeAnd w (λ q. IsReply c n e q error v) → RepliesTo [] w c n
ends None c n e error v s = absurd s
ends (Some q) c n e error v s = record { request = q; of_client = s.of_client; of_ticket = s.of_ticket; less = λ P. omega arith }

by_due : (t : Table) (h : List CoreRecord) (ds : List Request) (c : ClientNo) (n : ℕ) (e : Event) → MayReply t h ds c n e → RepliesTo ds (worked h) c n
by_due t h [] c n e may = ends (worked h) c n e (worked_error t h) (deed_value (last_deed t h)) may.reply
by_due t h (q ∷ qs) c n e may = record {
  request = q;
  of_client = may.of_client;
  of_ticket = may.of_ticket;
  less = λ P. elim (cases_Bool (P q)) [ inl y ↦ rw y (omega arith) | inr m ↦ rw m (omega arith) ];
}

pub replies_to : (t : Table) (h : List CoreRecord) (c : ClientNo) (n : ℕ) (e : Event) → MayReply t h (due h) c n e → RepliesTo (due h) (worked h) c n
replies_to t h c n e may = by_due t h (due h) c n e may

pub waiting_replied : (P : Request → Bool) (by : ℕ) (c : ClientNo) (n : ℕ) (e : Event) (h : List CoreRecord) (r : RepliesTo (due h) (worked h) c n)
    → waiting P (Replied by c n e ∷ h) + one P (Some r.request) ≡ waiting P h
waiting_replied P by c n e h r = let l = r.less P in omega (arith, l)

-- ---- a test of what waits

pub waiting_none : (P : Request → Bool) (h : List CoreRecord) → ((q : Request) → P q ≡ false) → waiting P h ≡ 0
waiting_none P h none =
    let q = count_none P (queued h) none in let d = count_none P (due h) none in let w = one_none P (worked h) none in omega (arith, q, d, w)

pub waiting_same : (P Q : Request → Bool) (h : List CoreRecord) → ((q : Request) → P q ≡ Q q) → waiting P h ≡ waiting Q h
waiting_same P Q h same =
    let q = count_same P Q (queued h) same in let d = count_same P Q (due h) same in let w = one_same P Q (worked h) same in omega (arith, q, d, w)

pub waiting_less : (P Q : Request → Bool) (h : List CoreRecord) → ((q : Request) → P q ≡ true → Q q ≡ true) → waiting P h ≤ waiting Q h
waiting_less P Q h to =
    let q = count_less P Q (queued h) to in let d = count_less P Q (due h) to in let w = one_less P Q (worked h) to in omega (arith, q, d, w)

-- a client that goes leaves nothing of its own, and all of the others'
pub own_gone : (P : Request → Bool) (c : ℕ) (d : ClientNo) (h : List CoreRecord) → (d.0 == c) ≡ true → ((q : Request) → P q ≡ true → is_client c q ≡ true) → waiting (but P d) h ≡ 0
own_gone P c d h y own = waiting_none (but P d) h (λ q. none q)
  where
    none : (q : Request) → (P q && not (q.client.0 == d.0)) ≡ false
    none q = elim (cases_Bool (P q)) [
      | inl p ↦ let e : (q.client.0 == d.0) ≡ true = subst (λ (k : ℕ). (q.client.0 == k) ≡ true) (sym (eqb-true d.0 c y)) (own q p) in rw (p, e) refl
      | inr n ↦ rw n refl
    ]

pub others_left : (P : Request → Bool) (c : ℕ) (d : ClientNo) (h : List CoreRecord) → (d.0 == c) ≡ false → ((q : Request) → P q ≡ true → is_client c q ≡ true) → waiting (but P d) h ≡ waiting P h
others_left P c d h n own = waiting_same (but P d) P h (λ q. same q)
  where
    same : (q : Request) → (P q && not (q.client.0 == d.0)) ≡ P q
    same q = elim (cases_Bool (P q)) [
      | inl p ↦
          let at : q.client.0 ≡ c = eqb-true q.client.0 c (own q p) in
          let e : (q.client.0 == d.0) ≡ false = ne_eqb q.client.0 d.0 (λ s. absurd (let z : (d.0 == c) ≡ true = eq-eqb d.0 c (sym s ∙ at) in cc)) in
          rw (p, e) refl
      | inr m ↦ rw m refl
    ]

-- ---- places set aside

polled_reserved : (t : Table) (f : Facts) (e : Event) (l : Life) → (life_polled t f e l).ring.reserved ≡ l.ring.reserved
polled_reserved t f event.None l = refl
polled_reserved t f event.Overflow l = refl
polled_reserved t f (event.Change id name format value) l = refl
polled_reserved t f event.Shutdown l = refl
polled_reserved t f (event.GetReply id error value) l = refl
polled_reserved t f (event.SetReply id error) l = refl
polled_reserved t f (event.CommandReply id error) l = refl
polled_reserved t f event.StartFile l = refl
polled_reserved t f (event.EndFile reason) l = refl
polled_reserved t f event.FileLoaded l = refl
polled_reserved t f (event.Message words) l = refl
polled_reserved t f event.Seek l = refl
polled_reserved t f event.PlaybackRestart l = refl

called_reserved : (t : Table) (f : Facts) (c : Call) (a : Answer) (l : Life) → (life_called t f c a l).ring.reserved ≡ l.ring.reserved
called_reserved t f call.Poll (answer.Event e) l = polled_reserved t f e l
called_reserved t f call.Poll answer.Ok l = refl
called_reserved t f call.Poll (answer.Refused n) l = refl
called_reserved t f call.Poll (answer.Removed n) l = refl
called_reserved t f (call.Observe id name format) answer.Ok l = refl
called_reserved t f (call.Observe id name format) (answer.Refused n) l = refl
called_reserved t f (call.Observe id name format) (answer.Removed n) l = refl
called_reserved t f (call.Observe id name format) (answer.Event e) l = refl
called_reserved t f (call.Unobserve id) a l = refl
called_reserved t f (call.Event n on) answer.Ok l = refl
called_reserved t f (call.Event n on) (answer.Refused m) l = refl
called_reserved t f (call.Event n on) (answer.Removed m) l = refl
called_reserved t f (call.Event n on) (answer.Event e) l = refl
called_reserved t f (call.Command id words) a l = refl
called_reserved t f (call.Get id name format) a l = refl
called_reserved t f (call.Set id name value) a l = refl
called_reserved t f (call.Abort id) a l = refl

asked_reserved : (t : Table) (f : Facts) (d : ClientNo) (ticket : Option ℕ) (x : Call) (a : Answer) (o : Option Life) → is_some o ≡ true
    → set_aside (option_map (λ (l : Life). life_asked ticket (life_called t f x a l)) o) ≡ set_aside o + one (is_client d.0) (request d ticket x)
asked_reserved t f d ticket x a None alive = absurd (cc)
asked_reserved t f d None x a (Some l) alive = let e = called_reserved t f x a l in omega (arith, e)
asked_reserved t f d (Some n) x a (Some l) alive =
    let e = called_reserved t f x a l in
    let own : (d.0 == d.0) ≡ true = eq-eqb d.0 d.0 refl in
    rw own (ap (λ (k : ℕ). k + 1) e)

pushed_reserved : (kept : Bool) (e : Event) (o : Option Life) → set_aside (option_map (life_pushed kept e) o) ≡ set_aside o
pushed_reserved kept e None = refl
pushed_reserved true e (Some l) = refl
pushed_reserved false e (Some l) = refl

replied_reserved : (e : Event) (o : Option Life) → set_aside (option_map (life_replied e) o) ≡ set_aside o - 1
replied_reserved e None = refl
replied_reserved e (Some l) = refl

pub some_alive : (o : Option Life) (P : Life → Type 0) → IsSomeAnd o P → is_some o ≡ true
some_alive None P h = absurd h
some_alive (Some l) P h = refl

other_request : (c : ℕ) (d : ClientNo) (ticket : Option ℕ) (x : Call) → (d.0 == c) ≡ false → one (is_client c) (request d ticket x) ≡ 0
other_request c d None x n = refl
other_request c d (Some k) x n = rw n refl

reply_one : (c : ℕ) (d : ClientNo) (q : Request) → d ≡ q.client → one (is_client c) (Some q) ≡ (if d.0 == c then 1 else 0)
reply_one c d q e = ap (λ (k : ClientNo). if k.0 == c then 1 else 0) (sym e)

pub waits : (t : Table) (h : List CoreRecord) → IsAllowed t h → Waits t h
waits t [] all c = refl
waits t (Created by d name size ∷ h) all c =
    let e = waits t h all.1 c in
    elim (cases_Bool (d.0 == c)) [
      | inl y ↦
          let dead : set_aside (life_of t c h) ≡ 0 = subst (λ (k : ℕ). set_aside (life_of t k h) ≡ 0) (eqb-true d.0 c y) (ap set_aside all.0.0.number) in
          rw y (sym dead ∙ e)
      | inr n ↦ rw n e
    ]
waits t (Destroyed by d ∷ h) all c =
    let e = waits t h all.1 c in
    let g = waiting_gone (is_client c) by d h (all.0.1).due in
    elim (cases_Bool (d.0 == c)) [
      | inl y ↦ let z = own_gone (is_client c) c d h y (λ q p. p) in rw y (sym (g ∙ z))
      | inr n ↦ let z = others_left (is_client c) c d h n (λ q p. p) in rw n (e ∙ sym (g ∙ z))
    ]
waits t (Called by d ticket x a ∷ h) all c =
    let e = waits t h all.1 c in
    let g = waiting_called (is_client c) by d ticket x a h (all.0.1).due in
    elim (cases_Bool (d.0 == c)) [
      | inl y ↦
          let alive = some_alive (life_of t d.0 h) _ all.0.0 in
          let own = asked_reserved t (facts_of t h) d ticket x a (life_of t d.0 h) alive in
          let same : d.0 ≡ c = eqb-true d.0 c y in
          let moved : set_aside (option_map (λ (l : Life). life_asked ticket (life_called t (facts_of t h) x a l)) (life_of t c h)) ≡ set_aside (life_of t c h) + one (is_client c) (request d ticket x) =
          subst (λ (k : ℕ). set_aside (option_map (λ (l : Life). life_asked ticket (life_called t (facts_of t h) x a l)) (life_of t k h)) ≡ set_aside (life_of t k h) + one (is_client k) (request d ticket x)) same own in
          rw y (moved ∙ (ap (λ (k : ℕ). k + one (is_client c) (request d ticket x)) e ∙ sym g))
      | inr n ↦ let z = other_request c d ticket x n in rw n (omega (arith, e, g, z))
    ]
waits t (Took by d n id ∷ h) all c = waits t h all.1 c ∙ sym (waiting_took (is_client c) by d n id h all.0.0.idle)
waits t (Replied by d n x ∷ h) all c =
    let e = waits t h all.1 c in
    let r = replies_to t h d n x all.0.0 in
    let l = waiting_replied (is_client c) by d n x h r in
    let o = reply_one c d r.request r.of_client in
    let m = replied_reserved x (life_of t c h) in
    elim (cases_Bool (d.0 == c)) [
      | inl y ↦ let o' : one (is_client c) (Some r.request) ≡ 1 = o ∙ rw y refl in rw y (omega (arith, e, l, o', m))
      | inr z ↦ let o' : one (is_client c) (Some r.request) ≡ 0 = o ∙ rw z refl in rw z (omega (arith, e, l, o'))
    ]
waits t (Pushed by d x kept ∷ h) all c =
    let e = waits t h all.1 c in
    let m = pushed_reserved kept x (life_of t c h) in
    elim (cases_Bool (d.0 == c)) [ inl y ↦ rw y (m ∙ e) | inr n ↦ rw n e ]
waits t (Learned by view ∷ h) all c = waits t h all.1 c
waits t (Wrote by mask f ∷ h) all c = waits t h all.1 c
waits t (Ordered by o ∷ h) all c = waits t h all.1 c
waits t (Did by o ∷ h) all c = waits t h all.1 c

-- a reply comes to a client that lives and has a place for it
pub has_place : (t : Table) (h : List CoreRecord) (c : ClientNo) (n : ℕ) (e : Event) → IsAllowed t h → MayReply t h (due h) c n e → 0 < set_aside (life_of t c.0 h)
has_place t h c n e all may =
    let w = waits t h all c.0 in
    let r = replies_to t h c n e may in
    let l = waiting_replied (is_client c.0) 0 c n e h r in
    let o : one (is_client c.0) (Some r.request) ≡ 1 = reply_one c.0 c r.request r.of_client ∙ rw (eq-eqb c.0 c.0 refl) refl in
    omega (arith, w, l, o)

pub has_alive : (o : Option Life) → 0 < set_aside o → is_some o ≡ true
has_alive None p = absurd (omega (arith, p))
has_alive (Some l) p = refl
