-- A client's life is what its records tell: its ring holds what it took and no poll gave, its observers are those of the calls.
use Rattle.std.proofs.Common.{◌≡◌, ℤ, ℕ, ◌==◌, Bool, true, false, not, ◌&&◌, List, [], ◌∷◌, ◌++◌, drop, Option, Some, None, refl, sym, ap, subst, ◌∙◌, append_assoc}
use Rattle.std.specs.Prelude.{if◌then◌else◌, filter, nat_eq, IfSome, IsSomeAnd}
use Rattle.std.specs.List.{AllByRecursion, list_any}
use Rattle.std.specs.Option.{option_map}
use Rattle.std.proofs.lemmas.Bool.{eqb-true}
use Rattle.mc_value.specs.declared.value.Value.{Value}
use Rattle.mc_value.specs.declared.value.Value.TheVariants as value
use Rattle.mc_dispatch.specs.declared.call.Call.{Call}
use Rattle.mc_dispatch.specs.declared.call.Call.TheVariants as call
use Rattle.mc_dispatch.specs.declared.request.ClientNo.{ClientNo}
use Rattle.mc_dispatch.specs.declared.request.Request.{Request}
use Rattle.mc_ring.specs.Event.{enters_ring}
use Rattle.mc_ring.specs.Ring.{RingState, after_pop}
use Rattle.mc_ring.specs.declared.event.Event.{Event}
use Rattle.mc_ring.specs.declared.event.Event.TheVariants as event
use Rattle.mc_props.specs.declared.facts.Facts.{Facts}
use Rattle.mc_client.specs.Seen.{Seen, first_unsettled, news_of, poll_by, seen_after}
use Rattle.mc_player.specs.declared.record.Answer.{Answer}
use Rattle.mc_player.specs.declared.record.Answer.TheVariants as answer
use Rattle.mc_player.specs.declared.record.CoreRecord.{CoreRecord}
use Rattle.mc_player.specs.declared.record.CoreRecord.TheVariants.{Created, Destroyed, Called, Learned, Wrote, Took, Ordered, Did, Pushed, Replied}
use Rattle.mc_player.specs.Deeds.{deed_value, generic_error, reply_of}
use Rattle.mc_player.specs.Facts.{facts_of, last_deed, life_of}
use Rattle.mc_player.specs.Journals.{due, put, worked}
use Rattle.mc_player.specs.Lives.{Life, Table, life_asked, life_called, life_polled, life_pushed, life_replied, new_life, new_seen, now, ring_polled}
use Rattle.mc_player.specs.Rings.{accepted, choked, is_overflow, off, off_by, polled, ring_event, size_of, watched, watches}
use Rattle.mc_player.specs.Rules.{IsAllowed, IsReply, MayCall, MayReply, worked_error}
use Rattle.mc_player.proofs.Hearing.{heard}
use Rattle.mc_player.proofs.Lists.{All-append, All-rest}
use Rattle.mc_player.proofs.News.{give_first}
use Rattle.mc_player.proofs.Switches.{AreOnce, any_switched, once_switched}

abbrev pub Enters : Event → Type 0
Enters e = enters_ring e ≡ true

-- what is read off the records, against a client's life
pub record Tells (ps acc : List Event) (size : ℕ) (ch : Bool) (ws : List Seen) (is_off : ℕ → Bool) (l : Life) : Type 0 where
  pub events : ps ++ l.ring.events ≡ acc
  pub kinds : AllByRecursion Enters l.ring.events
  pub sized : l.ring.size ≡ size
  pub chokes : l.ring.choked ≡ ch
  pub seen : l.seen ≡ ws
  pub offs : (n : ℕ) → list_any (nat_eq n) l.off ≡ is_off n
  pub once : AreOnce l.off

abbrev pub IsTold : Table → ℕ → List CoreRecord → Life → Type 0
IsTold t c h l = Tells (polled c h) (accepted c h) (size_of c h) (choked c h) (watches t c h) (λ n. off c n h) l

-- ---- events come

pushed_tells : (ps acc : List Event) (size : ℕ) (ch : Bool) (ws : List Seen) (o : ℕ → Bool) (kept : Bool) (e : Event) (l : Life) → Enters e → Tells ps acc size ch ws o l
    → Tells ps (if kept then acc ++ e ∷ [] else acc) size (if not kept then true else ch) ws o (life_pushed kept e l)
pushed_tells ps acc size ch ws o true e l kind s = record {
  events = sym (append_assoc ps l.ring.events (e ∷ [])) ∙ ap (λ (xs : List Event). xs ++ e ∷ []) s.events;
  kinds = All-append Enters l.ring.events (e ∷ []) s.kinds (kind, tt);
  sized = s.sized;
  chokes = s.chokes;
  seen = s.seen;
  offs = s.offs;
  once = s.once;
}
pushed_tells ps acc size ch ws o false e l kind s = record { events = s.events; kinds = s.kinds; sized = s.sized; chokes = refl; seen = s.seen; offs = s.offs; once = s.once }

replied_tells : (ps acc : List Event) (size : ℕ) (ch : Bool) (ws : List Seen) (o : ℕ → Bool) (e : Event) (l : Life) → Enters e → Tells ps acc size ch ws o l
    → Tells ps (acc ++ e ∷ []) size ch ws o (life_replied e l)
replied_tells ps acc size ch ws o e l kind s = record {
  events = sym (append_assoc ps l.ring.events (e ∷ [])) ∙ ap (λ (xs : List Event). xs ++ e ∷ []) s.events;
  kinds = All-append Enters l.ring.events (e ∷ []) s.kinds (kind, tt);
  sized = s.sized;
  chokes = s.chokes;
  seen = s.seen;
  offs = s.offs;
  once = s.once;
}

-- ---- a poll

-- an event of the ring
record IsPopped (t : Table) (f : Facts) (e : Event) (ch : Bool) (ws vs : List Seen) (r : RingState) : Type 0 where
  pub given : ring_event call.Poll (answer.Event e) ≡ Some e
  pub tells : (if is_overflow call.Poll (answer.Event e) then false else ch) ≡ ch
  pub watching : watched t f call.Poll (answer.Event e) ws ≡ ws
  pub ring : ring_polled e r ≡ after_pop r
  pub seeing : seen_after (now t f) e vs ≡ vs

popped : (t : Table) (f : Facts) (e : Event) (ch : Bool) (ws vs : List Seen) (r : RingState) → Enters e → IsPopped t f e ch ws vs r
popped t f event.Shutdown ch ws vs r kind = record { given = refl; tells = refl; watching = refl; ring = refl; seeing = refl }
popped t f (event.GetReply id error v) ch ws vs r kind = record { given = refl; tells = refl; watching = refl; ring = refl; seeing = refl }
popped t f (event.SetReply id error) ch ws vs r kind = record { given = refl; tells = refl; watching = refl; ring = refl; seeing = refl }
popped t f (event.CommandReply id error) ch ws vs r kind = record { given = refl; tells = refl; watching = refl; ring = refl; seeing = refl }
popped t f event.StartFile ch ws vs r kind = record { given = refl; tells = refl; watching = refl; ring = refl; seeing = refl }
popped t f (event.EndFile reason) ch ws vs r kind = record { given = refl; tells = refl; watching = refl; ring = refl; seeing = refl }
popped t f event.FileLoaded ch ws vs r kind = record { given = refl; tells = refl; watching = refl; ring = refl; seeing = refl }
popped t f (event.Message words) ch ws vs r kind = record { given = refl; tells = refl; watching = refl; ring = refl; seeing = refl }
popped t f event.Seek ch ws vs r kind = record { given = refl; tells = refl; watching = refl; ring = refl; seeing = refl }
popped t f event.PlaybackRestart ch ws vs r kind = record { given = refl; tells = refl; watching = refl; ring = refl; seeing = refl }
popped t f event.None ch ws vs r kind = absurd (cc)
popped t f event.Overflow ch ws vs r kind = absurd (cc)
popped t f (event.Change id name format v) ch ws vs r kind = absurd (cc)

-- what a poll that answers an event tells
abbrev PollTells : Table → Facts → List Event → List Event → ℕ → Bool → List Seen → (ℕ → Bool) → Event → Life → Type 0
PollTells t f ps acc size ch ws o e l =
    Tells (put (ring_event call.Poll (answer.Event e)) ps) acc size (if is_overflow call.Poll (answer.Event e) then false else ch)
    (watched t f call.Poll (answer.Event e) ws) o (life_polled t f e l)

news_tells : (t : Table) (f : Facts) (ps acc : List Event) (size : ℕ) (ch : Bool) (ws : List Seen) (o : ℕ → Bool) (w : Option Seen) (l : Life) → first_unsettled (now t f) l.seen ≡ w
    → Tells ps acc size ch ws o l → PollTells t f ps acc size ch ws o (news_of (now t f) w) l
news_tells t f ps acc size ch ws o None l is s = record { events = s.events; kinds = s.kinds; sized = s.sized; chokes = s.chokes; seen = s.seen; offs = s.offs; once = s.once }
news_tells t f ps acc size ch ws o (Some w) l is s = record {
  events = s.events;
  kinds = s.kinds;
  sized = s.sized;
  chokes = s.chokes;
  seen = sym (subst (λ (us : List Seen). watched t f call.Poll (answer.Event (news_of (now t f) (Some w))) us ≡ seen_after (now t f) (news_of (now t f) (Some w)) l.seen) s.seen (give_first t f l.seen w is));
  offs = s.offs;
  once = s.once;
}

polled_tells : (t : Table) (f : Facts) (ps acc : List Event) (size : ℕ) (ch : Bool) (ws : List Seen) (o : ℕ → Bool) (es : List Event) (b : Bool) (l : Life) → l.ring.events ≡ es → l.ring.choked ≡ b
    → Tells ps acc size ch ws o l → PollTells t f ps acc size ch ws o (poll_by (now t f) es b l.seen) l
polled_tells t f ps acc size ch ws o (e ∷ es) b l has is s =
    let kinds : AllByRecursion Enters (e ∷ es) = subst (λ (xs : List Event). AllByRecursion Enters xs) has s.kinds in
    let p = popped t f e ch ws l.seen l.ring kinds.0 in
    rw (p.given, p.tells, p.watching, p.ring, p.seeing) (record {
      events = append_assoc ps (e ∷ []) (drop 1 l.ring.events) ∙ (ap (λ (xs : List Event). ps ++ e ∷ drop 1 xs) has ∙ (ap (λ (xs : List Event). ps ++ xs) (sym has) ∙ s.events));
      kinds = All-rest Enters l.ring.events s.kinds;
      sized = s.sized;
      chokes = s.chokes;
      seen = s.seen;
      offs = s.offs;
      once = s.once;
    })
polled_tells t f ps acc size ch ws o [] true l has is s =
    record { events = s.events; kinds = s.kinds; sized = s.sized; chokes = refl; seen = s.seen; offs = s.offs; once = s.once }
polled_tells t f ps acc size ch ws o [] false l has is s = news_tells t f ps acc size ch ws o (first_unsettled (now t f) l.seen) l refl s

-- ---- a call

abbrev CallTells : Table → Facts → List Event → List Event → ℕ → Bool → List Seen → (ℕ → Bool) → Call → Answer → Life → Type 0
CallTells t f ps acc size ch ws o x a l =
    Tells (put (ring_event x a) ps) acc size (if is_overflow x a then false else ch) (watched t f x a ws) (λ n. off_by n x a (o n)) (life_called t f x a l)

-- the same, said of the client behind the call
abbrev CallTold : Table → Facts → List Event → List Event → ℕ → Bool → List Seen → (ℕ → Bool) → Call → Answer → Life → Type 0
CallTold t f ps acc size ch ws o x a l =
    Tells (put (ring_event x a) ps) acc size (if is_overflow x a then false else ch) (watched t f x a ws) (λ n. off_by n x a (o n)) l

same_tells : (ps acc : List Event) (size : ℕ) (ch : Bool) (ws vs : List Seen) (o : ℕ → Bool) (l : Life) (us : List Seen) → us ≡ vs → Tells ps acc size ch ws o l
    → Tells ps acc size ch vs o (record { name = l.name; ring = l.ring; seen = us; off = l.off })
same_tells ps acc size ch ws vs o l us e s = record { events = s.events; kinds = s.kinds; sized = s.sized; chokes = s.chokes; seen = e; offs = s.offs; once = s.once }

called_tells : (t : Table) (h : List CoreRecord) (c : ClientNo) (ticket : Option ℕ) (ps acc : List Event) (size : ℕ) (ch : Bool) (ws : List Seen) (o : ℕ → Bool) (x : Call) (a : Answer) (l : Life)
    → MayCall t h c ticket x a l → Tells ps acc size ch ws o l → CallTells t (facts_of t h) ps acc size ch ws o x a l
called_tells t h c ticket ps acc size ch ws o call.Poll a l may s =
    subst (λ (b : Answer). CallTells t (facts_of t h) ps acc size ch ws o call.Poll b l) (sym may.same) (polled_tells t (facts_of t h) ps acc size ch ws o l.ring.events l.ring.choked l refl refl s)
called_tells t h c ticket ps acc size ch ws o (call.Observe id name to) answer.Ok l may s = same_tells ps acc size ch ws _ o l _ (ap (λ (us : List Seen). us ++ new_seen id name to ∷ []) s.seen) s
called_tells t h c ticket ps acc size ch ws o (call.Observe id name to) (answer.Refused n) l may s = s
called_tells t h c ticket ps acc size ch ws o (call.Observe id name to) (answer.Removed n) l may s = s
called_tells t h c ticket ps acc size ch ws o (call.Observe id name to) (answer.Event e) l may s = s
called_tells t h c ticket ps acc size ch ws o (call.Unobserve id) a l may s = same_tells ps acc size ch ws _ o l _ (ap (λ (us : List Seen). filter (λ (w : Seen). not (w.id == id)) us) s.seen) s
called_tells t h c ticket ps acc size ch ws o (call.Event n on) answer.Ok l may s = record {
  events = s.events;
  kinds = s.kinds;
  sized = s.sized;
  chokes = s.chokes;
  seen = s.seen;
  offs = λ m. any_switched n m on l.off s.once ∙ ap (λ (b : Bool). if n == m then not on else b) (s.offs m);
  once = once_switched n on l.off s.once;
}
called_tells t h c ticket ps acc size ch ws o (call.Event n on) (answer.Refused m) l may s = s
called_tells t h c ticket ps acc size ch ws o (call.Event n on) (answer.Removed m) l may s = s
called_tells t h c ticket ps acc size ch ws o (call.Event n on) (answer.Event e) l may s = s
called_tells t h c ticket ps acc size ch ws o (call.Command id words) a l may s = s
called_tells t h c ticket ps acc size ch ws o (call.Get id name to) a l may s = s
called_tells t h c ticket ps acc size ch ws o (call.Set id name v) a l may s = s
called_tells t h c ticket ps acc size ch ws o (call.Abort id) a l may s = s

asked_tells : (ps acc : List Event) (size : ℕ) (ch : Bool) (ws : List Seen) (o : ℕ → Bool) (ticket : Option ℕ) (l : Life) → Tells ps acc size ch ws o l → Tells ps acc size ch ws o (life_asked ticket l)
asked_tells ps acc size ch ws o None l s = s
asked_tells ps acc size ch ws o (Some n) l s = record { events = s.events; kinds = s.kinds; sized = s.sized; chokes = s.chokes; seen = s.seen; offs = s.offs; once = s.once }

-- ---- a reply's kind

reply_enters : (x : Call) (error : ℤ) (v : Value) → Enters (reply_of x error v)
reply_enters (call.Get id name format) error v = refl
reply_enters (call.Set id name y) error v = refl
reply_enters (call.Command id words) error v = refl
reply_enters call.Poll error v = refl
reply_enters (call.Observe id name format) error v = refl
reply_enters (call.Unobserve id) error v = refl
reply_enters (call.Event n on) error v = refl
reply_enters (call.Abort id) error v = refl

worked_enters : (c : ClientNo) (n : ℕ) (e : Event) (error : ℤ) (v : Value) (w : Option Request) → IsSomeAnd w (λ q. IsReply c n e q error v) → Enters e
worked_enters c n e error v None s = absurd s
worked_enters c n e error v (Some q) s = subst Enters (sym s.same) (reply_enters q.call error v)

due_enters : (t : Table) (h : List CoreRecord) (c : ClientNo) (n : ℕ) (e : Event) (ds : List Request) → MayReply t h ds c n e → Enters e
due_enters t h c n e [] may = worked_enters c n e (worked_error t h) (deed_value (last_deed t h)) (worked h) may.reply
due_enters t h c n e (q ∷ qs) may = subst Enters (sym may.same) (reply_enters q.call generic_error value.None)

pub reply_kind : (t : Table) (h : List CoreRecord) (c : ClientNo) (n : ℕ) (e : Event) → MayReply t h (due h) c n e → enters_ring e ≡ true
reply_kind t h c n e may = due_enters t h c n e (due h) may

-- ---- every journal

map_some : (P Q : Life → Type 0) (f : Life → Life) (o : Option Life) → ((l : Life) → P l → Q (f l)) → IfSome o P → IfSome (option_map f o) Q
map_some P Q f None s p = tt
map_some P Q f (Some l) s p = s l p

map_may : (P Q : Life → Type 0) (M : Life → Type 0) (f : Life → Life) (o : Option Life) → ((l : Life) → M l → P l → Q (f l)) → IsSomeAnd o M → IfSome o P → IfSome (option_map f o) Q
map_may P Q M f None s m p = absurd m
map_may P Q M f (Some l) s m p = s l m p

by_test : (F : Bool → Type 0) (b : Bool) → (b ≡ true → F true) → (b ≡ false → F false) → F b
by_test F true f g = f refl
by_test F false f g = g refl

pub told : (t : Table) (c : ℕ) (h : List CoreRecord) → IsAllowed t h → IfSome (life_of t c h) (IsTold t c h)
told t c [] all = tt
told t c (Created by d name size ∷ h) all = by_test (λ b.
    IfSome (if b then Some (new_life name size) else life_of t c h)
    (λ l. Tells (if b then [] else polled c h) (if b then [] else accepted c h) (if b then size else size_of c h) (if b then false else choked c h)
    (if b then [] else watches t c h) (λ n. if b then false else off c n h) l))
    (d.0 == c)
    (λ y. record { events = refl; kinds = tt; sized = refl; chokes = refl; seen = refl; offs = λ n. refl; once = tt })
    (λ k. told t c h all.1)
told t c (Destroyed by d ∷ h) all = by_test (λ b. IfSome (if b then None else life_of t c h) (IsTold t c h)) (d.0 == c) (λ y. tt) (λ k. told t c h all.1)
told t c (Called by d ticket x a ∷ h) all = by_test (λ b.
    IfSome (if b then option_map (λ (l : Life). life_asked ticket (life_called t (facts_of t h) x a l)) (life_of t c h) else life_of t c h)
    (λ l. Tells (if b then put (ring_event x a) (polled c h) else polled c h) (accepted c h) (size_of c h) (if b && is_overflow x a then false else choked c h)
    (if b then watched t (facts_of t h) x a (watches t c h) else watches t c h) (λ n. if b then off_by n x a (off c n h) else off c n h) l))
    (d.0 == c)
    (λ y. let may = subst (λ (k : ℕ). IsSomeAnd (life_of t k h) (MayCall t h d ticket x a)) (eqb-true d.0 c y) all.0.0 in
    map_may (IsTold t c h) (CallTold t (facts_of t h) (polled c h) (accepted c h) (size_of c h) (choked c h) (watches t c h) (λ n. off c n h) x a)
    (MayCall t h d ticket x a) (λ (l : Life). life_asked ticket (life_called t (facts_of t h) x a l)) (life_of t c h)
    (λ l m p. asked_tells (put (ring_event x a) (polled c h)) (accepted c h) (size_of c h) (if is_overflow x a then false else choked c h)
    (watched t (facts_of t h) x a (watches t c h)) (λ n. off_by n x a (off c n h)) ticket (life_called t (facts_of t h) x a l)
    (called_tells t h d ticket (polled c h) (accepted c h) (size_of c h) (choked c h) (watches t c h) (λ n. off c n h) x a l m p))
    may (told t c h all.1))
    (λ k. told t c h all.1)
told t c (Pushed by d x kept ∷ h) all = by_test (λ b.
    IfSome (if b then option_map (life_pushed kept x) (life_of t c h) else life_of t c h)
    (λ l. Tells (polled c h) (if b && kept then accepted c h ++ x ∷ [] else accepted c h) (size_of c h) (if b && not kept then true else choked c h)
    (watches t c h) (λ n. off c n h) l))
    (d.0 == c)
    (λ y. map_some (IsTold t c h)
    (λ l. Tells (polled c h) (if kept then accepted c h ++ x ∷ [] else accepted c h) (size_of c h) (if not kept then true else choked c h) (watches t c h) (λ n. off c n h) l)
    (life_pushed kept x) (life_of t c h)
    (λ l p. pushed_tells (polled c h) (accepted c h) (size_of c h) (choked c h) (watches t c h) (λ n. off c n h) kept x l (heard t h d x all.0.0.next).0 p)
    (told t c h all.1))
    (λ k. told t c h all.1)
told t c (Replied by d n x ∷ h) all = by_test (λ b.
    IfSome (if b then option_map (life_replied x) (life_of t c h) else life_of t c h)
    (λ l. Tells (polled c h) (if b then accepted c h ++ x ∷ [] else accepted c h) (size_of c h) (choked c h) (watches t c h) (λ m. off c m h) l))
    (d.0 == c)
    (λ y. map_some (IsTold t c h) (λ l. Tells (polled c h) (accepted c h ++ x ∷ []) (size_of c h) (choked c h) (watches t c h) (λ m. off c m h) l)
    (life_replied x) (life_of t c h)
    (λ l p. replied_tells (polled c h) (accepted c h) (size_of c h) (choked c h) (watches t c h) (λ m. off c m h) x l (reply_kind t h d n x all.0.0) p)
    (told t c h all.1))
    (λ k. told t c h all.1)
told t c (Learned by view ∷ h) all = told t c h all.1
told t c (Wrote by mask f ∷ h) all = told t c h all.1
told t c (Took by d n id ∷ h) all = told t c h all.1
told t c (Ordered by o ∷ h) all = told t c h all.1
told t c (Did by x ∷ h) all = told t c h all.1
