-- The polls of a client: its ring, its overflow and its observers together.
use Rattle.std.proofs.Common.{◌≡◌, ℕ, ◌<◌, inl, inr, Bool, true, false, List, [], ◌∷◌, length, take, Some, None, Result, Ok, Err, IfOk, refl, sym, ap, subst, ◌∙◌, arith}
use Rattle.std.specs.Prelude.{All, IsTrue, OnErr, slice_get}
use Rattle.std.specs.declared.alloc.AllocError.{AllocError}
use Rattle.std.proofs.lemmas.Bool.{cases_order}
use Rattle.circular_buffer.proofs.Places.{slice_get-take}
use Rattle.mc_ring.specs.Event.{enters_ring}
use Rattle.mc_ring.specs.Ring.{after_pop, oldest, with_choked}
use Rattle.mc_ring.specs.declared.event.Event.{Event}
use Rattle.mc_ring.specs.declared.event.Event.TheVariants.{None as Nothing, Overflow}
use Rattle.mc_props.specs.declared.facts.Facts.{Facts}
use Rattle.mc_props.specs.declared.entries.PropEntry.{PropEntry}
use Rattle.mc_props.specs.declared.reading.Reading.{Reading}
use Rattle.mc_client.specs.Client.{ClientState, with_ring, with_watches}
use Rattle.mc_client.specs.Polls.{IsFirst, Polled, PolledBy, WatchesPolled, WouldPoll, change_of}
use Rattle.mc_client.specs.Watches.{Fresh, IsSettled, Shown, present}
use Rattle.mc_client.specs.declared.watch.Watch.{Watch}
use Rattle.mc_client.proofs.Polling.{of_one, quiet, stays_fresh}

-- ---- a poll keeps a client fresh

fresh_by : (stated : ℕ → Facts → Reading) (entries : List PropEntry) (facts : Facts) (s : ClientState) (es : List Event) (choked : Bool) (e : Event) (s' : ClientState)
    → Fresh stated entries facts s.watches → PolledBy (present stated facts) s es choked e s' → Fresh stated entries facts s'.watches
fresh_by stated entries facts s (x ∷ xs) choked e s' h p = subst (λ (c : ClientState). Fresh stated entries facts c.watches) (sym p.1) h
fresh_by stated entries facts s [] true e s' h p = subst (λ (c : ClientState). Fresh stated entries facts c.watches) (sym p.1) h
fresh_by stated entries facts s [] false e s' h p =
    subst (λ (c : ClientState). Fresh stated entries facts c.watches) (sym p.2) (stays_fresh stated entries facts s.watches e p.0 h p.1)

pub fresh_after : (stated : ℕ → Facts → Reading) (entries : List PropEntry) (facts : Facts) (s s' : ClientState) (r : Result Event AllocError)
    → Fresh stated entries facts s.watches → IfOk r (λ e. Polled (present stated facts) s e s') → OnErr r (s' ≡ s) → Fresh stated entries facts s'.watches
fresh_after stated entries facts s s' (Ok e) h p same = fresh_by stated entries facts s s.ring.events s.ring.choked e s' h p
fresh_after stated entries facts s s' (Err e) h p same = subst (λ (c : ClientState). Fresh stated entries facts c.watches) (sym same) h

-- ---- no event means that each observer was last given what it has

settled_by : (stated : ℕ → Facts → Reading) (facts : Facts) (s : ClientState) (es : List Event) (choked : Bool) (e : Event) (s' : ClientState)
    → PolledBy (present stated facts) s es choked e s' → (0 < length es → IsTrue (enters_ring e)) → e ≡ Nothing → All (IsSettled (present stated facts)) s'.watches
settled_by stated facts s (x ∷ xs) choked e s' p kind is = absurd (let k = kind (omega arith) in let n : enters_ring e ≡ false = ap enters_ring is in cc)
settled_by stated facts s [] true e s' p kind is = absurd (let o = p.0 in cc)
settled_by stated facts s [] false e s' p kind is =
    subst (λ (c : ClientState). All (IsSettled (present stated facts)) c.watches) (sym p.2) (quiet stated facts s.watches e p.0 p.1 is)

pub settled_after : (stated : ℕ → Facts → Reading) (facts : Facts) (s s' : ClientState) (r : Result Event AllocError) → IfOk r (λ e. Polled (present stated facts) s e s')
    → IfOk r (λ e. 0 < length s.ring.events → IsTrue (enters_ring e)) → IfOk r (λ e. e ≡ Nothing → All (IsSettled (present stated facts)) s'.watches)
settled_after stated facts s s' (Ok e) p kind = settled_by stated facts s s.ring.events s.ring.choked e s' p kind
settled_after stated facts s s' (Err e) p kind = tt

-- ---- a poll has one answer

settled_before : (now : Watch → Shown) (ws : List Watch) (place k : ℕ) (w : Watch) → All (IsSettled now) (take place ws) → slice_get ws k ≡ Some w → k < place → IsSettled now w
settled_before now ws place k w all e lt = of_one (IsSettled now) (take place ws) k w (slice_get-take place ws k lt ∙ e) all

same_first : (now : Watch → Shown) (ws : List Watch) (p q : ℕ) (w v : Watch) → IsFirst now ws p w → IsFirst now ws q v → w ≡ v
same_first now ws p q w v f g = elim (cases_order p q) [
  | inl e ↦ let h = f.stands in let i = g.stands in let j : slice_get ws p ≡ slice_get ws q = ap (λ k. slice_get ws k) e in cc
  | inr (inl lt) ↦ absurd (f.changed (settled_before now ws q p w g.before f.stands lt))
  | inr (inr lt) ↦ absurd (g.changed (settled_before now ws p q v f.before g.stands lt))
]

sole_change : (now : Watch → Shown) (ws : List Watch) (e r : Event) (a b : List Watch) → WatchesPolled now ws e a → WatchesPolled now ws r b → e ≡ r
sole_change now ws e r a b (inl t) (inl u) =
    t.event ∙ ap (λ (w : Watch). change_of w (now w)) (same_first now ws t.place u.place t.watch u.watch t.first u.first) ∙ sym u.event
sole_change now ws e r a b (inl t) (inr q) = absurd (t.first.changed (of_one (IsSettled now) ws t.place t.watch t.first.stands q.settled))
sole_change now ws e r a b (inr q) (inl u) = absurd (u.first.changed (of_one (IsSettled now) ws u.place u.watch u.first.stands q.settled))
sole_change now ws e r a b (inr q) (inr p) = q.event ∙ sym p.event

sole_by : (now : Watch → Shown) (s : ClientState) (es : List Event) (choked : Bool) (e r : Event) (a b : ClientState)
    → PolledBy now s es choked e a → PolledBy now s es choked r b → e ≡ r
sole_by now s (x ∷ xs) choked e r a b p q = p.0 ∙ sym q.0
sole_by now s [] true e r a b p q = p.0 ∙ sym q.0
sole_by now s [] false e r a b p q = sole_change now s.watches e r p.0 q.0 p.1 q.1

pub sole : (now : Watch → Shown) (s : ClientState) (r : Result Event AllocError) → IfOk r (λ e. WouldPoll now s e)
    → IfOk r (λ x. (e : Event) (after : ClientState) → Polled now s e after → e ≡ x)
sole now s (Ok x) would = λ e after p. sole_by now s s.ring.events s.ring.choked e x after would.0 p would.1
sole now s (Err x) would = tt

-- ---- what a poll would answer

first_by : (now : Watch → Shown) (s : ClientState) (es : List Event) (choked : Bool) (x e : Event) → slice_get es 0 ≡ Some x → e ≡ x
    → PolledBy now s es choked e (with_ring s (after_pop s.ring))
first_by now s [] choked x e is same = absurd cc
first_by now s (y ∷ ys) choked x e is same = (let h : y ≡ x = cc in same ∙ sym h, refl)

pub would_pop : (now : Watch → Shown) (s : ClientState) (x : Event) → oldest s.ring ≡ Some x → (r : Result Event AllocError) → IfOk r (λ e. e ≡ x) → IfOk r (λ e. WouldPoll now s e)
would_pop now s x is (Ok e) same = (with_ring s (after_pop s.ring), first_by now s s.ring.events s.ring.choked x e is same)
would_pop now s x is (Err e) same = tt

overflow_by : (now : Watch → Shown) (s : ClientState) (es : List Event) (choked : Bool) → slice_get es 0 ≡ None → choked ≡ true
    → PolledBy now s es choked Overflow (with_ring s (with_choked s.ring false))
overflow_by now s (x ∷ xs) choked none is = absurd cc
overflow_by now s [] true none is = (refl, refl)
overflow_by now s [] false none is = absurd cc

pub would_overflow : (now : Watch → Shown) (s : ClientState) → oldest s.ring ≡ None → s.ring.choked ≡ true → WouldPoll now s Overflow
would_overflow now s none is = (with_ring s (with_choked s.ring false), overflow_by now s s.ring.events s.ring.choked none is)

change_by : (now : Watch → Shown) (s : ClientState) (es : List Event) (choked : Bool) (e : Event) (ws : List Watch) → slice_get es 0 ≡ None → choked ≡ false
    → WatchesPolled now s.watches e ws → PolledBy now s es choked e (with_watches s ws)
change_by now s (x ∷ xs) choked e ws none is p = absurd cc
change_by now s [] true e ws none is p = absurd cc
change_by now s [] false e ws none is p = (ws, p, refl)

pub would_change : (now : Watch → Shown) (s : ClientState) → oldest s.ring ≡ None → s.ring.choked ≡ false
    → (r : Result Event AllocError) → IfOk r (λ e. (ws : List Watch) × WatchesPolled now s.watches e ws) → IfOk r (λ e. WouldPoll now s e)
would_change now s none is (Ok e) p = (with_watches s p.0, change_by now s s.ring.events s.ring.choked e p.0 none is p.1)
would_change now s none is (Err e) p = tt
