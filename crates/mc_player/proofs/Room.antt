-- What a ring holds and what is set aside in it fits.
use Rattle.std.proofs.Common.{◌≡◌, ℕ, ◌+◌, ◌-◌, ◌<◌, ◌≤◌, ◌==◌, inl, inr, Bool, true, false, not, List, [], ◌∷◌, ◌++◌, length, drop, Option, Some, None, refl, sym, ap, subst, ◌∙◌, arith, length-append}
use Rattle.std.specs.Prelude.{IfSome, IsSomeAnd, is_some}
use Rattle.std.specs.Bool.{MatchBool}
use Rattle.std.specs.Option.{option_map}
use Rattle.std.proofs.lemmas.Bool.{cases_Bool, cases_lt, eqb-true, eqb-false, or_parts, not-true}
use Rattle.mc_dispatch.specs.declared.call.Call.{Call}
use Rattle.mc_dispatch.specs.declared.call.Call.TheVariants as call
use Rattle.mc_dispatch.specs.declared.request.ClientNo.{ClientNo}
use Rattle.mc_ring.specs.Ring.{RingState, is_full}
use Rattle.mc_ring.specs.declared.event.Event.{Event}
use Rattle.mc_ring.specs.declared.event.Event.TheVariants as event
use Rattle.mc_props.specs.declared.facts.Facts.{Facts}
use Rattle.mc_player.specs.declared.record.Answer.{Answer}
use Rattle.mc_player.specs.declared.record.Answer.TheVariants as answer
use Rattle.mc_player.specs.declared.record.CoreRecord.{CoreRecord}
use Rattle.mc_player.specs.declared.record.CoreRecord.TheVariants.{Created, Destroyed, Called, Learned, Wrote, Took, Ordered, Did, Pushed, Replied}
use Rattle.mc_player.specs.Facts.{facts_of, life_of}
use Rattle.mc_player.specs.Lives.{Life, Table, life_asked, life_called, life_polled, life_pushed, life_replied}
use Rattle.mc_player.specs.Laws.{AtEach, IsFifo}
use Rattle.mc_player.specs.Rings.{accepted, full, held, polled, reserved, size_of}
use Rattle.mc_player.specs.Rules.{IsAccepted, IsAllowed, IsAnswered, MayCall, answer_of, is_bad, is_request}
use Rattle.mc_player.specs.Waiting.{set_aside}
use Rattle.mc_player.proofs.Owed.{owed_count}
use Rattle.mc_player.proofs.Telling.{IsTold, told}
use Rattle.mc_player.proofs.Waits.{has_alive, has_place, some_alive, waits}

-- ---- room

abbrev pub HasRoom : Life → Type 0
HasRoom l = length l.ring.events + l.ring.reserved ≤ l.ring.size

-- a ring that is not full has a place more
more_room : (r : RingState) → length r.events + r.reserved ≤ r.size → is_full r ≡ false → length r.events + r.reserved < r.size
more_room r fits n =
    let p = or_parts (length r.events + r.reserved == r.size) r.choked n in
    let d = eqb-false (length r.events + r.reserved) r.size p.0 in
    elim (cases_lt (length r.events + r.reserved) r.size) [ inl l ↦ l | inr g ↦ absurd (d (omega (arith, fits, g))) ]

drop_length : {X : Type 0} (xs : List X) → length (drop 1 xs) ≤ length xs
drop_length [] = omega arith
drop_length (x ∷ xs) = omega arith

polled_room : (t : Table) (f : Facts) (e : Event) (l : Life) → HasRoom l → HasRoom (life_polled t f e l)
polled_room t f event.None l r = r
polled_room t f event.Overflow l r = r
polled_room t f (event.Change id name format v) l r = r
polled_room t f event.Shutdown l r = let d = drop_length l.ring.events in omega (arith, r, d)
polled_room t f (event.GetReply id error v) l r = let d = drop_length l.ring.events in omega (arith, r, d)
polled_room t f (event.SetReply id error) l r = let d = drop_length l.ring.events in omega (arith, r, d)
polled_room t f (event.CommandReply id error) l r = let d = drop_length l.ring.events in omega (arith, r, d)
polled_room t f event.StartFile l r = let d = drop_length l.ring.events in omega (arith, r, d)
polled_room t f (event.EndFile reason) l r = let d = drop_length l.ring.events in omega (arith, r, d)
polled_room t f event.FileLoaded l r = let d = drop_length l.ring.events in omega (arith, r, d)
polled_room t f (event.Message words) l r = let d = drop_length l.ring.events in omega (arith, r, d)
polled_room t f event.Seek l r = let d = drop_length l.ring.events in omega (arith, r, d)
polled_room t f event.PlaybackRestart l r = let d = drop_length l.ring.events in omega (arith, r, d)

called_room : (t : Table) (f : Facts) (x : Call) (a : Answer) (l : Life) → HasRoom l → HasRoom (life_called t f x a l)
called_room t f call.Poll (answer.Event e) l r = polled_room t f e l r
called_room t f call.Poll answer.Ok l r = r
called_room t f call.Poll (answer.Refused n) l r = r
called_room t f call.Poll (answer.Removed n) l r = r
called_room t f (call.Observe id name format) answer.Ok l r = r
called_room t f (call.Observe id name format) (answer.Refused n) l r = r
called_room t f (call.Observe id name format) (answer.Removed n) l r = r
called_room t f (call.Observe id name format) (answer.Event e) l r = r
called_room t f (call.Unobserve id) a l r = r
called_room t f (call.Event n on) answer.Ok l r = r
called_room t f (call.Event n on) (answer.Refused m) l r = r
called_room t f (call.Event n on) (answer.Removed m) l r = r
called_room t f (call.Event n on) (answer.Event e) l r = r
called_room t f (call.Command id words) a l r = r
called_room t f (call.Get id name format) a l r = r
called_room t f (call.Set id name v) a l r = r
called_room t f (call.Abort id) a l r = r

-- an accepted request found the ring not full, and leaves it else as it was
abbrev IsFree : Option ℕ → Bool → Type 0
IsFree ticket full = IfSome ticket (λ n. full ≡ false)

none_free : (ticket : Option ℕ) (b : Bool) → ticket ≡ None → IsFree ticket b
none_free None b e = tt
none_free (Some n) b e = absurd (cc)

by_fullness : (h : List CoreRecord) (ticket : Option ℕ) (a b : Answer) (f : Bool) → MatchBool f (IsAnswered ticket a b) (IsAccepted h ticket a) → IsFree ticket f
by_fullness h ticket a b true may = none_free ticket true may.untold
by_fullness h None a b false may = tt
by_fullness h (Some n) a b false may = refl

by_kind : (h : List CoreRecord) (ticket : Option ℕ) (a b c d : Answer) (asks bad f : Bool)
    → MatchBool asks (MatchBool bad (IsAnswered ticket a b) (MatchBool f (IsAnswered ticket a d) (IsAccepted h ticket a))) (IsAnswered ticket a c) → IsFree ticket f
by_kind h ticket a b c d true true f may = none_free ticket f may.untold
by_kind h ticket a b c d true false f may = by_fullness h ticket a d f may
by_kind h ticket a b c d false bad f may = none_free ticket f may.untold

call_free : (t : Table) (h : List CoreRecord) (c : ClientNo) (ticket : Option ℕ) (x : Call) (a : Answer) (l : Life) → MayCall t h c ticket x a l → IsFree ticket (is_full l.ring)
call_free t h c ticket x a l may = by_kind h ticket a _ (answer_of t h c l x) _ (is_request x) (is_bad x) (is_full l.ring) may

some_none : (n : ℕ) → ◌≡◌ {A = Option ℕ} (Some n) None → ⊥
some_none n e = cc

-- a call with a ticket leaves the ring but for the place
asked_room : (t : Table) (h : List CoreRecord) (c : ClientNo) (ticket : Option ℕ) (x : Call) (a : Answer) (l : Life) → MayCall t h c ticket x a l → HasRoom l
    → HasRoom (life_asked ticket (life_called t (facts_of t h) x a l))
asked_room t h c None x a l may r = called_room t (facts_of t h) x a l r
asked_room t h c (Some n) (call.Command id words) a l may r = let m = more_room l.ring r (call_free t h c (Some n) (call.Command id words) a l may) in omega (arith, m)
asked_room t h c (Some n) (call.Get id name to) a l may r = let m = more_room l.ring r (call_free t h c (Some n) (call.Get id name to) a l may) in omega (arith, m)
asked_room t h c (Some n) (call.Set id name v) a l may r = let m = more_room l.ring r (call_free t h c (Some n) (call.Set id name v) a l may) in omega (arith, m)
asked_room t h c (Some n) call.Poll a l may r = absurd (some_none n may.untold)
asked_room t h c (Some n) (call.Observe id name to) a l may r = absurd (some_none n may.untold)
asked_room t h c (Some n) (call.Unobserve id) a l may r = absurd (some_none n may.untold)
asked_room t h c (Some n) (call.Event m on) a l may r = absurd (some_none n may.untold)
asked_room t h c (Some n) (call.Abort id) a l may r = absurd (some_none n may.untold)

pushed_room : (kept : Bool) (e : Event) (l : Life) → kept ≡ not (is_full l.ring) → HasRoom l → HasRoom (life_pushed kept e l)
pushed_room true e l is r =
    let m = more_room l.ring r (not-true (is_full l.ring) (sym is)) in
    let a = length-append l.ring.events (e ∷ []) in
    omega (arith, m, a)
pushed_room false e l is r = r

replied_room : (e : Event) (l : Life) → 0 < l.ring.reserved → HasRoom l → HasRoom (life_replied e l)
replied_room e l p r = let a = length-append l.ring.events (e ∷ []) in omega (arith, p, r, a)

by_may : (P M : Life → Type 0) (f : Life → Life) (o : Option Life) → ((l : Life) → M l → P l → P (f l)) → IsSomeAnd o M → IfSome o P → IfSome (option_map f o) P
by_may P M f None s m p = absurd m
by_may P M f (Some l) s m p = s l m p

by_place : (P : Life → Type 0) (f : Life → Life) (o : Option Life) → ((l : Life) → 0 < l.ring.reserved → P l → P (f l)) → 0 < set_aside o → IfSome o P → IfSome (option_map f o) P
by_place P f None s m p = tt
by_place P f (Some l) s m p = s l m p

pub roomy : (t : Table) (c : ℕ) (h : List CoreRecord) → IsAllowed t h → IfSome (life_of t c h) HasRoom
roomy t c [] all = tt
roomy t c (Created by d name size ∷ h) all = let e = roomy t c h all.1 in elim (cases_Bool (d.0 == c)) [ inl y ↦ rw y (omega arith) | inr k ↦ rw k e ]
roomy t c (Destroyed by d ∷ h) all = let e = roomy t c h all.1 in elim (cases_Bool (d.0 == c)) [ inl y ↦ rw y tt | inr k ↦ rw k e ]
roomy t c (Called by d ticket x a ∷ h) all =
    let e = roomy t c h all.1 in
    elim (cases_Bool (d.0 == c)) [
      | inl y ↦
          let may = subst (λ (k : ℕ). IsSomeAnd (life_of t k h) (MayCall t h d ticket x a)) (eqb-true d.0 c y) all.0.0 in
          let g = by_may HasRoom (MayCall t h d ticket x a) (λ (l : Life). life_asked ticket (life_called t (facts_of t h) x a l)) (life_of t c h) (λ l m r. asked_room t h d ticket x a l m r) may e in
          rw y g
      | inr k ↦ rw k e
    ]
roomy t c (Pushed by d x kept ∷ h) all =
    let e = roomy t c h all.1 in
    elim (cases_Bool (d.0 == c)) [
      | inl y ↦
          let fate = subst (λ (k : ℕ). IsSomeAnd (life_of t k h) (λ (l : Life). kept ≡ not (is_full l.ring))) (eqb-true d.0 c y) all.0.0.fate in
          let g = by_may HasRoom (λ (l : Life). kept ≡ not (is_full l.ring)) (life_pushed kept x) (life_of t c h) (λ l m r. pushed_room kept x l m r) fate e in
          rw y g
      | inr k ↦ rw k e
    ]
roomy t c (Replied by d n x ∷ h) all =
    let e = roomy t c h all.1 in
    elim (cases_Bool (d.0 == c)) [
      | inl y ↦
          let place = subst (λ (k : ℕ). 0 < set_aside (life_of t k h)) (eqb-true d.0 c y) (has_place t h d n x all.1 all.0.0) in
          let g = by_place HasRoom (life_replied x) (life_of t c h) (λ l p r. replied_room x l p r) place e in
          rw y g
      | inr k ↦ rw k e
    ]
roomy t c (Learned by view ∷ h) all = roomy t c h all.1
roomy t c (Wrote by mask f ∷ h) all = roomy t c h all.1
roomy t c (Took by d n id ∷ h) all = roomy t c h all.1
roomy t c (Ordered by o ∷ h) all = roomy t c h all.1
roomy t c (Did by x ∷ h) all = roomy t c h all.1

-- ---- the words of records

begun_held : (ps es acc : List Event) → ps ++ es ≡ acc → length acc - length ps ≡ length es
begun_held ps es acc e = let l : length ps + length es ≡ length acc = sym (length-append ps es) ∙ ap (λ (xs : List Event). length xs) e in omega (arith, l)

-- a ring's numbers, read off the records
pub record IsCounted (t : Table) (c : ℕ) (h : List CoreRecord) (l : Life) : Type 0 where
  pub holds : held c h ≡ length l.ring.events
  pub aside : reserved c h ≡ l.ring.reserved
  pub fills : full c h ≡ is_full l.ring

counted_one : (t : Table) (c : ℕ) (h : List CoreRecord) (l : Life) → IsTold t c h l → reserved c h ≡ l.ring.reserved → IsCounted t c h l
counted_one t c h l s r =
    let holds : held c h ≡ length l.ring.events = begun_held (polled c h) l.ring.events (accepted c h) s.events in
    record { holds = holds; aside = r; fills = rw (holds, r, sym s.sized, sym s.chokes) refl }

counted_by : (t : Table) (c : ℕ) (h : List CoreRecord) (o : Option Life) → IfSome o (IsTold t c h) → reserved c h ≡ set_aside o → IfSome o (IsCounted t c h)
counted_by t c h None s r = tt
counted_by t c h (Some l) s r = counted_one t c h l s r

pub aside : (t : Table) (c : ℕ) (h : List CoreRecord) → IsAllowed t h → reserved c h ≡ set_aside (life_of t c h)
aside t c h all = owed_count t h c all ∙ sym (waits t h all c)

pub counted : (t : Table) (c : ℕ) (h : List CoreRecord) → IsAllowed t h → IfSome (life_of t c h) (IsCounted t c h)
counted t c h all = counted_by t c h (life_of t c h) (told t c h all) (aside t c h all)

-- ---- what polls answered begins what the ring took

living_fifo : (t : Table) (c : ℕ) (h : List CoreRecord) (o : Option Life) → IfSome o (IsTold t c h) → IfSome o (IsCounted t c h) → IfSome o HasRoom → is_some o ≡ true → IsFifo c h
living_fifo t c h None s k r alive = absurd (cc)
living_fifo t c h (Some l) s k r alive =
    let holds = k.holds in let aside = k.aside in let sized = s.sized in
    record { begun = (l.ring.events, s.events); room = omega (arith, holds, aside, r, sized) }

living : (t : Table) (c : ℕ) (h : List CoreRecord) → IsAllowed t h → is_some (life_of t c h) ≡ true → IsFifo c h
living t c h all alive = living_fifo t c h (life_of t c h) (told t c h all) (counted t c h all) (roomy t c h all) alive

mapped_alive : (f : Life → Life) (o : Option Life) → is_some o ≡ true → is_some (option_map f o) ≡ true
mapped_alive f None e = absurd (cc)
mapped_alive f (Some l) e = refl

gone_fifo : (c : ℕ) (h h' : List CoreRecord) → polled c h' ≡ polled c h → accepted c h' ≡ accepted c h → size_of c h' ≡ size_of c h → reserved c h' ≤ reserved c h → IsFifo c h → IsFifo c h'
gone_fifo c h h' p a s r f = record {
  begun = (f.begun.0, rw (p, a) f.begun.1);
  room = let room = f.room in rw (p, a, s) (omega (arith, r, room));
}

pub fifo : (t : Table) (c : ℕ) (h : List CoreRecord) → IsAllowed t h → IsFifo c h
fifo t c [] all = record { begun = ([], refl); room = omega arith }
fifo t c (Created by d name size ∷ h) all = elim (cases_Bool (d.0 == c)) [
  | inl y ↦ living t c (Created by d name size ∷ h) all (rw y refl)
  | inr k ↦ gone_fifo c h (Created by d name size ∷ h) (rw k refl) (rw k refl) (rw k refl) (omega arith) (fifo t c h all.1)
]
fifo t c (Destroyed by d ∷ h) all =
    gone_fifo c h (Destroyed by d ∷ h) refl refl refl (elim (cases_Bool (d.0 == c)) [ inl y ↦ rw y (omega arith) | inr k ↦ rw k (omega arith) ]) (fifo t c h all.1)
fifo t c (Called by d ticket x a ∷ h) all = elim (cases_Bool (d.0 == c)) [
  | inl y ↦
      let alive = subst (λ (k : ℕ). is_some (life_of t k h) ≡ true) (eqb-true d.0 c y) (some_alive (life_of t d.0 h) _ all.0.0) in
      let g = mapped_alive (λ (l : Life). life_asked ticket (life_called t (facts_of t h) x a l)) (life_of t c h) alive in
      living t c (Called by d ticket x a ∷ h) all (rw y g)
  | inr k ↦ gone_fifo c h (Called by d ticket x a ∷ h) (rw k refl) refl refl (rw k (omega arith)) (fifo t c h all.1)
]
fifo t c (Pushed by d x kept ∷ h) all = elim (cases_Bool (d.0 == c)) [
  | inl y ↦
      let alive = subst (λ (k : ℕ). is_some (life_of t k h) ≡ true) (eqb-true d.0 c y) (some_alive (life_of t d.0 h) _ all.0.0.fate) in
      let g = mapped_alive (life_pushed kept x) (life_of t c h) alive in
      living t c (Pushed by d x kept ∷ h) all (rw y g)
  | inr k ↦ gone_fifo c h (Pushed by d x kept ∷ h) refl (rw k refl) refl (omega arith) (fifo t c h all.1)
]
fifo t c (Replied by d n x ∷ h) all = elim (cases_Bool (d.0 == c)) [
  | inl y ↦
      let alive = subst (λ (k : ℕ). is_some (life_of t k h) ≡ true) (eqb-true d.0 c y) (has_alive (life_of t d.0 h) (has_place t h d n x all.1 all.0.0)) in
      let g = mapped_alive (life_replied x) (life_of t c h) alive in
      living t c (Replied by d n x ∷ h) all (rw y g)
  | inr k ↦ gone_fifo c h (Replied by d n x ∷ h) refl (rw k refl) refl (rw k (omega arith)) (fifo t c h all.1)
]
fifo t c (Learned by view ∷ h) all = gone_fifo c h (Learned by view ∷ h) refl refl refl (omega arith) (fifo t c h all.1)
fifo t c (Wrote by mask f ∷ h) all = gone_fifo c h (Wrote by mask f ∷ h) refl refl refl (omega arith) (fifo t c h all.1)
fifo t c (Took by d n id ∷ h) all = gone_fifo c h (Took by d n id ∷ h) refl refl refl (omega arith) (fifo t c h all.1)
fifo t c (Ordered by o ∷ h) all = gone_fifo c h (Ordered by o ∷ h) refl refl refl (omega arith) (fifo t c h all.1)
fifo t c (Did by x ∷ h) all = gone_fifo c h (Did by x ∷ h) refl refl refl (omega arith) (fifo t c h all.1)

pub fifos : (t : Table) (h : List CoreRecord) → IsAllowed t h → (c : ℕ) → AtEach (IsFifo c) h
fifos t [] all c = fifo t c [] all
fifos t (r ∷ h) all c = (fifo t c (r ∷ h) all, fifos t h all.1 c)
