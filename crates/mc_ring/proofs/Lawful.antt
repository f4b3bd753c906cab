-- Every list of allowed calls of a new ring keeps the law.
use Rattle.std.proofs.Common.{◌≡◌, ℕ, ◌+◌, ◌-◌, ◌<◌, ◌≤◌, ◌==◌, true, false, List, [], ◌∷◌, ◌++◌, length, drop, arith, refl, ap, subst, sym, ◌∙◌, ◌⊎◌, inl, inr, zero, suc, length-append, length-drop}
use Rattle.std.specs.Prelude.{Contains, slice_get}
use Rattle.std.proofs.lemmas.Bool.{cases_Bool, or_right, or_parts, eqb-false}
use Rattle.std.proofs.lemmas.List.{append_assoc, append-nil}
use Rattle.std.proofs.lemmas.List.Elements.{Contains-append_left, Contains-append_right, Contains-append_cases}
use Rattle.mc_ring.specs.Ring.{RingState, is_full, new_ring}
use Rattle.mc_ring.specs.Law.{IsAllowed, answer, after, Told, Runs, left_by, kept_by, popped_by, kept, popped, accepted_by, ended_by, accepted, ended, drops, keeps, tells, KeepsLaw}
use Rattle.mc_ring.specs.declared.event.Event.{Event}
use Rattle.mc_ring.specs.declared.ring.Pushed.TheVariants.{Kept, Dropped}
use Rattle.mc_ring.specs.declared.calls.RingCall.{RingCall}
use Rattle.mc_ring.specs.declared.calls.RingCall.TheVariants.{Reserve, Unreserve, PushEvent, PushReply, Pop, TakeOverflow}
use Rattle.mc_ring.specs.declared.calls.RingAnswer.{RingAnswer}
use Rattle.mc_ring.specs.declared.calls.RingAnswer.TheVariants.{Reserved, PushedEvent, PushedReply, Popped}

-- ---- what was kept is what was popped, and then what is held

pop_held : (es : List Event) → es ++ [] ≡ popped_by (Pop, Popped (slice_get es 0)) ++ drop 1 es
pop_held [] = refl
pop_held (e ∷ es) = append-nil (e ∷ es)

held_step : (s : RingState) (c : RingCall) (a : RingAnswer) → a ≡ answer s c → s.events ++ kept_by (c, a) ≡ popped_by (c, a) ++ (after s c).events
held_step s Reserve a e = elim (cases_Bool (is_full s)) [ inl y ↦ rw y (append-nil s.events) | inr n ↦ rw n (append-nil s.events) ]
held_step s Unreserve a e = append-nil s.events
held_step s (PushEvent x) a e = elim (cases_Bool (is_full s)) [
  | inl y ↦ let f : a ≡ PushedEvent (Dropped x) = rw y at e in rw (f, y) (append-nil s.events)
  | inr n ↦ let f : a ≡ PushedEvent Kept = rw n at e in rw (f, n) refl
]
held_step s (PushReply x) a e = refl
held_step s Pop a e = rw e (pop_held s.events)
held_step s TakeOverflow a e = append-nil s.events

in_order : (s : RingState) (ts : List Told) → Runs s ts → s.events ++ kept ts ≡ popped ts ++ (left_by s ts).events
in_order s [] r = append-nil s.events
in_order s (t ∷ ts) r =
    let k = kept_by t in
    let p = popped_by t in
    let next = after s t.0 in
    sym (append_assoc s.events k (kept ts)) ∙ ap (λ es. es ++ kept ts) (held_step s t.0 t.1 r.1)
    ∙ append_assoc p next.events (kept ts) ∙ ap (λ es. p ++ es) (in_order next ts r.2) ∙ sym (append_assoc p (popped ts) (left_by next ts).events)

-- ---- each accepted request has its place until it ends

places_step : (s : RingState) (c : RingCall) (a : RingAnswer) → IsAllowed s c → a ≡ answer s c
    → accepted_by (c, a) + s.reserved ≡ ended_by (c, a) + (after s c).reserved
places_step s Reserve a may e = elim (cases_Bool (is_full s)) [
  | inl y ↦ let f = rw y at e in rw (f, y) refl
  | inr n ↦ let f : a ≡ Reserved = rw n at e in rw (f, n) (omega arith)
]
places_step s Unreserve a may e = let m : 0 < s.reserved = may in omega arith
places_step s (PushEvent x) a may e = elim (cases_Bool (is_full s)) [ inl y ↦ rw y refl | inr n ↦ rw n refl ]
places_step s (PushReply x) a may e = let m : 0 < s.reserved = may.0 in omega arith
places_step s Pop a may e = refl
places_step s TakeOverflow a may e = refl

in_place : (s : RingState) (ts : List Told) → Runs s ts → accepted ts + s.reserved ≡ ended ts + (left_by s ts).reserved
in_place s [] r = refl
in_place s (t ∷ ts) r =
    let one = places_step s t.0 t.1 r.0 r.1 in
    let more = in_place (after s t.0) ts r.2 in
    omega arith

-- ---- there is room for what is held and what has its place

abbrev pub Fits : RingState → ℕ → Type 0
Fits s size = (s.size ≡ size) × (length s.events + s.reserved ≤ size)

room_left : (s : RingState) (size : ℕ) → Fits s size → is_full s ≡ false → length s.events + s.reserved + 1 ≤ size
room_left s size f n =
    let apart : (length s.events + s.reserved == s.size) ≡ false = (or_parts (length s.events + s.reserved == s.size) s.choked n).0 in
    let same = f.0 in
    let fits = f.1 in
    let other = eqb-false (length s.events + s.reserved) s.size apart in
    omega arith

fits_step : (s : RingState) (size : ℕ) (c : RingCall) → IsAllowed s c → Fits s size → Fits (after s c) size
fits_step s size Reserve may f = elim (cases_Bool (is_full s)) [
  | inl y ↦ rw y f
  | inr n ↦ let l = room_left s size f n in rw n (f.0, omega arith)
]
fits_step s size Unreserve may f = let m = f.1 in (f.0, omega arith)
fits_step s size (PushEvent x) may f = elim (cases_Bool (is_full s)) [
  | inl y ↦ rw y f
  | inr n ↦ let l = room_left s size f n in let long : length (s.events ++ x ∷ []) ≡ length s.events + 1 = length-append s.events (x ∷ []) in rw n (f.0, omega arith)
]
fits_step s size (PushReply x) may f =
    let m : 0 < s.reserved = may.0 in
    let l = f.1 in
    let long : length (s.events ++ x ∷ []) ≡ length s.events + 1 = length-append s.events (x ∷ []) in
    (f.0, omega arith)
fits_step s size Pop may f = let l = f.1 in let short : length (drop 1 s.events) ≡ length s.events - 1 = length-drop 1 s.events in (f.0, omega arith)
fits_step s size TakeOverflow may f = f

fits : (s : RingState) (size : ℕ) (ts : List Told) → Runs s ts → Fits s size → Fits (left_by s ts) size
fits s size [] r f = f
fits s size (t ∷ ts) r f = fits (after s t.0) size ts r.2 (fits_step s size t.0 r.0 f)

-- ---- a pushed reply is among what was kept

reply_kept : (ts : List Told) (e : Event) → Contains ts (PushReply e, PushedReply) → Contains (kept ts) e
reply_kept [] e c = absurd (let l = c.1 in omega arith)
reply_kept (t ∷ ts) e c = elim (Contains-append_cases (t ∷ []) ts (PushReply e, PushedReply) c) [
  | inl h ↦ Contains-append_left (kept_by t) (kept ts) e (rw (the_one t (PushReply e, PushedReply) h) (0, omega arith, refl))
  | inr g ↦ Contains-append_right (kept_by t) (kept ts) e (reply_kept ts e g)
]
  where
    the_one : (x y : Told) → Contains (x ∷ []) y → x ≡ y
    the_one x y (zero, l, is) = is
    the_one x y (suc k, l, is) = absurd (omega arith)

-- ---- an overflow is told before another event is kept

later : (s : RingState) (a b : List Told) → Runs s (a ++ b) → Runs (left_by s a) b
later s [] b r = r
later s (t ∷ a) b r = later (after s t.0) a b r.2

choked_full : (s : RingState) → s.choked ≡ true → is_full s ≡ true
choked_full s c = or_right (length s.events + s.reserved == s.size) s.choked c

-- in a choked ring a call tells of the overflow, or the ring stays choked
stays_choked : (s : RingState) (c : RingCall) (a : RingAnswer) → a ≡ answer s c → s.choked ≡ true → ((c, a) ≡ tells) ⊎ ((after s c).choked ≡ true)
stays_choked s Reserve a e c = inr (rw (choked_full s c) c)
stays_choked s Unreserve a e c = inr c
stays_choked s (PushEvent x) a e c = inr (rw (choked_full s c) refl)
stays_choked s (PushReply x) a e c = inr c
stays_choked s Pop a e c = inr c
stays_choked s TakeOverflow a e c = inl (rw (e, c) refl)

told_first : (s : RingState) (between behind : List Told) (f : Event) → s.choked ≡ true → Runs s (between ++ keeps f ∷ behind) → Contains between tells
told_first s [] behind f c r = absurd (let full = choked_full s c in let e : PushedEvent Kept ≡ PushedEvent (Dropped f) = rw full at r.1 in cc)
told_first s (t ∷ between) behind f c r = elim (stays_choked s t.0 t.1 r.1 c) [
  | inl is ↦ (0, omega arith, is)
  | inr still ↦ Contains-append_right (t ∷ []) between tells (told_first (after s t.0) between behind f still r.2)
]

drop_chokes : (s : RingState) (e : Event) → PushedEvent (Dropped e) ≡ answer s (PushEvent e) → (after s (PushEvent e)).choked ≡ true
drop_chokes s e is = elim (cases_Bool (is_full s)) [
  | inl y ↦ rw y refl
  | inr n ↦ absurd (let f : PushedEvent (Dropped e) ≡ PushedEvent Kept = rw n at is in cc)
]

overflow_told : (s : RingState) (told before between behind : List Told) (e f : Event) → Runs s told → told ≡ before ++ drops e ∷ (between ++ keeps f ∷ behind) → Contains between tells
overflow_told s told before between behind e f r is =
    let split : Runs s (before ++ drops e ∷ (between ++ keeps f ∷ behind)) = subst (λ ts. Runs s ts) is r in
    let here = later s before (drops e ∷ (between ++ keeps f ∷ behind)) split in
    let ring = left_by s before in
    told_first (after ring (PushEvent e)) between behind f (drop_chokes ring e here.1) here.2

-- ---- the law

new_is_lawful : (size : ℕ) → KeepsLaw size (new_ring size)
new_is_lawful size told r =
    let s = left_by (new_ring size) told in
    let held : kept told ≡ popped told ++ s.events = in_order (new_ring size) told r in
    let places : accepted told + 0 ≡ ended told + s.reserved = in_place (new_ring size) told r in
    record {
      prefix = (s.events, sym held);
      held = held;
      replies = λ e c. subst (λ es. Contains es e) held (reply_kept told e c);
      places = omega arith;
      room = (fits (new_ring size) size told r (refl, omega arith)).1;
      overflow = λ before between behind e f is. overflow_told (new_ring size) told before between behind e f r is;
    }

pub new_ring_is_lawful : (size : ℕ) (s : RingState) → s ≡ new_ring size → KeepsLaw size s
new_ring_is_lawful size s is = subst (λ x. KeepsLaw size x) (sym is) (new_is_lawful size)
