-- Which clients live, and under which names.
use Rattle.std.proofs.Common.{◌≡◌, ℕ, ◌==◌, inl, inr, Bool, true, false, not, ◌&&◌, ◌||◌, List, [], ◌∷◌, ◌++◌, Option, Some, None, refl, sym, ap, ◌∙◌}
use Rattle.std.specs.Prelude.{if◌then◌else◌, filter, is_some}
use Rattle.std.specs.List.{list_any}
use Rattle.std.specs.Option.{option_map}
use Rattle.std.proofs.lemmas.Bool.{cases_Bool, eqb-true, eqb-false}
use Rattle.mc_dispatch.specs.declared.call.Call.{Call}
use Rattle.mc_dispatch.specs.declared.call.Call.TheVariants as call
use Rattle.mc_dispatch.specs.declared.request.ClientNo.{ClientNo}
use Rattle.mc_ring.specs.declared.event.Event.{Event}
use Rattle.mc_props.specs.declared.facts.Facts.{Facts}
use Rattle.mc_player.specs.declared.record.Answer.{Answer}
use Rattle.mc_player.specs.declared.record.Answer.TheVariants as answer
use Rattle.mc_player.specs.declared.record.CoreRecord.{CoreRecord}
use Rattle.mc_player.specs.declared.record.CoreRecord.TheVariants.{Created, Destroyed, Called, Learned, Wrote, Took, Ordered, Did, Pushed, Replied}
use Rattle.mc_player.specs.Facts.{facts_of, life_of}
use Rattle.mc_player.specs.Journals.{clients, is_number, name_of}
use Rattle.mc_player.specs.Laws.{AreListed, has_number}
use Rattle.mc_player.specs.Lives.{Life, Table, life_asked, life_called, life_pushed, life_replied}

-- ---- a living client is among those listed in order of creation

mapped : (f : Life → Life) (o : Option Life) → is_some (option_map f o) ≡ is_some o
mapped f None = refl
mapped f (Some l) = refl

if_mapped : (b : Bool) (f : Life → Life) (o : Option Life) (x : Bool) → is_some o ≡ x → is_some (if b then option_map f o else o) ≡ x
if_mapped true f o x e = mapped f o ∙ e
if_mapped false f o x e = e

added : (c : ℕ) (d : ClientNo) (xs : List ClientNo) → list_any (has_number c) (xs ++ d ∷ []) ≡ ((d.0 == c) || list_any (has_number c) xs)
added c d [] = refl
added c d (x ∷ xs) = elim (cases_Bool (x.0 == c)) [
  | inl y ↦ rw y (turn (d.0 == c))
  | inr n ↦ rw n (added c d xs)
]
  where
    turn : (b : Bool) → true ≡ (b || true)
    turn true = refl
    turn false = refl

not_twice : (b r : Bool) → (not b && r) ≡ (not b && (b || r))
not_twice true r = refl
not_twice false r = refl

same_one : (c : ℕ) (x d : ClientNo) (xs : List ClientNo) → x.0 ≡ d.0 → (not (d.0 == c) && list_any (has_number c) xs) ≡ (not (d.0 == c) && ((x.0 == c) || list_any (has_number c) xs))
same_one c x d xs e = rw e (not_twice (d.0 == c) (list_any (has_number c) xs))

other_one : (c : ℕ) (x d : ClientNo) (xs : List ClientNo) → (x.0 ≡ d.0 → ⊥) → list_any (has_number c) (filter (λ y. not (is_number y d)) xs) ≡ (not (d.0 == c) && list_any (has_number c) xs)
    → ((x.0 == c) || list_any (has_number c) (filter (λ y. not (is_number y d)) xs)) ≡ (not (d.0 == c) && ((x.0 == c) || list_any (has_number c) xs))
other_one c x d xs differs before = elim (cases_Bool (x.0 == c)) [
  | inl y ↦ elim (cases_Bool (d.0 == c)) [
    | inl z ↦ absurd (differs (eqb-true x.0 c y ∙ sym (eqb-true d.0 c z)))
    | inr m ↦ rw (y, m) refl
  ]
  | inr n ↦ rw n before
]

gone : (c : ℕ) (d : ClientNo) (xs : List ClientNo) → list_any (has_number c) (filter (λ x. not (is_number x d)) xs) ≡ (not (d.0 == c) && list_any (has_number c) xs)
gone c d [] = nothing (not (d.0 == c))
  where
    nothing : (b : Bool) → false ≡ (b && false)
    nothing true = refl
    nothing false = refl
gone c d (x ∷ xs) = elim (cases_Bool (x.0 == d.0)) [
  | inl y ↦ rw y (gone c d xs ∙ same_one c x d xs (eqb-true x.0 d.0 y))
  | inr n ↦ rw n (other_one c x d xs (eqb-false x.0 d.0 n) (gone c d xs))
]

pub listed : (t : Table) (c : ℕ) (h : List CoreRecord) → is_some (life_of t c h) ≡ list_any (has_number c) (clients h)
listed t c [] = refl
listed t c (Created by d name size ∷ h) = elim (cases_Bool (d.0 == c)) [
  | inl y ↦ let o : ((d.0 == c) || list_any (has_number c) (clients h)) ≡ true = rw y refl in rw y (sym (added c d (clients h) ∙ o))
  | inr n ↦ let o : ((d.0 == c) || list_any (has_number c) (clients h)) ≡ list_any (has_number c) (clients h) = rw n refl in rw n (listed t c h ∙ sym (added c d (clients h) ∙ o))
]
listed t c (Destroyed by d ∷ h) = elim (cases_Bool (d.0 == c)) [
  | inl y ↦ let o : (not (d.0 == c) && list_any (has_number c) (clients h)) ≡ false = rw y refl in rw y (sym (gone c d (clients h) ∙ o))
  | inr n ↦ let o : (not (d.0 == c) && list_any (has_number c) (clients h)) ≡ list_any (has_number c) (clients h) = rw n refl in rw n (listed t c h ∙ sym (gone c d (clients h) ∙ o))
]
listed t c (Called by d ticket x a ∷ h) = if_mapped (d.0 == c) _ (life_of t c h) _ (listed t c h)
listed t c (Pushed by d e kept ∷ h) = if_mapped (d.0 == c) _ (life_of t c h) _ (listed t c h)
listed t c (Replied by d n e ∷ h) = if_mapped (d.0 == c) _ (life_of t c h) _ (listed t c h)
listed t c (Learned by view ∷ h) = listed t c h
listed t c (Wrote by mask f ∷ h) = listed t c h
listed t c (Took by d n id ∷ h) = listed t c h
listed t c (Ordered by o ∷ h) = listed t c h
listed t c (Did by x ∷ h) = listed t c h

-- ---- its name

abbrev own_name : Option Life → Option (List ℕ)
own_name o = option_map (λ (l : Life). l.name) o

if_named : (b : Bool) (f : Life → Life) (o : Option Life) (x : Option (List ℕ)) → ((l : Life) → (f l).name ≡ l.name) → own_name o ≡ x → own_name (if b then option_map f o else o) ≡ x
if_named true f None x s e = e
if_named true f (Some l) x s e = ap (λ (n : List ℕ). Some n) (s l) ∙ e
if_named false f o x s e = e

asked_name : (ticket : Option ℕ) (l : Life) → (life_asked ticket l).name ≡ l.name
asked_name None l = refl
asked_name (Some n) l = refl

called_name : (t : Table) (f : Facts) (c : Call) (a : Answer) (l : Life) → (life_called t f c a l).name ≡ l.name
called_name t f call.Poll (answer.Event e) l = refl
called_name t f call.Poll answer.Ok l = refl
called_name t f call.Poll (answer.Refused n) l = refl
called_name t f call.Poll (answer.Removed n) l = refl
called_name t f (call.Observe id name format) answer.Ok l = refl
called_name t f (call.Observe id name format) (answer.Refused n) l = refl
called_name t f (call.Observe id name format) (answer.Removed n) l = refl
called_name t f (call.Observe id name format) (answer.Event e) l = refl
called_name t f (call.Unobserve id) a l = refl
called_name t f (call.Event n on) answer.Ok l = refl
called_name t f (call.Event n on) (answer.Refused m) l = refl
called_name t f (call.Event n on) (answer.Removed m) l = refl
called_name t f (call.Event n on) (answer.Event e) l = refl
called_name t f (call.Command id words) a l = refl
called_name t f (call.Get id name format) a l = refl
called_name t f (call.Set id name v) a l = refl
called_name t f (call.Abort id) a l = refl

pushed_name : (kept : Bool) (e : Event) (l : Life) → (life_pushed kept e l).name ≡ l.name
pushed_name true e l = refl
pushed_name false e l = refl

pub names : (t : Table) (c : ℕ) (h : List CoreRecord) → option_map (λ (l : Life). l.name) (life_of t c h) ≡ name_of c h
names t c [] = refl
names t c (Created by d name size ∷ h) = elim (cases_Bool (d.0 == c)) [ inl y ↦ rw y refl | inr n ↦ let e = names t c h in rw n e ]
names t c (Destroyed by d ∷ h) = elim (cases_Bool (d.0 == c)) [ inl y ↦ rw y refl | inr n ↦ let e = names t c h in rw n e ]
names t c (Called by d ticket x a ∷ h) =
    if_named (d.0 == c) (λ (l : Life). life_asked ticket (life_called t (facts_of t h) x a l)) (life_of t c h) (name_of c h)
    (λ l. asked_name ticket (life_called t (facts_of t h) x a l) ∙ called_name t (facts_of t h) x a l) (names t c h)
names t c (Pushed by d e kept ∷ h) = if_named (d.0 == c) (life_pushed kept e) (life_of t c h) (name_of c h) (pushed_name kept e) (names t c h)
names t c (Replied by d n e ∷ h) = if_named (d.0 == c) (life_replied e) (life_of t c h) (name_of c h) (λ l. refl) (names t c h)
names t c (Learned by view ∷ h) = names t c h
names t c (Wrote by mask f ∷ h) = names t c h
names t c (Took by d n id ∷ h) = names t c h
names t c (Ordered by o ∷ h) = names t c h
names t c (Did by x ∷ h) = names t c h

pub are_listed : (t : Table) (h : List CoreRecord) → AreListed t h
are_listed t h c = (listed t c h, names t c h)
