-- The bounds by the least and the greatest time that were found.
use Rattle.std.proofs.Common.{◌≡◌, Bool, true, false, ◌&&◌, ◌⊎◌, List, [], ◌∷◌, Some, None, ℤ, refl, ◌∙◌, inl, inr}
use Rattle.std.specs.Prelude.{int_le, if◌then◌else◌}
use Rattle.std.specs.List.{AllByRecursion}
use Rattle.std.proofs.lemmas.Bool.{cases_Bool}
use Rattle.mc_packet.specs.declared.packet.Packet.{Packet}
use Rattle.mc_packet.specs.declared.choice.Dir.{Dir}
use Rattle.mc_packet.specs.declared.choice.Dir.TheVariants.{Back, Forward}
use Rattle.mc_journal.specs.Ranges.{least_time, greatest_time, bounds_by}
use Rattle.mc_queue.specs.Times.{comes_first, is_wanted, AnyOf, IsNearest}
use Rattle.mc_queue.proofs.Timing.{first_same}
use Rattle.mc_range.specs.Bounds.{points_of, bounds_in, is_point, is_last}

-- ---- the time that comes first in a list

abbrev far : Dir → ℤ → List Packet → ℤ
far dir t [] = t
far dir t (x ∷ xs) = far dir (if comes_first dir x.time t then x.time else t) xs

least_far : (t : ℤ) (xs : List Packet) → least_time t xs ≡ far Forward t xs
least_far t [] = refl
least_far t (x ∷ xs) = least_far (if int_le x.time t then x.time else t) xs

greatest_far : (t : ℤ) (xs : List Packet) → greatest_time t xs ≡ far Back t xs
greatest_far t [] = refl
greatest_far t (x ∷ xs) = greatest_far (if int_le t x.time then x.time else t) xs

abbrev AnyAt : ℤ → List Packet → Type 0
AnyAt s [] = ⊥
AnyAt s (x ∷ xs) = (x.time ≡ s) ⊎ AnyAt s xs

abbrev AllFrom : Dir → ℤ → List Packet → Type 0
AllFrom dir s xs = AllByRecursion (λ (x : Packet). comes_first dir s x.time ≡ true) xs

far_is : (dir : Dir) (t s : ℤ) (xs : List Packet) → comes_first dir s t ≡ true → AllFrom dir s xs → (t ≡ s) ⊎ AnyAt s xs → far dir t xs ≡ s
far_is dir t s [] l all (inl e) = e
far_is dir t s [] l all (inr a) = absurd a
far_is dir t s (x ∷ xs) l all any = elim (cases_Bool (comes_first dir x.time t)) [
  | inl y ↦ rw y (far_is dir x.time s xs all.0 all.1 (nearer any y))
  | inr n ↦ rw n (far_is dir t s xs l all.1 (kept any n))
]
  where
    nearer : (t ≡ s) ⊎ ((x.time ≡ s) ⊎ AnyAt s xs) → comes_first dir x.time t ≡ true → (x.time ≡ s) ⊎ AnyAt s xs
    nearer (inl e) y = inl (first_same dir x.time s (rw e at y) all.0)
    nearer (inr a) y = a

    kept : (t ≡ s) ⊎ ((x.time ≡ s) ⊎ AnyAt s xs) → comes_first dir x.time t ≡ false → (t ≡ s) ⊎ AnyAt s xs
    kept (inl e) n = inl e
    kept (inr (inl f)) n = absurd (let g : comes_first dir s t ≡ false = rw f at n in cc)
    kept (inr (inr a)) n = inr a

-- ---- packets and what is of them

points_all : (test : ℤ → Bool) (Q : ℤ → Type 0) (ps : List Packet) → AllByRecursion (λ p. is_point test p ≡ true → Q p.time) ps → AllByRecursion (λ (x : Packet). Q x.time) (points_of test ps)
points_all test Q [] h = tt
points_all test Q (p ∷ ps) h =
    let more = points_all test Q ps h.1 in
    elim (cases_Bool p.sync) [
      | inl y ↦ elim (cases_Bool (test p.time)) [
        | inl z ↦ rw (y, z) (h.0 (rw (y, z) refl), more)
        | inr z ↦ rw (y, z) more
      ]
      | inr n ↦ rw n more
    ]

points_any : (test : ℤ → Bool) (t : ℤ) (ps : List Packet) → AnyOf (λ p. (is_point test p ≡ true) × (p.time ≡ t)) ps → AnyAt t (points_of test ps)
points_any test t [] h = absurd h
points_any test t (p ∷ ps) (inl h) = elim (cases_Bool p.sync) [
  | inl y ↦ elim (cases_Bool (test p.time)) [
    | inl z ↦ rw (y, z) (inl h.1)
    | inr z ↦ absurd (let g = h.0 in let f : (true && false) ≡ true = rw (y, z) at g in cc)
  ]
  | inr n ↦ absurd (let g = h.0 in let f : (false && test p.time) ≡ true = rw n at g in cc)
]
points_any test t (p ∷ ps) (inr h) =
    let more = points_any test t ps h in
    elim (cases_Bool p.sync) [
      | inl y ↦ elim (cases_Bool (test p.time)) [ inl z ↦ rw (y, z) (inr more) | inr z ↦ rw (y, z) more ]
      | inr n ↦ rw n more
    ]

times_all : (Q : ℤ → Type 0) (ps : List Packet) → AllByRecursion (λ p. is_wanted Back true None p ≡ true → Q p.time) ps → AllByRecursion (λ (x : Packet). Q x.time) ps
times_all Q [] h = tt
times_all Q (p ∷ ps) h = (h.0 refl, times_all Q ps h.1)

time_any : (t : ℤ) (ps : List Packet) → AnyOf (λ p. (is_wanted Back true None p ≡ true) × (p.time ≡ t)) ps → AnyAt t ps
time_any t [] h = absurd h
time_any t (p ∷ ps) (inl h) = inl h.1
time_any t (p ∷ ps) (inr h) = inr (time_any t ps h)

weaker : (P Q : Packet → Type 0) → ((p : Packet) → P p → Q p) → (ps : List Packet) → AllByRecursion P ps → AllByRecursion Q ps
weaker P Q f [] h = tt
weaker P Q f (p ∷ ps) h = (f p h.0, weaker P Q f ps h.1)

-- ---- the bounds

bounds_ended : (pts all : List Packet) (a b : ℤ) → AllFrom Forward a pts → AnyAt a pts → AllFrom Back b pts → AllFrom Back b all → AnyAt b all → bounds_by pts all true ≡ Some (a, b)
bounds_ended [] all a b f g h k i = absurd g
bounds_ended (x ∷ xs) all a b f g h k i =
    let l = least_far x.time xs ∙ far_is Forward x.time a xs f.0 f.1 g in
    let m = greatest_far x.time all ∙ far_is Back x.time b all h.0 k (inr i) in
    rw (l, m) refl

bounds_open : (pts all : List Packet) (a b : ℤ) → AllFrom Forward a pts → AnyAt a pts → AllFrom Back b pts → AnyAt b pts → bounds_by pts all false ≡ Some (a, b)
bounds_open [] all a b f g h k = absurd g
bounds_open (x ∷ xs) all a b f g h k =
    let l = least_far x.time xs ∙ far_is Forward x.time a xs f.0 f.1 g in
    let m = greatest_far x.time xs ∙ far_is Back x.time b xs h.0 h.1 k in
    rw (l, m) refl

pub bounds_some : (test : ℤ → Bool) (ended : Bool) (ps : List Packet) (a b : ℤ) → IsNearest Forward (is_point test) ps (Some a) → IsNearest Back (is_last ended test) ps (Some b)
    → bounds_in test ended ps ≡ Some (a, b)
bounds_some test true ps a b m n =
    bounds_ended (points_of test ps) ps a b
    (points_all test (λ t. comes_first Forward a t ≡ true) ps m.first) (points_any test a ps m.met)
    (points_all test (λ t. comes_first Back b t ≡ true) ps (weaker (λ p. is_wanted Back true None p ≡ true → comes_first Back b p.time ≡ true) (λ p. is_point test p ≡ true → comes_first Back b p.time ≡ true) (λ p h e. h refl) ps n.first))
    (times_all (λ t. comes_first Back b t ≡ true) ps n.first) (time_any b ps n.met)
bounds_some test false ps a b m n =
    bounds_open (points_of test ps) ps a b
    (points_all test (λ t. comes_first Forward a t ≡ true) ps m.first) (points_any test a ps m.met)
    (points_all test (λ t. comes_first Back b t ≡ true) ps n.first) (points_any test b ps n.met)

none_of : (xs all : List Packet) (ended : Bool) → AllByRecursion (λ (x : Packet). ⊥) xs → bounds_by xs all ended ≡ None
none_of [] all ended h = refl
none_of (x ∷ xs) all ended h = absurd h.0

pub bounds_none : (test : ℤ → Bool) (ended : Bool) (ps : List Packet) → IsNearest Forward (is_point test) ps None → bounds_in test ended ps ≡ None
bounds_none test ended ps m = none_of (points_of test ps) ps ended (points_all test (λ t. ⊥) ps m.first)

pub bounds_both : (test : ℤ → Bool) (ended : Bool) (ps : List Packet) → IsNearest Back (is_last ended test) ps None → bounds_in test ended ps ≡ None
bounds_both test true ps n = none_of (points_of test ps) ps true (points_all test (λ t. ⊥) ps (weaker (λ p. is_wanted Back true None p ≡ true → ⊥) (λ p. is_point test p ≡ true → ⊥) (λ p h e. h refl) ps n.first))
bounds_both test false ps n = none_of (points_of test ps) ps false (points_all test (λ t. ⊥) ps n.first)
