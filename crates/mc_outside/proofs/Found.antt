-- The first element of a list at which a test passes, by its place.
use Rattle.std.proofs.Common.{◌≡◌, ℕ, zero, suc, ◌+◌, ◌<◌, ◌≤◌, Bool, true, false, not, cond, ◌||◌, List, [], ◌∷◌, length, Some, None, refl, sym, ap, ◌∙◌, arith, inl, inr, ◌⊎◌}
use Rattle.std.specs.List.{find, position_from, slice_get, filter, list_any, remove}

pub record Found {X : Type 0} (p : X → Bool) (xs : List X) (k : ℕ) : Type 0 where
  pub item : X
  pub at : slice_get xs k ≡ Some item
  pub first : find p xs ≡ Some item
  pub passes : p item ≡ true
  pub within : k < length xs
  pub any : list_any p xs ≡ true
  pub rest : filter (λ x. not (p x)) (remove xs k) ≡ filter (λ x. not (p x)) xs

some_is : (a b : ℕ) → Some a ≡ Some b → a ≡ b
some_is a b e = cc

chosen : {A : Type 0} (b : Bool) (x y z : A) → cond b x y ≡ z → ((b ≡ true) × (x ≡ z)) ⊎ ((b ≡ false) × (y ≡ z))
chosen true x y z e = inl (refl, e)
chosen false x y z e = inr (refl, e)

some_none : (j : ℕ) → Some j ≡ None → ⊥
some_none j e = cc

later : {X : Type 0} (p : X → Bool) (i j : ℕ) (xs : List X) → position_from p j xs ≡ Some i → j ≤ i
later p i j [] e = absurd cc
later p i j (x ∷ xs) e =
    elim (chosen (p x) (Some j) (position_from p (j + 1) xs) (Some i) e) [
      | inl h ↦ omega (arith, some_is j i h.1)
      | inr h ↦ omega (arith, later p i (j + 1) xs h.1)
    ]

found : {X : Type 0} (p : X → Bool) (j k : ℕ) (xs : List X) → position_from p j xs ≡ Some (j + k) → Found p xs k
found p j k [] e = absurd cc
found p j zero (x ∷ xs) e =
    elim (chosen (p x) (Some j) (position_from p (j + 1) xs) (Some (j + 0)) e) [
      | inl h ↦ record { item = x; at = refl; first = rw h.0 refl; passes = h.0; within = omega arith; any = rw h.0 refl; rest = rw h.0 refl }
      | inr h ↦ absurd (omega (arith, later p (j + 0) (j + 1) xs h.1))
    ]
found {X = X} p j (suc k) (x ∷ xs) e =
    elim (chosen (p x) (Some j) (position_from p (j + 1) xs) (Some (j + suc k)) e) [
      | inl h ↦ absurd (omega (arith, some_is j (j + suc k) h.1))
      | inr h ↦
          let on : j + suc k ≡ (j + 1) + k = omega arith in
          let f = found p (j + 1) k xs (rw on at h.1) in
          record { item = f.item; at = f.at; first = rw h.0 f.first; passes = f.passes; within = omega (arith, f.within); any = rw h.0 f.any; rest = rw h.0 (ap (λ (ys : List X). x ∷ ys) f.rest) }
    ]

pub found_at : {X : Type 0} (p : X → Bool) (k : ℕ) (xs : List X) → position_from p 0 xs ≡ Some k → Found p xs k
found_at p k xs e = let on : k ≡ 0 + k = omega arith in found p 0 k xs (rw on at e)

-- where no test passes nothing is found
pub find_none : {X : Type 0} (p : X → Bool) (j : ℕ) (xs : List X) → position_from p j xs ≡ None → find p xs ≡ None
find_none p j [] e = refl
find_none p j (x ∷ xs) e =
    elim (chosen (p x) (Some j) (position_from p (j + 1) xs) None e) [
      | inl h ↦ absurd (some_none j h.1)
      | inr h ↦ rw h.0 (find_none p (j + 1) xs h.1)
    ]

pub any_none : {X : Type 0} (p : X → Bool) (j : ℕ) (xs : List X) → position_from p j xs ≡ None → list_any p xs ≡ false
any_none p j [] e = refl
any_none p j (x ∷ xs) e =
    elim (chosen (p x) (Some j) (position_from p (j + 1) xs) None e) [
      | inl h ↦ absurd (some_none j h.1)
      | inr h ↦ rw h.0 (any_none p (j + 1) xs h.1)
    ]

pub rest_none : {X : Type 0} (p : X → Bool) (j : ℕ) (xs : List X) → position_from p j xs ≡ None → filter (λ x. not (p x)) xs ≡ xs
rest_none p j [] e = refl
rest_none {X = X} p j (x ∷ xs) e =
    elim (chosen (p x) (Some j) (position_from p (j + 1) xs) None e) [
      | inl h ↦ absurd (some_none j h.1)
      | inr h ↦ rw h.0 (ap (λ (ys : List X). x ∷ ys) (rest_none p (j + 1) xs h.1))
    ]

-- one passed, so one did so from the first
pub any_more : (b c d : Bool) → (b || c) ≡ d → c ≡ true → true ≡ d
any_more true c d e h = e
any_more false c d e h = sym h ∙ e

pub any_end : (b c d : Bool) → (b || c) ≡ d → c ≡ false → b ≡ d
any_end true c d e h = e
any_end false c d e h = sym h ∙ e
