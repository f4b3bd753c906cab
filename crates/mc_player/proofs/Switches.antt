-- Which numbers a list of numbers has, where one goes or comes.
use Rattle.std.proofs.Common.{◌≡◌, ℕ, ◌==◌, Bool, true, false, not, List, [], ◌∷◌, ◌++◌, refl, sym, subst, ◌∙◌, inl, inr}
use Rattle.std.specs.Prelude.{if◌then◌else◌, nat_eq}
use Rattle.std.specs.List.{list_any}
use Rattle.std.proofs.lemmas.Bool.{cases_Bool, eqb-true, eqb-false, eq-eqb, ne_eqb, or_right, or_parts}
use Rattle.indexmap.specs.IndexSet.{insert_key, remove_key}
use Rattle.mc_player.specs.Lives.{switched}

-- each stands there once
abbrev pub AreOnce : List ℕ → Type 0
AreOnce [] = Unit {0}
AreOnce (n ∷ ns) = (list_any (nat_eq n) ns ≡ false) × AreOnce ns

flip : (a b : ℕ) → (a == b) ≡ false → (b == a) ≡ false
flip a b e = ne_eqb b a (λ s. eqb-false a b e (sym s))

any_remove : (n m : ℕ) (ns : List ℕ) → AreOnce ns → list_any (nat_eq m) (remove_key (nat_eq n) ns) ≡ (if n == m then false else list_any (nat_eq m) ns)
any_remove n m [] once = elim (cases_Bool (n == m)) [ inl y ↦ rw y refl | inr k ↦ rw k refl ]
any_remove n m (x ∷ xs) once =
    let e = any_remove n m xs once.1 in
    elim (cases_Bool (n == x)) [
      | inl y ↦ elim (cases_Bool (n == m)) [
        | inl z ↦ let g : list_any (nat_eq m) xs ≡ false = subst (λ (k : ℕ). list_any (nat_eq k) xs ≡ false) (sym (eqb-true n x y) ∙ eqb-true n m z) once.0 in rw (y, z) g
        | inr k ↦ let d : (m == x) ≡ false = subst (λ (j : ℕ). (m == j) ≡ false) (eqb-true n x y) (flip n m k) in rw (y, k, d) refl
      ]
      | inr x' ↦ elim (cases_Bool (n == m)) [
        | inl z ↦
            let d : (m == x) ≡ false = subst (λ (j : ℕ). (j == x) ≡ false) (eqb-true n m z) x' in
            let g : list_any (nat_eq m) (remove_key (nat_eq n) xs) ≡ false = e ∙ rw z refl in
            rw (x', z, d) g
        | inr k ↦ let g : list_any (nat_eq m) (remove_key (nat_eq n) xs) ≡ list_any (nat_eq m) xs = e ∙ rw k refl in rw (x', k, g) refl
      ]
    ]

any_more : (m n : ℕ) (ns : List ℕ) → list_any (nat_eq m) (ns ++ n ∷ []) ≡ (if n == m then true else list_any (nat_eq m) ns)
any_more m n [] = elim (cases_Bool (n == m)) [
  | inl y ↦ let g : (m == n) ≡ true = eq-eqb m n (sym (eqb-true n m y)) in rw (y, g) refl
  | inr k ↦ let g = flip n m k in rw (k, g) refl
]
any_more m n (x ∷ xs) =
    let e = any_more m n xs in
    elim (cases_Bool (n == m)) [
      | inl y ↦ let g : list_any (nat_eq m) (xs ++ n ∷ []) ≡ true = e ∙ rw y refl in rw y (or_right (m == x) _ g)
      | inr k ↦ let g : list_any (nat_eq m) (xs ++ n ∷ []) ≡ list_any (nat_eq m) xs = e ∙ rw k refl in rw (k, g) refl
    ]

any_insert : (n m : ℕ) (ns : List ℕ) → list_any (nat_eq m) (insert_key nat_eq ns n) ≡ (if n == m then true else list_any (nat_eq m) ns)
any_insert n m ns = elim (cases_Bool (list_any (nat_eq n) ns)) [
  | inl y ↦ elim (cases_Bool (n == m)) [
    | inl z ↦ let g : list_any (nat_eq m) ns ≡ true = subst (λ (k : ℕ). list_any (nat_eq k) ns ≡ true) (eqb-true n m z) y in rw (y, z) g
    | inr k ↦ rw (y, k) refl
  ]
  | inr x ↦ rw x (any_more m n ns)
]

once_remove : (n : ℕ) (ns : List ℕ) → AreOnce ns → AreOnce (remove_key (nat_eq n) ns)
once_remove n [] once = tt
once_remove n (x ∷ xs) once = elim (cases_Bool (n == x)) [
  | inl y ↦ rw y once.1
  | inr k ↦
      let g : list_any (nat_eq x) (remove_key (nat_eq n) xs) ≡ false = any_remove n x xs once.1 ∙ rw (k, once.0) refl in
      rw k (g, once_remove n xs once.1)
]

once_more : (n : ℕ) (ns : List ℕ) → AreOnce ns → list_any (nat_eq n) ns ≡ false → AreOnce (ns ++ n ∷ [])
once_more n [] once none = (refl, tt)
once_more n (x ∷ xs) once none =
    let p = or_parts (n == x) (list_any (nat_eq n) xs) none in
    let g : list_any (nat_eq x) (xs ++ n ∷ []) ≡ false = any_more x n xs ∙ rw (p.0, once.0) refl in
    (g, once_more n xs once.1 p.1)

once_insert : (n : ℕ) (ns : List ℕ) → AreOnce ns → AreOnce (insert_key nat_eq ns n)
once_insert n ns once = elim (cases_Bool (list_any (nat_eq n) ns)) [
  | inl y ↦ rw y once
  | inr k ↦ rw k (once_more n ns once k)
]

pub any_switched : (n m : ℕ) (on : Bool) (ns : List ℕ) → AreOnce ns → list_any (nat_eq m) (switched n on ns) ≡ (if n == m then not on else list_any (nat_eq m) ns)
any_switched n m true ns once = any_remove n m ns once
any_switched n m false ns once = any_insert n m ns

pub once_switched : (n : ℕ) (on : Bool) (ns : List ℕ) → AreOnce ns → AreOnce (switched n on ns)
once_switched n true ns once = once_remove n ns once
once_switched n false ns once = once_insert n ns once
