-- Prefixes of a journal, and the entries of one caller in it.
use Rattle.std.proofs.Common.{◌≡◌, ℕ, ◌≤◌, Bool, true, false, cond, eqb, List, [], ◌∷◌, ◌++◌, length, refl, ap, sym, ◌∙◌, subst, arith, append_assoc, length-append}
use mathlib.Core.List.{IsPrefix, append-nil}
use Rattle.std.proofs.lemmas.Bool.{eqb-true}
use Rattle.std.proofs.lemmas.List.Elements.{filter-append}
use Rattle.mc_turn.specs.Callers.{of_caller, Has, Bear}

module _ {A : Type 0} where
  pub prefix_self : (xs : List A) → IsPrefix xs xs
  prefix_self xs = ([], append-nil xs)

  pub prefix_trans : (xs ys zs : List A) → IsPrefix xs ys → IsPrefix ys zs → IsPrefix xs zs
  prefix_trans xs ys zs p q = (p.0 ++ q.0, sym (append_assoc xs p.0 q.0) ∙ (ap (λ (l : List A). l ++ q.0) p.1 ∙ q.1))

  pub prefix_shorter : (xs ys zs : List A) → IsPrefix xs zs → IsPrefix ys zs → length xs ≤ length ys → IsPrefix xs ys
  prefix_shorter [] ys zs p q le = (ys, refl)
  prefix_shorter (x ∷ xs) [] zs p q le = absurd (omega arith)
  prefix_shorter (x ∷ xs) (y ∷ ys) [] p q le = absurd (cc (p.1))
  prefix_shorter (x ∷ xs) (y ∷ ys) (z ∷ zs) p q le =
      let same : x ≡ y = cc (p.1, q.1) in
      let more = prefix_shorter xs ys zs (p.0, cc (p.1)) (q.0, cc (q.1)) (omega arith) in
      (more.0, cc (same, more.1))

  pub prefix_whole : (xs ys : List A) → IsPrefix xs ys → length ys ≤ length xs → xs ≡ ys
  prefix_whole [] [] p le = refl
  prefix_whole [] (y ∷ ys) p le = absurd (omega arith)
  prefix_whole (x ∷ xs) [] p le = absurd (cc (p.1))
  prefix_whole (x ∷ xs) (y ∷ ys) p le = let more = prefix_whole xs ys (p.0, cc (p.1)) (omega arith) in cc (p.1, more)

  pub prefix_length : (xs ys : List A) → IsPrefix xs ys → length xs ≤ length ys
  prefix_length xs ys p = omega (arith, sym (ap length p.1) ∙ length-append xs p.0)

module _ {E : Type 0} (by : E → ℕ) where
  pub prefix_own : (n : ℕ) (xs ys : List E) → IsPrefix xs ys → IsPrefix (of_caller by n xs) (of_caller by n ys)
  prefix_own n xs ys p = (of_caller by n p.0, sym (filter-append (λ (x : E). eqb (by x) n) xs p.0) ∙ ap (of_caller by n) p.1)

  -- what has not changed over the whole has not changed on the way
  pub between : (n : ℕ) (xs ys zs : List E) → IsPrefix xs ys → IsPrefix ys zs → of_caller by n xs ≡ of_caller by n zs → of_caller by n ys ≡ of_caller by n zs
  between n xs ys zs p q e = prefix_whole (of_caller by n ys) (of_caller by n zs) (prefix_own n ys zs q)
      (let le : length (of_caller by n xs) ≤ length (of_caller by n ys) = prefix_length (of_caller by n xs) (of_caller by n ys) (prefix_own n xs ys p) in omega (arith, ap length e))

  pub none_of : (ns : List ℕ) (n : ℕ) (xs : List E) → (Has ns n → ⊥) → Bear by ns xs → of_caller by n xs ≡ []
  none_of ns n [] not bear = refl
  none_of ns n (x ∷ xs) not bear = skips (eqb (by x) n) refl (none_of ns n xs not bear.1)
    where
      skips : (b : Bool) → eqb (by x) n ≡ b → of_caller by n xs ≡ [] → cond b (x ∷ of_caller by n xs) (of_caller by n xs) ≡ []
      skips true e r = absurd (not (subst (Has ns) (eqb-true (by x) n e) bear.0))
      skips false e r = r

  -- the entries that others added are none of this caller's
  pub own_stays : (ns : List ℕ) (n : ℕ) (xs ys more : List E) → xs ++ more ≡ ys → Bear by ns more → (Has ns n → ⊥) → of_caller by n xs ≡ of_caller by n ys
  own_stays ns n xs ys more e bear not = sym (append-nil (of_caller by n xs)) ∙ (ap (λ (l : List E). of_caller by n xs ++ l) (sym (none_of ns n more not bear))
      ∙ (sym (filter-append (λ (x : E). eqb (by x) n) xs more) ∙ ap (of_caller by n) e))
