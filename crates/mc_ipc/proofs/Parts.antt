-- The parts of an input between its LFs, and those of a longer one.
use Rattle.std.proofs.Common.{◌≡◌, ◌+◌, ◌-◌, ◌<◌, ◌≤◌, ◌==◌, ℕ, zero, suc, Bool, true, false, cond, List, [], ◌∷◌, ◌++◌, Option, Some, None, length, take, drop, position, option_map, refl, sym, ap, subst, ◌∙◌, arith, length-drop, take_all, append-nil, inl, inr}
use Rattle.std.specs.List.{AllByRecursion, onto_first, slice_split, position_from}
use Rattle.std.proofs.lemmas.Bool.{cases_Bool}
use Rattle.std.proofs.lemmas.Iterator.Adapters.{position_from-zero}
use Rattle.mc_ipc.specs.Lines.{ended, is_lf, open_part, parts}

-- octets without an LF
abbrev pub NoEnd : List ℕ → Type 0
NoEnd cs = AllByRecursion (λ c. is_lf c ≡ false) cs

-- a list that has a first part
abbrev pub HasFirst : List (List ℕ) → Type 0
HasFirst ps = (q : List ℕ) × (qs : List (List ℕ)) × (ps ≡ q ∷ qs)

onto_has_first : (c : ℕ) (ps : List (List ℕ)) → HasFirst (onto_first c ps)
onto_has_first c [] = (c ∷ [], [], refl)
onto_has_first c (p ∷ ps) = (c ∷ p, ps, refl)

pub has_first : (cs : List ℕ) → HasFirst (parts cs)
has_first [] = ([], [], refl)
has_first (c ∷ cs) = elim (is_lf c) as (λ b. HasFirst (cond b ([] ∷ parts cs) (onto_first c (parts cs)))) [
  | true ↦ ([], parts cs, refl)
  | false ↦ onto_has_first c (parts cs)
]

-- octets without an LF belong to the first part
pub in_front : (o cs : List ℕ) (q : List ℕ) (qs : List (List ℕ)) → NoEnd o → parts cs ≡ q ∷ qs → parts (o ++ cs) ≡ (o ++ q) ∷ qs
in_front [] cs q qs h e = e
in_front (c ∷ o) cs q qs h e = rw (h.0, in_front o cs q qs h.1 e) refl

pub one_part : (o : List ℕ) → NoEnd o → parts o ≡ o ∷ []
one_part o h =
    let e : parts (o ++ []) ≡ (o ++ []) ∷ [] = in_front o [] [] [] h refl in
    subst (λ xs. parts xs ≡ xs ∷ []) (append-nil o) e

-- the last part and those before it

pub ended_cons : (p : List ℕ) (ps : List (List ℕ)) → HasFirst ps → ended (p ∷ ps) ≡ p ∷ ended ps
ended_cons p ps (q, qs, e) = rw e refl

pub open_cons : (p : List ℕ) (ps : List (List ℕ)) → HasFirst ps → open_part (p ∷ ps) ≡ open_part ps
open_cons p ps (q, qs, e) = rw e refl

append_first : (es ps : List (List ℕ)) → HasFirst ps → HasFirst (es ++ ps)
append_first [] ps h = h
append_first (e ∷ es) ps h = (e, es ++ ps, refl)

pub ended_append : (es ps : List (List ℕ)) → HasFirst ps → ended (es ++ ps) ≡ es ++ ended ps
ended_append [] ps h = refl
ended_append (e ∷ es) ps h = ended_cons e (es ++ ps) (append_first es ps h) ∙ ap (λ xs. e ∷ xs) (ended_append es ps h)

pub open_append : (es ps : List (List ℕ)) → HasFirst ps → open_part (es ++ ps) ≡ open_part ps
open_append [] ps h = refl
open_append (e ∷ es) ps h = open_cons e (es ++ ps) (append_first es ps h) ∙ open_append es ps h

pub split_last : (ps : List (List ℕ)) → HasFirst ps → ps ≡ ended ps ++ open_part ps ∷ []
split_last [] (q, qs, e) = absurd (cc)
split_last (p ∷ []) h = refl
split_last (p ∷ q ∷ ps) h = ap (λ xs. p ∷ xs) (split_last (q ∷ ps) (q, ps, refl))

-- the parts of a longer input

grown : (c : ℕ) (ps : List (List ℕ)) (ys : List ℕ) → is_lf c ≡ false → HasFirst ps
    → onto_first c (ended ps ++ parts (open_part ps ++ ys)) ≡ ended (onto_first c ps) ++ parts (open_part (onto_first c ps) ++ ys)
grown c [] ys n (q, qs, e) = absurd (cc)
grown c (p ∷ []) ys n h = rw n refl
grown c (p ∷ q ∷ ps) ys n h = refl

pub parts_append : (xs ys : List ℕ) → parts (xs ++ ys) ≡ ended (parts xs) ++ parts (open_part (parts xs) ++ ys)
parts_append [] ys = refl
parts_append (c ∷ xs) ys = elim (cases_Bool (is_lf c)) [
  | inl y ↦
      let f = has_first xs in
      rw (y, ended_cons [] (parts xs) f, open_cons [] (parts xs) f) (ap (λ ps. [] ∷ ps) (parts_append xs ys))
  | inr n ↦ rw n (ap (onto_first c) (parts_append xs ys) ∙ grown c (parts xs) ys n (has_first xs))
]

open_grown : (c : ℕ) (ps : List (List ℕ)) → is_lf c ≡ false → NoEnd (open_part ps) → NoEnd (open_part (onto_first c ps))
open_grown c [] n h = (n, tt)
open_grown c (p ∷ []) n h = (n, h)
open_grown c (p ∷ q ∷ ps) n h = h

pub open_no_end : (xs : List ℕ) → NoEnd (open_part (parts xs))
open_no_end [] = tt
open_no_end (c ∷ xs) = elim (cases_Bool (is_lf c)) [
  | inl y ↦ rw (y, open_cons [] (parts xs) (has_first xs)) (open_no_end xs)
  | inr n ↦ rw n (open_grown c (parts xs) n (open_no_end xs))
]

-- the first LF

-- what its place says, where the search began at k
abbrev First : ℕ → List ℕ → Option ℕ → Type 0
First k cs None = NoEnd cs
First k cs (Some i) = (k ≤ i) × NoEnd (take (i - k) cs) × (parts cs ≡ take (i - k) cs ∷ parts (drop (i - k + 1) cs))

first_here : (k c : ℕ) (cs : List ℕ) → is_lf c ≡ true → First k (c ∷ cs) (Some k)
first_here k c cs y = let z : k - k ≡ 0 = omega arith in (omega arith, rw z tt, rw (z, y) refl)

first_later : (k c : ℕ) (cs : List ℕ) (r : Option ℕ) → is_lf c ≡ false → First (k + 1) cs r → First k (c ∷ cs) r
first_later k c cs None n h = (n, h)
first_later k c cs (Some i) n h =
    let far : k + 1 ≤ i = h.0 in
    let e : i - k ≡ suc (i - (k + 1)) = omega arith in
    let e2 : i - k + 1 ≡ suc (i - (k + 1) + 1) = omega arith in
    (omega arith, rw e (n, h.1), rw (e2, e, n, h.2) refl)

first_lf : (k : ℕ) (cs : List ℕ) → First k cs (position_from is_lf k cs)
first_lf k [] = tt
first_lf k (c ∷ cs) = elim (cases_Bool (is_lf c)) [
  | inl y ↦ rw y (first_here k c cs y)
  | inr n ↦ rw n (first_later k c cs (position_from is_lf (k + 1) cs) n (first_lf (k + 1) cs))
]

pub no_lf : (cs : List ℕ) → position is_lf cs ≡ None → NoEnd cs
no_lf cs e = let P : Option ℕ → Type 0 = λ r. First 0 cs r in subst P (sym (position_from-zero is_lf cs) ∙ e) (first_lf 0 cs)

pub record AtLf (cs : List ℕ) (i : ℕ) : Type 0 where
  pub no_end : NoEnd (take i cs)
  pub parts : parts cs ≡ take i cs ∷ parts (drop (i + 1) cs)

pub at_lf : (cs : List ℕ) (i : ℕ) → position is_lf cs ≡ Some i → AtLf cs i
at_lf cs i e =
    let P : Option ℕ → Type 0 = λ r. First 0 cs r in
    let f = subst P (sym (position_from-zero is_lf cs) ∙ e) (first_lf 0 cs) in
    let z : i - 0 ≡ i = omega arith in
    record { no_end = rw z at f.1; parts = rw z at f.2 }
