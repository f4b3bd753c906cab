-- The first part that is too long, and the lines before it, in a longer list of parts.
use Rattle.std.proofs.Common.{◌≡◌, ◌+◌, ◌<◌, ◌≤◌, ◌==◌, ℕ, zero, suc, Bool, true, false, not, cond, List, [], ◌∷◌, ◌++◌, Option, Some, None, length, take, position, option_map, refl, sym, ap, subst, ◌∙◌, arith, append-nil, inl, inr, nat_lt, length-append}
use Rattle.std.specs.List.{prefix_len, take_while}
use Rattle.std.proofs.lemmas.List.Sums.{take_while-cons}
use Rattle.std.proofs.lemmas.Bool.{cases_Bool, ltb-true, ltb-false, lt-ltb, le-ltb}
use Rattle.mc_ipc.specs.Lines.{ended, is_short, is_too_long, longest_line, open_part}
use Rattle.mc_ipc.proofs.Parts.{HasFirst, ended_cons}

-- the place of the first part that is too long, and the lines before it
abbrev pub place : List (List ℕ) → Option ℕ
place ps = position is_too_long ps

abbrev pub lines : List (List ℕ) → List (List ℕ)
lines ps = take_while is_short (ended ps)

abbrev pub later : ℕ → Option ℕ → Option ℕ
later n o = option_map (λ i. n + i) o

place_short_by : (p : List ℕ) (ps : List (List ℕ)) (b : Bool) → nat_lt (prefix_len is_short ps) (length ps) ≡ b
    → cond (nat_lt (1 + prefix_len is_short ps) (length (p ∷ ps))) (Some (1 + prefix_len is_short ps)) None ≡ later 1 (cond b (Some (prefix_len is_short ps)) None)
place_short_by p ps true e =
    let l = ltb-true (prefix_len is_short ps) (length ps) e in
    let f : nat_lt (1 + prefix_len is_short ps) (length (p ∷ ps)) ≡ true = lt-ltb (1 + prefix_len is_short ps) (length (p ∷ ps)) (omega arith) in
    rw f refl
place_short_by p ps false e =
    let l = ltb-false (prefix_len is_short ps) (length ps) e in
    let f : nat_lt (1 + prefix_len is_short ps) (length (p ∷ ps)) ≡ false = le-ltb (1 + prefix_len is_short ps) (length (p ∷ ps)) (omega arith) in
    rw f refl

pub place_short : (p : List ℕ) (ps : List (List ℕ)) → is_too_long p ≡ false → place (p ∷ ps) ≡ later 1 (place ps)
place_short p ps n = rw n (place_short_by p ps (nat_lt (prefix_len is_short ps) (length ps)) refl)

pub place_long : (p : List ℕ) (ps : List (List ℕ)) → is_too_long p ≡ true → place (p ∷ ps) ≡ Some 0
place_long p ps y =
    let z : nat_lt 0 (length (p ∷ ps)) ≡ true = lt-ltb 0 (length (p ∷ ps)) (omega arith) in
    rw (y, z) refl

pub lines_short : (p : List ℕ) (ps : List (List ℕ)) → HasFirst ps → is_too_long p ≡ false → lines (p ∷ ps) ≡ p ∷ lines ps
lines_short p ps h n = ap (take_while is_short) (ended_cons p ps h) ∙ take_while-cons is_short p (ended ps) ∙ rw n refl

lines_long_by : (p : List ℕ) (ps : List (List ℕ)) → is_too_long p ≡ true → take_while is_short (p ∷ ps) ≡ []
lines_long_by p ps y = rw y refl

pub lines_long : (p : List ℕ) (ps : List (List ℕ)) → is_too_long p ≡ true → lines (p ∷ ps) ≡ []
lines_long p [] y = refl
lines_long p (q ∷ ps) y = lines_long_by p (ended (q ∷ ps)) y

-- ---- parts that stand in front

-- What parts in front of others change, by the first too long one among them and the open part: where
-- there is one, it stays so; else those in front count as well.
abbrev pub Grows : Option ℕ → List (List ℕ) → List ℕ → List (List ℕ) → Type 0
Grows None es o ps = (place (es ++ ps) ≡ later (length es) (place ps)) × (lines (es ++ ps) ≡ lines (es ++ o ∷ []) ++ lines ps)
Grows (Some i) es o ps = (place (es ++ ps) ≡ Some i) × (lines (es ++ ps) ≡ lines (es ++ o ∷ []))

later_zero : (r : Option ℕ) → r ≡ later 0 r
later_zero None = refl
later_zero (Some i) = let e : i ≡ 0 + i = omega arith in ap (λ x. Some x) e

later_more : (n : ℕ) (r : Option ℕ) → later 1 (later n r) ≡ later (suc n) r
later_more n None = refl
later_more n (Some i) = let e : 1 + (n + i) ≡ suc n + i = omega arith in ap (λ x. Some x) e

first_append : (es ps : List (List ℕ)) → HasFirst ps → HasFirst (es ++ ps)
first_append [] ps h = h
first_append (e ∷ es) ps h = (e, es ++ ps, refl)

grows_alone : (o q : List ℕ) (qs : List (List ℕ)) (r : Option ℕ) → place (o ∷ []) ≡ r → (is_too_long o ≡ true → is_too_long (o ++ q) ≡ true) → Grows r [] o ((o ++ q) ∷ qs)
grows_alone o q qs None e h = (later_zero (place ((o ++ q) ∷ qs)), refl)
grows_alone o q qs (Some i) e h = elim (cases_Bool (is_too_long o)) [
  | inl y ↦
      let z : Some 0 ≡ Some i = sym (place_long o [] y) ∙ e in
      (place_long (o ++ q) qs (h y) ∙ z, lines_long (o ++ q) qs (h y))
  | inr n ↦ let z : None ≡ Some i = sym (place_short o [] n) ∙ e in absurd (cc)
]

grows_more : (e : List ℕ) (es : List (List ℕ)) (o : List ℕ) (ps : List (List ℕ)) (r : Option ℕ) → is_too_long e ≡ false → HasFirst ps → Grows r es o ps
    → Grows (later 1 r) (e ∷ es) o ps
grows_more e es o ps None n h g = (
  place_short e (es ++ ps) n ∙ ap (later 1) g.0 ∙ later_more (length es) (place ps),
  lines_short e (es ++ ps) (first_append es ps h) n ∙ ap (λ xs. e ∷ xs) g.1
      ∙ ap (λ xs. xs ++ lines ps) (sym (lines_short e (es ++ o ∷ []) (first_append es (o ∷ []) (o, [], refl)) n)),
)
grows_more e es o ps (Some i) n h g = (
  place_short e (es ++ ps) n ∙ ap (later 1) g.0,
  lines_short e (es ++ ps) (first_append es ps h) n ∙ ap (λ xs. e ∷ xs) g.1 ∙ sym (lines_short e (es ++ o ∷ []) (first_append es (o ∷ []) (o, [], refl)) n),
)

-- a part that is too long stays so with more octets behind it
longer : (o q : List ℕ) → is_too_long o ≡ true → is_too_long (o ++ q) ≡ true
longer o q y =
    let a : 65536 < length o = ltb-true 65536 (length o) y in
    let b : length (o ++ q) ≡ length o + length q = length-append o q in
    lt-ltb 65536 (length (o ++ q)) (omega arith)

pub grows : (es : List (List ℕ)) (o q : List ℕ) (qs : List (List ℕ)) → Grows (place (es ++ o ∷ [])) es o ((o ++ q) ∷ qs)
grows [] o q qs = grows_alone o q qs (place (o ∷ [])) refl (longer o q)
grows (e ∷ es) o q qs = elim (cases_Bool (is_too_long e)) [
  | inl y ↦
      let P : Option ℕ → Type 0 = λ r. Grows r (e ∷ es) o ((o ++ q) ∷ qs) in
      subst P (sym (place_long e (es ++ o ∷ []) y))
      (place_long e (es ++ (o ++ q) ∷ qs) y, lines_long e (es ++ (o ++ q) ∷ qs) y ∙ sym (lines_long e (es ++ o ∷ []) y))
  | inr n ↦
      let P : Option ℕ → Type 0 = λ r. Grows r (e ∷ es) o ((o ++ q) ∷ qs) in
      subst P (sym (place_short e (es ++ o ∷ []) n))
      (grows_more e es o ((o ++ q) ∷ qs) (place (es ++ o ∷ [])) n (o ++ q, qs, refl) (grows es o q qs))
]
