-- The first step of a path, and the rest.
use Rattle.std.proofs.Common.{◌≡◌, ◌+◌, ◌-◌, ◌≤◌, ◌<◌, ◌∷◌, [], List, ℕ, Bool, true, false, refl, arith, drop, take, length, if◌then◌else◌, ◌==◌, suc, sym, ap, ◌∙◌, subst}
use Rattle.std.specs.Prelude.{Option, Some, None, position}
use Rattle.std.proofs.Common.{length-drop}
use Rattle.std.proofs.lemmas.List.{take_all}
use Rattle.std.specs.List.{position_from}
use Rattle.std.specs.Option.{option_and_then}
use Rattle.std.proofs.lemmas.Iterator.Adapters.{position_from-zero}
use Rattle.mc_value.specs.Paths.{in_first, inner_at, last_at, steps, walked}
use Rattle.mc_value.specs.declared.value.Value.{Value, out-Value}

abbrev pub is_slash : ℕ → Bool
is_slash c = c == 47

-- a text's parts, by the place of its first slash
abbrev pub Cut : ℕ → List ℕ → List (List ℕ) → Option ℕ → Type 0
Cut k cs parts None = parts ≡ cs ∷ []
Cut k cs parts (Some i) = (k ≤ i) × (parts ≡ take (i - k) cs ∷ steps (drop (i - k + 1) cs))

pub here : (k c : ℕ) (cs : List ℕ) → Cut k (c ∷ cs) ([] ∷ steps cs) (Some k)
here k c cs = let z : k - k ≡ 0 = omega arith in (omega arith, rw z refl)

pub later : (k c : ℕ) (cs : List ℕ) (parts : List (List ℕ)) (r : Option ℕ) → Cut (k + 1) cs parts r → Cut k (c ∷ cs) (in_first c parts) r
later k c cs parts None h = rw h refl
later k c cs parts (Some i) h =
    let far : k + 1 ≤ i = h.0 in
    let e : i - k ≡ suc (i - (k + 1)) = omega arith in
    let e2 : i - k + 1 ≡ suc (i - (k + 1) + 1) = omega arith in
    (omega arith, rw (h.1, e2, e) refl)

pub steps_cut : (k : ℕ) (cs : List ℕ) → Cut k cs (steps cs) (position_from is_slash k cs)
steps_cut k [] = refl
steps_cut k (c ∷ cs) = elim (c == 47) as (λ b. Cut k (c ∷ cs) (if b then [] ∷ steps cs else in_first c (steps cs)) (if b then Some k else position_from is_slash (k + 1) cs)) [ true ↦ here k c cs | false ↦ later k c cs (steps cs) (position_from is_slash (k + 1) cs) (steps_cut (k + 1) cs) ]

pub whole_step : (cs : List ℕ) → position is_slash cs ≡ None → steps cs ≡ cs ∷ []
whole_step cs e = let P : Option ℕ → Type 0 = λ r. Cut 0 cs (steps cs) r in subst P (sym (position_from-zero is_slash cs) ∙ e) (steps_cut 0 cs)

pub first_step : (cs : List ℕ) (i : ℕ) → position is_slash cs ≡ Some i → steps cs ≡ take i cs ∷ steps (drop (i + 1) cs)
first_step cs i e =
    let P : Option ℕ → Type 0 = λ r. Cut 0 cs (steps cs) r in
    let z : i - 0 ≡ i = omega arith in
    rw z at ((subst P (sym (position_from-zero is_slash cs) ∙ e) (steps_cut 0 cs)).1)

pub in_first_any : (c : ℕ) (ps : List (List ℕ)) → 0 < length (in_first c ps)
in_first_any c [] = omega arith
in_first_any c (p ∷ ps) = omega arith

pub steps_any : (cs : List ℕ) → 0 < length (steps cs)
steps_any [] = omega arith
steps_any (c ∷ cs) = elim (c == 47) as (λ b. 0 < length (if b then [] ∷ steps cs else in_first c (steps cs))) [ true ↦ omega arith | false ↦ in_first_any c (steps cs) ]

pub walked_more : (v : Value) (s : List ℕ) (ps : List (List ℕ)) → 0 < length ps → walked v (s ∷ ps) ≡ option_and_then (λ w. walked w ps) (inner_at s (out-Value v))
walked_more v s [] h = absurd (omega arith)
walked_more v s (t ∷ ps) h = refl

pub walked_whole : (v : Value) (cs : List ℕ) → position is_slash cs ≡ None → walked v (steps cs) ≡ last_at cs (out-Value v)
walked_whole v cs e = ap (walked v) (whole_step cs e)

pub walked_first : (v : Value) (cs : List ℕ) (i : ℕ) → position is_slash cs ≡ Some i → walked v (steps cs) ≡ option_and_then (λ w. walked w (steps (drop (i + 1) cs))) (inner_at (take i cs) (out-Value v))
walked_first v cs i e = ap (walked v) (first_step cs i e) ∙ walked_more v (take i cs) (steps (drop (i + 1) cs)) (steps_any (drop (i + 1) cs))

-- the rest of a slice, as its bounds say it
pub rest_is : (k : ℕ) (cs : List ℕ) → take (length cs - k) (drop k cs) ≡ drop k cs
rest_is k cs = take_all (length cs - k) (drop k cs) (simp length-drop (omega arith))
