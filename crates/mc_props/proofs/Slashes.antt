-- The part of a path behind its last slash, one slash at a time.
use Rattle.std.proofs.Common.{◌≡◌, ℕ, suc, ◌+◌, ◌<◌, Bool, true, false, not, cond, ◌||◌, ◌==◌, List, [], ◌∷◌, length, drop, refl, sym, ap, ◌∙◌, arith}
use Rattle.std.specs.List.{after_first, list_any, position_or_len}
use Rattle.mc_props.specs.Standard.{file_part}

abbrev is_slash : ℕ → Bool
is_slash c = c == 47

abbrev place : List ℕ → ℕ
place s = position_or_len is_slash s

none_at : (b : Bool) (n m : ℕ) (rest : Bool) → (n ≡ m → rest ≡ false) → cond (not b) (1 + n) 0 ≡ suc m → (b || rest) ≡ false
none_at true n m rest ih e = absurd (omega (arith, e))
none_at false n m rest ih e = let k : n ≡ m = omega (arith, e) in ih k

none_any : (s : List ℕ) → place s ≡ length s → list_any is_slash s ≡ false
none_any [] e = refl
none_any (c ∷ cs) e = none_at (is_slash c) (place cs) (length cs) (list_any is_slash cs) (none_any cs) e

some_at : (b : Bool) (n m : ℕ) (rest : Bool) → (n < m → rest ≡ true) → cond (not b) (1 + n) 0 < suc m → (b || rest) ≡ true
some_at true n m rest ih e = refl
some_at false n m rest ih e = let k : n < m = omega (arith, e) in ih k

some_any : (s : List ℕ) → place s < length s → list_any is_slash s ≡ true
some_any [] e = absurd (omega (arith, e))
some_any (c ∷ cs) e = some_at (is_slash c) (place cs) (length cs) (list_any is_slash cs) (some_any cs) e

pub without_slash : (s : List ℕ) → place s ≡ length s → s ≡ file_part s
without_slash [] e = refl
without_slash (c ∷ cs) e = let none : list_any is_slash (c ∷ cs) ≡ false = none_any (c ∷ cs) e in rw none refl

goes_on : (c : ℕ) (cs : List ℕ) (b : Bool) → is_slash c ≡ b → (place cs < length cs → file_part (after_first is_slash cs) ≡ file_part cs)
    → place (c ∷ cs) < length (c ∷ cs) → file_part (drop (cond (not b) (1 + place cs) 0 + 1) (c ∷ cs)) ≡ file_part cs
goes_on c cs true is ih lt = refl
goes_on c cs false is ih lt =
    let at : place (c ∷ cs) ≡ 1 + place cs = rw is refl in
    let k : place cs < length cs = omega (arith, at, lt) in
    let same : drop (1 + place cs + 1) (c ∷ cs) ≡ drop (place cs + 1) cs = let n : 1 + place cs + 1 ≡ suc (place cs + 1) = omega arith in rw n refl in
    ap file_part same ∙ ih k

pub behind_slash : (s : List ℕ) → place s < length s → file_part (after_first is_slash s) ≡ file_part s
behind_slash [] lt = refl
behind_slash (c ∷ cs) lt =
    let some : list_any is_slash (c ∷ cs) ≡ true = some_any (c ∷ cs) lt in
    let one : file_part (c ∷ cs) ≡ file_part cs = rw some refl in
    goes_on c cs (is_slash c) refl (behind_slash cs) lt ∙ sym one
