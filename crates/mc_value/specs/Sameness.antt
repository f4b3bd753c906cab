-- Whether two values are the same, as a test.
use Rattle.std.specs.Prelude.{◌≡◌, ◌↔◌, IsTrue, Bool, true, false, not, if◌then◌else◌, ◌&&◌, ℕ, List, [], ◌∷◌}
use Rattle.std.specs.Ordering.{int_eq}
use Rattle.std.specs.Str.{bytes_eq}
use Rattle.mc_value.specs.declared.value.Value.{Value, fold-Value, out-Value}
use Rattle.mc_value.specs.declared.value.Value.TheOpen.{Value-F}

-- a test of one value
abbrev pub Test : Type 0
Test = Value → Bool

-- there are as many values as tests, and each passes its own
abbrev pub all_pass : List Test → List Value → Bool
all_pass [] [] = true
all_pass (t ∷ ts) (v ∷ vs) = t v && all_pass ts vs
all_pass _ _ = false

-- so with a name before each
abbrev pub pairs_pass : List (List ℕ × Test) → List (List ℕ × Value) → Bool
pairs_pass [] [] = true
pairs_pass (t ∷ ts) (p ∷ ps) = (bytes_eq t.0 p.0 && t.1 p.1) && pairs_pass ts ps
pairs_pass _ _ = false

-- one level against another, with a test for each value inside
abbrev pub same_level : Value-F Test → Value-F Value → Bool
same_level Value-F.None Value-F.None = true
same_level (Value-F.Str s) (Value-F.Str t) = bytes_eq s t
same_level (Value-F.Flag a) (Value-F.Flag b) = if a then b else not b
same_level (Value-F.Int m) (Value-F.Int n) = int_eq m n
same_level (Value-F.Array ts) (Value-F.Array vs) = all_pass ts vs
same_level (Value-F.Map ts) (Value-F.Map ps) = pairs_pass ts ps
same_level _ _ = false

-- both are of one kind, with the same text or number, or the same values (in a map with the same
-- names) in the same order
abbrev pub same_value : Value → Value → Bool
same_value = fold-Value Test (λ tests w. same_level tests (out-Value w))

-- the test passes just where both are one value
abbrev pub SameIsExact : Type 0
SameIsExact = (v w : Value) → IsTrue (same_value v w) ↔ (v ≡ w)
