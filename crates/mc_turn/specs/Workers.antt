-- What a worker is given, and what the calls of one caller left in a journal: at one turn, and over many.
use Rattle.std.specs.Prelude.{◌≡◌, ℕ, false, List, ◌++◌}
use Rattle.std.specs.List.{AllByRecursion}
use Rattle.mc_turn.specs.Callers.{Makes}
use Rattle.mc_turn.specs.Passes.{Known, Lock}

-- a pass with which a turn can be taken: it is of this lock, has these numbers, and is outside
abbrev pub IsReady : {E : Type 0} → Lock → List ℕ → Known E → Type 0
IsReady lock numbers pass = (pass.lock ≡ lock) × (pass.inside ≡ false) × (pass.numbers ≡ numbers)

module _ {E : Type 0} (by : E → ℕ) where
  -- one turn: the new journal is the old one, and behind it entries of the caller n, each of which is such
  pub record GrewAs (P : E → Type 0) (n : ℕ) (old new : List E) : Type 0 where
    pub more : List E
    pub grows : new ≡ old ++ more
    pub are : AllByRecursion (λ x. by x ≡ n) more
    pub such : AllByRecursion P more

  -- the same, and nothing is said of what the entries are
  abbrev pub Grew : ℕ → List E → List E → Type 0
  Grew n old new = GrewAs (λ _. Unit {0}) n old new

  -- many turns: the caller n has in ys what it has in xs, and then these calls, each of which is such
  pub record Made (P : E → Type 0) (n : ℕ) (xs ys : List E) : Type 0 where
    pub calls : List E
    pub makes : Makes by n calls xs ys
    pub are : AllByRecursion P calls

  -- a pass of the one number n went through a worker's hands: it is outside, has that number still, and the worker made such calls
  pub record Worked (P : E → Type 0) (n : ℕ) (before after : Known E) : Type 0 where
    pub lock : after.lock ≡ before.lock
    pub outside : after.inside ≡ false
    pub numbers : after.numbers ≡ before.numbers
    pub made : Made P n before.seen after.seen
