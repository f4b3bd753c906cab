-- Words of a rule over the views of a shared structure. A place of the list is the number of a token of the structure, and what stands there is what its holder knows.
use Rattle.std.specs.Prelude.{◌≡◌, ℕ, List}
use mathlib.Core.Option.{some}
use lib.ListN.{get_elem?}

module _ {V : Type 0} where
  -- each view has the property
  abbrev pub Each : (V → Type 0) → List V → Type 0
  Each P views = (i : ℕ) (v : V) → get_elem? views i ≡ some v → P v

  -- no two views have the same thing, a number
  abbrev pub Apart : (V → ℕ → Type 0) → List V → Type 0
  Apart P views = (i j n : ℕ) (v w : V) → get_elem? views i ≡ some v → get_elem? views j ≡ some w → P v n → P w n → i ≡ j
