-- The names in a command line.
use Rattle.std.specs.Prelude.{ℕ, Bool, false, not, ◌==◌, List, [], ◌∷◌}

-- a name is not empty and does not begin with a dash
abbrev pub is_name : List ℕ → Bool
is_name [] = false
is_name (c ∷ cs) = not (c == 45)
