-- For private clauses: the lines of octets that are held and of a piece behind them.
use Rattle.std.specs.Prelude.{◌≡◌, ◌≤◌, ℕ, false, if◌then◌else◌, ◌==◌, List, [], ◌∷◌, ◌++◌, length, Option, Some, None}
use Rattle.std.specs.List.{AllByRecursion}
use Rattle.mc_ipc.specs.Lines.{is_lf, is_too_long, lines_of, long_place, longest_line, parts}
use Rattle.mc_ipc.specs.declared.cutting.Cutting.{Cutting}
use Rattle.mc_ipc.specs.declared.cutting.Cutting.TheVariants.{Open, TooLong}

-- octets that may begin a line
pub record IsOpen (octets : List ℕ) : Type 0 where
  pub no_end : AllByRecursion (λ c. is_lf c ≡ false) octets
  pub short : length octets ≤ longest_line

-- what was held belongs to the first line alone
abbrev pub kept : ℕ → List ℕ → List ℕ
kept ended held = if ended == 0 then held else []

-- the lines that were found stand in front, and what is left gives the other parts
pub record CutsTo (whole : List ℕ) (lines : List (List ℕ)) (left : List ℕ) : Type 0 where
  pub parts : parts whole ≡ lines ++ parts left
  pub short : AllByRecursion (λ l. is_too_long l ≡ false) lines

-- all lines were found, and the next part is too long, or is the last and open
abbrev pub IsCutOf : List ℕ → List ℕ → Cutting → Type 0
IsCutOf held piece (TooLong lines) =
    (lines ≡ lines_of (held ++ piece)) × (long_place (held ++ piece) ≡ Some (length lines))
IsCutOf held piece (Open lines rest) =
    (lines ≡ lines_of (held ++ piece)) × (long_place (held ++ piece) ≡ None)
    × (parts (held ++ piece) ≡ lines ++ (kept (length lines) held ++ rest.now) ∷ [])
    × IsOpen (kept (length lines) held ++ rest.now)
