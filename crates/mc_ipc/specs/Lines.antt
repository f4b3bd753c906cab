-- The lines of an input, and an input that comes in pieces.
use Rattle.std.specs.Prelude.{◌≡◌, ℕ, ◌+◌, min, Bool, true, false, not, if◌then◌else◌, ◌==◌, nat_lt, List, [], ◌∷◌, ◌++◌, length, position, Option, Some, None, option_map}
use Rattle.std.specs.List.{slice_split, take_while, concat}

-- Lines

-- the octets that a line may have, without its LF
abbrev pub longest_line : ℕ
longest_line = 65536

abbrev pub is_lf : ℕ → Bool
is_lf c = c == 10

-- what stands before each LF, and behind the last one
abbrev pub parts : List ℕ → List (List ℕ)
parts input = slice_split is_lf input

-- the parts that an LF ends: all but the last
abbrev pub ended : List (List ℕ) → List (List ℕ)
ended [] = []
ended (p ∷ []) = []
ended (p ∷ q ∷ ps) = p ∷ ended (q ∷ ps)

-- the last part, which no LF has ended yet
abbrev pub open_part : List (List ℕ) → List ℕ
open_part [] = []
open_part (p ∷ []) = p
open_part (p ∷ q ∷ ps) = open_part (q ∷ ps)

-- more octets than a line may have
abbrev pub is_too_long : List ℕ → Bool
is_too_long part = nat_lt longest_line (length part)

abbrev pub is_short : List ℕ → Bool
is_short part = not (is_too_long part)

-- the lines of an input: the parts that an LF ends, up to and without the first that is too long
abbrev pub lines_of : List ℕ → List (List ℕ)
lines_of input = take_while is_short (ended (parts input))

-- how many parts stand before the first that is too long, whether an LF ends it or not
abbrev pub long_place : List ℕ → Option ℕ
long_place input = position is_too_long (parts input)

-- a line's number, where that of the first is given; 2^32 - 1 stands for each greater one
abbrev pub numbered : ℕ → ℕ → ℕ
numbered first place = min (first + place) 4294967295

-- the number, from 1, of the first line that is too long
abbrev pub long_of : List ℕ → Option ℕ
long_of input = option_map (numbered 1) (long_place input)

-- Pieces

-- what is kept between two pieces: the octets of the open line, its number, and whether it is too
-- long; then none of its octets is kept
pub record CutState : Type 0 where
  pub held : List ℕ
  pub number : ℕ
  pub is_long : Bool

-- nothing has come yet
abbrev pub new_cut : CutState
new_cut = record { held = []; number = 1; is_long = false }

-- the lines that a piece makes whole
abbrev pub given : CutState → List ℕ → List (List ℕ)
given c piece = if c.is_long then [] else lines_of (c.held ++ piece)

-- the number of the line that is too long, where there is one
abbrev pub long_by : CutState → List ℕ → Option ℕ
long_by c piece =
    if c.is_long then Some c.number else
    option_map (numbered c.number) (long_place (c.held ++ piece))

-- the line at a place is too long; else the last part is open
abbrev pub left_at : ℕ → List (List ℕ) → Option ℕ → CutState
left_at first ps (Some i) = record { held = []; number = numbered first i; is_long = true }
left_at first ps None = record {
  held = open_part ps;
  number = numbered first (length (ended ps));
  is_long = false;
}

-- what a piece leaves
abbrev pub after : CutState → List ℕ → CutState
after c piece =
    if c.is_long then c else
    left_at c.number (parts (c.held ++ piece)) (long_place (c.held ++ piece))

-- what pieces leave, one after another
abbrev pub after_all : CutState → List (List ℕ) → CutState
after_all c [] = c
after_all c (p ∷ ps) = after_all (after c p) ps

-- the lines that pieces give, one after another
abbrev pub given_by_all : CutState → List (List ℕ) → List (List ℕ)
given_by_all c [] = []
given_by_all c (p ∷ ps) = given c p ++ given_by_all (after c p) ps

-- the pieces together gave the lines of the whole input, and a further piece tells of its first
-- line that is too long
pub record CutsAsWhole (c : CutState) (pieces : List (List ℕ)) : Type 0 where
  pub lines : given_by_all c pieces ≡ lines_of (concat pieces)
  pub long : (piece : List ℕ)
      → long_by (after_all c pieces) piece ≡ long_of (concat pieces ++ piece)

-- so it is for every list of pieces: it makes no difference where an input is cut
abbrev pub CutsAnywhere : CutState → Type 0
CutsAnywhere c = (pieces : List (List ℕ)) → CutsAsWhole c pieces
