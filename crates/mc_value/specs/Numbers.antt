-- Numbers in decimal digits.
use Rattle.std.specs.Prelude.{ℕ, ℤ, pos, neg_ℤ, ◌+◌, ◌-◌, ◌*◌, ◌^◌, Bool, true, false, if◌then◌else◌, ◌==◌, nat_lt, nat_le, List, [], ◌∷◌, Option, Some, None}
use Rattle.std.specs.Char.{is_ascii_digit}

-- the number that digits stand for, behind a number already read
abbrev pub read_behind : ℕ → List ℕ → Option ℕ
read_behind n [] = Some n
read_behind n (c ∷ cs) = if is_ascii_digit c then read_behind (n * 10 + (c - 48)) cs else None

-- a number that 64 bits hold
abbrev pub below_word : Option ℕ → Option ℕ
below_word None = None
below_word (Some n) = if nat_lt n (2 ^ 64) then Some n else None

-- the number below 2^64 that one digit or more stand for
abbrev pub number_of : List ℕ → Option ℕ
number_of [] = None
number_of (c ∷ cs) = below_word (read_behind 0 (c ∷ cs))

-- a number and a sign, where an `i64` holds it
abbrev pub signed : Bool → Option ℕ → Option ℤ
signed minus None = None
signed true (Some n) = if nat_le n (2 ^ 63) then Some (neg_ℤ (pos n)) else None
signed false (Some n) = if nat_lt n (2 ^ 63) then Some (pos n) else None

-- the whole number that an optional `-` and digits stand for
abbrev pub whole_number_of : List ℕ → Option ℤ
whole_number_of [] = None
whole_number_of (c ∷ cs) =
    if c == 45 then signed true (number_of cs) else signed false (number_of (c ∷ cs))

-- a place in an array: a number without a needless 0 in front
abbrev pub place_of : List ℕ → Option ℕ
place_of [] = None
place_of (c ∷ []) = number_of (c ∷ [])
place_of (c ∷ d ∷ cs) = if c == 48 then None else number_of (c ∷ d ∷ cs)
