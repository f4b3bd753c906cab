-- Places at which reads fail.
use Rattle.std.specs.Prelude.{ℕ, ◌+◌, ◌==◌, ◌&&◌, nat_lt, nat_le, not, Bool, List, filter}
use Rattle.std.specs.List.{list_any}

-- a file's place in its list, and an octet's place in the file
abbrev pub Spot : Type 0
Spot = ℕ × ℕ

-- whether a read of n octets of that file from pos on asks for the octet
abbrev pub is_asked : ℕ → ℕ → ℕ → Spot → Bool
is_asked file pos n spot = (spot.0 == file) && (nat_le pos spot.1 && nat_lt spot.1 (pos + n))

-- whether a read of n octets of that file from pos on asks for any of the spots
abbrev pub meets_spot : ℕ → ℕ → ℕ → List Spot → Bool
meets_spot file pos n spots = list_any (is_asked file pos n) spots

-- the spots that such a read does not ask for
abbrev pub left_of : ℕ → ℕ → ℕ → List Spot → List Spot
left_of file pos n spots = filter (λ (s : Spot). not (is_asked file pos n s)) spots
