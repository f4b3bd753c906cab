-- Elements that stand one behind the other, each in its shortest form (RFC 8794, sections 4 to 7).
use Rattle.std.specs.Prelude.{ℕ, List, [], ◌∷◌, ◌++◌}
use Rattle.byteorder.specs.Endian.{big_bytes}
use Rattle.mc_ebml.specs.Written.{element_octets, octets_of}

-- an element: its ID and its body
abbrev pub Element : Type 0
Element = ℕ × List ℕ

abbrev pub element_text : Element → List ℕ
element_text e = element_octets e.0 e.1

-- elements, one behind the other
abbrev pub elements : List Element → List ℕ
elements [] = []
elements (e ∷ es) = element_text e ++ elements es

-- one whose body is an unsigned integer
abbrev pub number : ℕ → ℕ → Element
number id n = (id, big_bytes (octets_of n) n)
