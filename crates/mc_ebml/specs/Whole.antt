-- An element that stands whole within octets: its head can be read, its size is known, and its body ends within them (RFC 8794, section 6).
use Rattle.std.specs.Prelude.{ℕ, ◌+◌, ◌≤◌, ◌<◌, nat_le, if◌then◌else◌, List, length, Option, Some, None, Result, Ok, Err}
use Rattle.mc_ebml.specs.declared.read.Size.{Size}
use Rattle.mc_ebml.specs.declared.read.Size.TheVariants.{Known, Unknown}
use Rattle.mc_ebml.specs.declared.read.Head.{Head}
use Rattle.mc_ebml.specs.declared.read.EbmlError.{EbmlError}
use Rattle.mc_ebml.specs.declared.whole.WholeElement.{WholeElement}
use Rattle.mc_ebml.specs.Element.{head_at}

-- the element of this ID at a place, by the place at which its body begins and its size, within so many octets
abbrev pub known_element : ℕ → ℕ → ℕ → ℕ → Size → Option WholeElement
known_element len place id at Unknown = None
known_element len place id at (Known size) =
    if nat_le (at + size) len then Some (record { id = id; place = place; at = at; stop = at + size }) else None

-- the element at a place by its head
abbrev pub whole_element : ℕ → ℕ → Result Head EbmlError → Option WholeElement
whole_element len place (Err e) = None
whole_element len place (Ok head) = known_element len place head.id head.body head.size

-- the element at a place, where its head can be read, its size is known and it ends within the octets
unfoldable pub element_at : List ℕ → ℕ → Option WholeElement
element_at octets place = whole_element (length octets) place (head_at octets place)

-- an element lies within so many octets
abbrev pub LiesIn : ℕ → WholeElement → Type 0
LiesIn len c = (c.place < c.at) × (c.at ≤ c.stop) × (c.stop ≤ len)
