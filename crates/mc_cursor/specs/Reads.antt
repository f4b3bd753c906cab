-- What reads on demand find of a film.
use Rattle.std.specs.Prelude.{◌≡◌, ℕ, ◌^◌, ◌<◌, ⊤, [], ◌∷◌, Bool, nat_lt, ◌==◌, if◌then◌else◌, List, length, slice_range, Option, Some, None, Result, Ok, Err}
use Rattle.mc_ebml.specs.declared.read.Head.{Head}
use Rattle.mc_ebml.specs.declared.read.EbmlError.{EbmlError}
use Rattle.mc_ebml.specs.Element.{head_at, IsSmall}
use Rattle.mc_block.specs.Fronts.{moved_by}
use Rattle.mc_outside.specs.Shelf.{Files, Opened, content_of}
use Rattle.mc_cursor.specs.declared.reading.Found.{Found}
use Rattle.mc_cursor.specs.declared.reading.Found.TheVariants as found

-- a fact of the octets of a file, where they are told
abbrev pub Told : Option (List ℕ) → (List ℕ → Type 0) → Type 0
Told content fact = (octets : List ℕ) → content ≡ Some octets → fact octets

-- the same of an opened file of a shelf, whose members are named once
abbrev pub InFile : {S : Type 0} → (S → Option Files) → (S → Opened) → S → ℕ → (List ℕ → Type 0) → Type 0
InFile files opened shelf file fact = Told (content_of files opened shelf file) fact

abbrev pub found_by : Result Head EbmlError → Found
found_by (Ok h) = found.Element h
found_by (Err e) = found.Bad e

-- what stands at a place from which these octets were read
abbrev pub found_in : List ℕ → ℕ → Found
found_in [] place = found.End
found_in (b ∷ bs) place = found_by (moved_by place (head_at (b ∷ bs) 0))

-- an element's body begins behind its place, and before place 2^63
abbrev pub Lies : ℕ → Found → Type 0
Lies place found.End = ⊤
Lies place (found.Element h) = (place < h.body) × (h.body < 2 ^ 63) × IsSmall h.size
Lies place (found.Bad e) = ⊤

-- what stands at a place of a film
abbrev pub found_at : List ℕ → ℕ → Found
found_at octets place = if place == length octets then found.End else found_by (head_at octets place)

-- whether a film ends before a place
abbrev pub ends_before : List ℕ → ℕ → Bool
ends_before octets stop = nat_lt (length octets) stop

-- the octets of a film from one place to another, where it reaches so far
abbrev pub part_of : List ℕ → ℕ → ℕ → Option (List ℕ)
part_of octets at stop = if ends_before octets stop then None else Some (slice_range octets at stop)
