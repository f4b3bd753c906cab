-- What a shelf of one film in the caller's memory tells.
use Rattle.std.specs.Prelude.{ℕ, zero, suc, if◌then◌else◌, List, Option, Some, None, Result, Ok, Err}
use Rattle.std.specs.Str.{bytes_eq}
use Rattle.mc_outside.specs.declared.slice.SliceShelf.{SliceShelf}
use Rattle.mc_outside.specs.declared.shelf.FileNo.{FileNo}
use Rattle.mc_outside.specs.declared.shelf.ShelfError.{ShelfError}
use Rattle.mc_outside.specs.declared.shelf.ShelfError.TheVariants.{NotFound}
use Rattle.mc_outside.specs.Shelf.{Files, Opened, content}

-- the name of its file
abbrev pub name_of : SliceShelf → List ℕ
name_of s = s.name.now

-- the octets of its file
abbrev pub octets_of : SliceShelf → List ℕ
octets_of s = s.octets.now

-- how far reads have asked
abbrev pub reach_of : SliceShelf → ℕ
reach_of s = s.reach

-- one file under one name
abbrev pub file_under : List ℕ → List ℕ → Files
file_under name octets asked = if bytes_eq name asked then Some octets else None

-- the first number stands for its name, and no other
abbrev pub first_is : List ℕ → Opened
first_is name zero = Some name
first_is name (suc k) = None

-- the octets under each name
abbrev pub told_by : SliceShelf → Files
told_by s = file_under (name_of s) (octets_of s)

-- it tells its file
abbrev pub tells : SliceShelf → Option Files
tells s = Some (told_by s)

-- the name for which each number stands
abbrev pub opened_by : SliceShelf → Opened
opened_by s = first_is (name_of s)

-- the octets of an opened file
abbrev pub told_in : SliceShelf → ℕ → Option (List ℕ)
told_in s file = content (tells s) (opened_by s) file

-- the number of the file of a name
abbrev pub number_of : SliceShelf → List ℕ → Result FileNo ShelfError
number_of s name = if bytes_eq (name_of s) name then Ok (record { 0 = 0 }) else Err NotFound
