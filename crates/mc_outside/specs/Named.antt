-- Files in memory, in a list: a name is that of the first file which has it.
use Rattle.std.specs.Prelude.{ℕ, ◌^◌, nat_lt, if◌then◌else◌, List, [], Option, Some, None, Result, Ok, Err, take, drop, slice_get, option_map, find, string_bytes}
use Rattle.std.specs.List.{position_from}
use Rattle.std.specs.Str.{bytes_eq}
use Rattle.mc_outside.specs.declared.named.NamedFile.{NamedFile}
use Rattle.mc_outside.specs.declared.shelf.FileNo.{FileNo}
use Rattle.mc_outside.specs.declared.shelf.ShelfError.{ShelfError}
use Rattle.mc_outside.specs.declared.shelf.ShelfError.TheVariants.{NotFound, NoMemory}
use Rattle.mc_outside.specs.Shelf.{Files, Opened, content}

-- the name of a file
abbrev pub name_of : NamedFile → List ℕ
name_of f = string_bytes f.name

-- the octets of a file
abbrev pub octets_of : NamedFile → List ℕ
octets_of f = f.body.items

-- the first file of that name
abbrev pub first_named : List NamedFile → List ℕ → Option NamedFile
first_named files name = find (λ (f : NamedFile). bytes_eq (name_of f) name) files

-- the octets of the first file of that name
abbrev pub file_of : List NamedFile → Files
file_of files name = option_map octets_of (first_named files name)

-- the name of the file at a place of the list
abbrev pub name_at : List NamedFile → Opened
name_at files k = option_map name_of (slice_get files k)

-- the octets of the file whose number is a place of the list
abbrev pub told_at : List NamedFile → ℕ → Option (List ℕ)
told_at files k = content (Some (file_of files)) (name_at files) k

-- the place of the first file of that name
abbrev pub place_of : List NamedFile → List ℕ → Option ℕ
place_of files name = position_from (λ (f : NamedFile). bytes_eq (name_of f) name) 0 files

-- the number of a file at a place; there are 2^32 numbers
abbrev pub numbered : Option ℕ → Result FileNo ShelfError
numbered None = Err NotFound
numbered (Some place) = if nat_lt place (2 ^ 32) then Ok (record { 0 = place }) else Err NoMemory

-- what a file has of the n octets from pos on
abbrev pub part_of : Option (List ℕ) → ℕ → ℕ → List ℕ
part_of None pos n = []
part_of (Some octets) pos n = take n (drop pos octets)
