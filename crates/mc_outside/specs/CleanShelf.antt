-- What a shelf in memory without spots tells.
use Rattle.std.specs.Prelude.{ℕ, List, Option}
use Rattle.mc_outside.specs.declared.memory.CleanShelf.{CleanShelf}
use Rattle.mc_outside.specs.declared.named.NamedFile.{NamedFile}
use Rattle.mc_outside.specs.Shelf.{Files, Opened}
use Rattle.mc_outside.specs.Named.{file_of, name_at, told_at}

-- its files
abbrev pub files_of : CleanShelf → List NamedFile
files_of s = s.files

-- how far reads have asked
abbrev pub reach_of : CleanShelf → ℕ
reach_of s = s.reach

-- the octets under each name
abbrev pub told_by : CleanShelf → Files
told_by s = file_of (files_of s)

-- the name at each place of the list
abbrev pub opened_by : CleanShelf → Opened
opened_by s = name_at (files_of s)

-- the octets of an opened file
abbrev pub told_in : CleanShelf → ℕ → Option (List ℕ)
told_in s file = told_at (files_of s) file
