-- What a shelf in memory tells.
use Rattle.std.specs.Prelude.{ℕ, List, Option}
use Rattle.mc_outside.specs.declared.memory.MemShelf.{MemShelf}
use Rattle.mc_outside.specs.declared.named.NamedFile.{NamedFile}
use Rattle.mc_outside.specs.Shelf.{Files, Opened}
use Rattle.mc_outside.specs.Named.{file_of, name_at, told_at}
use Rattle.mc_outside.specs.Spots.{Spot}

-- its files
abbrev pub files_of : MemShelf → List NamedFile
files_of s = s.clean.files

-- the spots for which no read has asked
abbrev pub spots_of : MemShelf → List Spot
spots_of s = s.spots

-- how many reads failed
abbrev pub faults_of : MemShelf → ℕ
faults_of s = s.faults

-- how far reads have asked
abbrev pub reach_of : MemShelf → ℕ
reach_of s = s.clean.reach

-- the octets under each name
abbrev pub told_by : MemShelf → Files
told_by s = file_of (files_of s)

-- the name at each place of the list
abbrev pub opened_by : MemShelf → Opened
opened_by s = name_at (files_of s)

-- the octets of an opened file
abbrev pub told_in : MemShelf → ℕ → Option (List ℕ)
told_in s file = told_at (files_of s) file
