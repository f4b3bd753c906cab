-- What a shelf of files means.
use Rattle.std.specs.Prelude.{◌≡◌, ℕ, ◌+◌, ◌-◌, ◌^◌, ◌<◌, ◌≤◌, min, max, List, length, take, drop, Option, Some, None, IfSome, Result, Ok, Err, IsErrOf}
use Rattle.std.specs.List.{All}
use Rattle.mc_outside.specs.declared.shelf.ShelfError.{ShelfError}
use Rattle.mc_outside.specs.declared.shelf.ShelfError.TheVariants.{NotFound, Failed, NoMemory}
use Rattle.mc_outside.specs.Causes.{Rose, counted}

-- The octets under each name.
abbrev pub Files : Type 0
Files = List ℕ → Option (List ℕ)

-- The name for which each number stands.
abbrev pub Opened : Type 0
Opened = ℕ → Option (List ℕ)

-- the octets under a name, if there is one
abbrev pub octets_under : Files → Option (List ℕ) → Option (List ℕ)
octets_under files None = None
octets_under files (Some name) = files name

-- The octets of an opened file, where they are told.
abbrev pub content : Option Files → Opened → ℕ → Option (List ℕ)
content None opened file = None
content (Some files) opened file = octets_under files (opened file)

-- No entry changes or goes.
abbrev pub KeepsOpened : Opened → Opened → Type 0
KeepsOpened old new = (k : ℕ) (name : List ℕ) → old k ≡ Some name → new k ≡ Some name

-- the shelf has octets under the name
abbrev pub IsTold : Option (List ℕ) → Type 0
IsTold None = ⊥
IsTold (Some octets) = Unit {0}

-- Every told file has at most 2^63 - 1 octets.
abbrev pub AreShort : Option Files → Type 0
AreShort None = Unit {0}
AreShort (Some files) = (name : List ℕ) → IfSome (files name) (λ octets. length octets < 2 ^ 63)

-- These numbers are octets.
abbrev pub AreBytes : List ℕ → Type 0
AreBytes octets = All (λ b. b < 256) octets

-- Every told file is a list of octets.
abbrev pub HoldBytes : Option Files → Type 0
HoldBytes None = Unit {0}
HoldBytes (Some files) = (name : List ℕ) → IfSome (files name) AreBytes

-- An opened number stands for the name, which the told files have.
abbrev pub Opens : Option Files → Opened → List ℕ → ℕ → Type 0
Opens None opened name file = Unit {0}
Opens (Some files) opened name file = (opened file ≡ Some name) × IsTold (files name)

-- The told files lack the name.
abbrev pub Lacks : Option Files → List ℕ → Type 0
Lacks None name = ⊥
Lacks (Some files) name = files name ≡ None

-- Why a file was not opened.
pub record OpenCause {T : Type 0} (files : Option Files) (name : List ℕ) (before now : ℕ) (result : Result T ShelfError) : Type 0 where
  pub later : before ≤ now
  pub not_found : IsErrOf result NotFound → Lacks files name
  pub failed : IsErrOf result Failed → Rose before now

-- The first n octets of buf are those of the file from pos on: some where there are any.
abbrev pub Reads : Option (List ℕ) → ℕ → List ℕ → ℕ → Type 0
Reads None pos buf n = Unit {0}
Reads (Some octets) pos buf n = (take n buf ≡ take n (drop pos octets)) × (n ≤ length octets - pos)
    × (0 < length buf → pos < length octets → 0 < n)

-- The count of what was read is in bounds: no octet stands at or past 2^63 - 1.
abbrev pub InBounds : ℕ → List ℕ → ℕ → Type 0
InBounds pos buf n = (n ≤ length buf) × (n ≤ 2 ^ 63 - 1 - pos)

-- The first n octets of buf are all that fit it of the file from pos on.
abbrev pub ReadsFull : Option (List ℕ) → ℕ → List ℕ → ℕ → Type 0
ReadsFull None pos buf n = Unit {0}
ReadsFull (Some octets) pos buf n = take n buf ≡ take (length buf) (drop pos octets)

-- A read changes nothing but the reach, and asks no further than `asked`.
pub record KeepsRead (files files' : Option Files) (opened opened' : Opened) (reach reach' asked : ℕ) : Type 0 where
  pub same_files : files' ≡ files
  pub same_opened : opened' ≡ opened
  pub later : reach ≤ reach'
  pub within : reach' ≤ max reach asked

-- Opening changes nothing but the numbers that stand for names.
pub record KeepsOpen (files files' : Option Files) (opened opened' : Opened) (reach reach' : ℕ) : Type 0 where
  pub same_files : files' ≡ files
  pub kept : KeepsOpened opened opened'
  pub same_reach : reach' ≡ reach

-- ---- the same of a shelf, whose members are named once

-- The octets of an opened file, where the shelf tells them.
abbrev pub content_of : {S : Type 0} → (S → Option Files) → (S → Opened) → S → ℕ → Option (List ℕ)
content_of files opened shelf file = content (files shelf) (opened shelf) file

-- A read changed nothing of the shelf but its reach, and asked no further than to a place.
abbrev pub OnlyReadsTo : {S : Type 0} → (S → Option Files) → (S → Opened) → (S → ℕ) → S → S → ℕ → Type 0
OnlyReadsTo files opened reach old new asked = KeepsRead (files old) (files new) (opened old) (opened new) (reach old) (reach new) asked

-- Opening changed nothing of the shelf but its numbers.
abbrev pub OnlyOpens : {S : Type 0} → (S → Option Files) → (S → Opened) → (S → ℕ) → S → S → Type 0
OnlyOpens files opened reach old new = KeepsOpen (files old) (files new) (opened old) (opened new) (reach old) (reach new)

-- ---- the counts

-- how far reads have asked after one of n octets from pos on, as far as a counter of 64 bits goes
abbrev pub reach_after : ℕ → ℕ → ℕ → ℕ
reach_after reach pos n = max reach (min (pos + n) (2 ^ 64 - 1))

-- how many calls failed after one that opened a file, where each failure counts
abbrev pub faults_after_open : {T : Type 0} → Result T ShelfError → ℕ → ℕ
faults_after_open (Ok file) faults = faults
faults_after_open (Err NotFound) faults = faults
faults_after_open (Err Failed) faults = counted faults
faults_after_open (Err NoMemory) faults = faults

-- how many calls failed after one that read, where each failure counts
abbrev pub faults_after_read : {T E : Type 0} → Result T E → ℕ → ℕ
faults_after_read (Ok count) faults = faults
faults_after_read (Err e) faults = counted faults
