-- What a film opens with, read on demand.
use Rattle.std.specs.Prelude.{◌≡◌, ℕ, ◌+◌, ◌≤◌, max, ◌==◌, if◌then◌else◌, List, Option, Some, None, IfSome, Result, Ok, Err, IsErrOf, ⊤}
use Rattle.mc_ebml.specs.declared.read.Head.{Head}
use Rattle.mc_ebml.specs.declared.read.Size.{Size}
use Rattle.mc_ebml.specs.declared.read.Size.TheVariants.{Known, Unknown}
use Rattle.mc_outside.specs.Causes.{Rose}
use Rattle.mc_tracks.specs.declared.refused.Refused.{Refused}
use Rattle.mc_tracks.specs.declared.refused.TracksError.{TracksError}
use Rattle.mc_tracks.specs.declared.refused.TracksError.TheVariants as causes
use Rattle.mc_ebml.specs.declared.whole.WholeElement.{WholeElement}
use Rattle.mc_ebml.specs.Whole.{whole_element}
use Rattle.mc_ebml.specs.Ids.{EBML_HEADER, INFO, TRACKS}
use Rattle.mc_walk.specs.declared.plan.Segment.{Segment}
use Rattle.mc_walk.specs.Opening.{opened_film, first_child}
use Rattle.mc_cursor.specs.declared.cursor.Cursor.{Cursor}
use Rattle.mc_cursor.specs.declared.error.CursorError.{CursorError}
use Rattle.mc_cursor.specs.declared.error.CursorError.TheVariants as failures
use Rattle.mc_cursor.specs.declared.error.OpenError.{OpenError}
use Rattle.mc_cursor.specs.declared.error.OpenError.TheVariants as refusals
use Rattle.mc_cursor.specs.declared.reading.Found.{Found}
use Rattle.mc_cursor.specs.declared.reading.Found.TheVariants as found
use Rattle.mc_cursor.specs.Standing.{StandsFor}

-- A count never falls, and a read fault comes only where it rose or stands at its last value.
pub record BeginCause {T : Type 0} (before now : ℕ) (result : Result T OpenError) : Type 0 where
  pub later : before ≤ now
  pub failed : IsErrOf result refusals.ReadFault → Rose before now

abbrev pub Fails : {Y : Type 0} → OpenError → Result Y Refused → Type 0
Fails (refusals.Refused r) value = value ≡ Err r
Fails refusals.ReadFault value = ⊤
Fails refusals.NoMemory value = ⊤

-- the answer is the value, unless a read failed or memory ran out
abbrev pub Gives : {Y : Type 0} → Result Y OpenError → Result Y Refused → Type 0
Gives (Ok x) value = value ≡ Ok x
Gives (Err e) value = Fails e value

-- the same where the value is not kept, but a part of it
abbrev pub Begins : List ℕ → Result Cursor OpenError → Type 0
Begins octets (Ok c) = StandsFor octets c
Begins octets (Err e) = Fails e (opened_film octets)

abbrev pub open_error : CursorError → OpenError
open_error failures.ReadFault = refusals.ReadFault
open_error failures.NoMemory = refusals.NoMemory

abbrev pub refusal : TracksError → OpenError
refusal (causes.Refused r) = refusals.Refused r
refusal causes.NoMemory = refusals.NoMemory

abbrev pub stop_of : ℕ → Size → ℕ
stop_of at Unknown = at
stop_of at (Known size) = at + size

-- how many octets tell whether a film begins with an EBML header, and what it says
abbrev pub header_span : Found → ℕ
header_span found.End = 12
header_span (found.Bad e) = 12
header_span (found.Element h) = if h.id == EBML_HEADER then max 12 (stop_of h.body h.size) else 12

-- the element at a place of a film of so many octets, by what was found there
abbrev pub whole_found : ℕ → ℕ → Found → Option WholeElement
whole_found len place found.End = None
whole_found len place (found.Bad e) = None
whole_found len place (found.Element h) = whole_element len place (Ok h)

-- what was found stands within so many octets
abbrev pub FoundIn : ℕ → Found → Type 0
FoundIn len found.End = ⊤
FoundIn len (found.Bad e) = ⊤
FoundIn len (found.Element h) = h.body ≤ len

abbrev pub head_in : Found → Option Head
head_in found.End = None
head_in (found.Bad e) = None
head_in (found.Element h) = Some h

-- ---- how far what a film opens with is read

abbrev pub stop_by : Option WholeElement → ℕ
stop_by None = 0
stop_by (Some c) = c.stop

-- the end of Info and that of Tracks, whichever is later
abbrev pub header_end : List ℕ → Segment → ℕ
header_end octets segment = max (stop_by (first_child octets segment INFO)) (stop_by (first_child octets segment TRACKS))

abbrev pub segment_for : Cursor → Segment
segment_for c = record { opening = c.opening; end = c.segment_end }

-- reads up to an element that was found go at most 12 octets behind it
abbrev pub ReadsUnder : ℕ → ℕ → Option WholeElement → Type 0
ReadsUnder before now found = IfSome found (λ c. now ≤ max before (c.stop + 12))
