-- What the octets with which something begins tell of it: an element's head, and the sizes of a lace.
use Rattle.std.specs.Prelude.{◌≡◌, ℕ, ◌+◌, ◌≤◌, Bool, false, nat_le, if◌then◌else◌, List, ◌∷◌, length, drop, sum, Option, Some, None, unwrap_or, ⊤, Result, Ok, Err}
use Rattle.mc_ebml.specs.declared.read.Head.{Head}
use Rattle.mc_ebml.specs.declared.read.EbmlError.{EbmlError}
use Rattle.mc_ebml.specs.declared.whole.WholeElement.{WholeElement}
use Rattle.mc_ebml.specs.Whole.{whole_element}
use Rattle.mc_block.specs.declared.error.BlockError.{BlockError}
use Rattle.mc_block.specs.declared.error.BlockError.TheVariants.{BadLace}
use Rattle.mc_block.specs.declared.lace.Lacing.{Lacing}
use Rattle.mc_block.specs.declared.lace.Lacing.TheVariants.{Ebml}
use Rattle.mc_block.specs.declared.lace_reader.LaceReader.{LaceReader}
use Rattle.mc_block.specs.Frames.{Front, coded_sizes, frames_of}

-- ---- an element's head

-- a head that was read by itself, at a place of longer octets
abbrev pub moved_by : ℕ → Result Head EbmlError → Result Head EbmlError
moved_by place (Ok h) = Ok (record { id = h.id; size = h.size; body = place + h.body })
moved_by place (Err e) = Err e

-- the child of a group, which has so many octets, by its head, which was read by itself, at a place
abbrev pub child_by : ℕ → ℕ → Result Head EbmlError → Option WholeElement
child_by place len head = whole_element len place (moved_by place head)

-- ---- the sizes of a lace

-- the sizes of a lace that is not coded by numbers are sums of octets
abbrev pub ReadsByOctets : Lacing → Type 0
ReadsByOctets Ebml = ⊥
ReadsByOctets other = ⊤

-- whether frames of these sizes fit into what is left behind the sizes, beside so many octets
abbrev pub fits : ℕ → Front (List ℕ) → Bool
fits claimed None = false
fits claimed (Some x) = nat_le (claimed + sum x.0) (length x.1)

-- whether the sizes that are still wanted stand in front of these octets, and leave room for all frames
abbrev pub is_good : LaceReader → List ℕ → Bool
is_good lace octets = fits lace.claimed (coded_sizes lace.lacing lace.wanted lace.before octets)

-- what is claimed fits into what is left of the block, and the size before is a part of it
abbrev pub FitsIn : ℕ → LaceReader → Type 0
FitsIn left lace = (unwrap_or lace.before 0 ≤ lace.claimed) × (lace.claimed ≤ left)

-- whether the lace is good is the same where it is read on, so many octets further
abbrev pub ReadsOn : LaceReader → List ℕ → Option (LaceReader × ℕ) → Type 0
ReadsOn lace octets None = is_good lace octets ≡ false
ReadsOn lace octets (Some x) = is_good x.0 (drop x.1 octets) ≡ is_good lace octets

-- ---- the frames of a lace

-- how many frames there are
abbrev pub counted : Result (List (ℕ × ℕ)) BlockError → Result ℕ BlockError
counted (Ok spans) = Ok (length spans)
counted (Err e) = Err e

-- a good lace has one frame more than its count octet says
abbrev pub frames_if : Bool → ℕ → Result ℕ BlockError
frames_if good n = if good then Ok (n + 1) else Err BadLace

-- whether a lace with that count octet is good is what the reader with which it begins finds
abbrev pub Begins : ℕ → ℕ → List ℕ → Option LaceReader → Type 0
Begins flags n octets None = counted (frames_of flags (n ∷ octets)) ≡ Err BadLace
Begins flags n octets (Some lace) = counted (frames_of flags (n ∷ octets)) ≡ frames_if (is_good lace octets) n
