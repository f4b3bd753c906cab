-- The children of a group that are read one after the other.
use Rattle.std.proofs.Common.{◌≡◌, ℕ, ◌+◌, ◌-◌, ◌<◌, ◌≤◌, false, List, length, Some, None, arith}
use Rattle.std.specs.Prelude.{option_map, slice_range}
use Rattle.mc_ebml.specs.declared.whole.WholeElement.{WholeElement}
use Rattle.mc_block.specs.declared.group.GroupParts.{GroupParts}
use Rattle.mc_ebml.specs.Whole.{element_at}
use Rattle.mc_block.specs.Group.{children, children_of, found_among, with_child}
use Rattle.mc_block.proofs.Found.{after_found, begins, goes_on, breaks, ends, is_done}
use Rattle.mc_cursor.proofs.Spans.{part_long}

pub long : (octets : List ℕ) (at len : ℕ) → at + len ≤ length octets → length (slice_range octets at (at + len)) ≡ len
long octets at len within = omega (arith, part_long octets at (at + len) (omega arith) within)

-- what the children tell, so far as they were read
abbrev pub SoFar : List ℕ → ℕ → ℕ → GroupParts → ℕ → ℕ → Type 0
SoFar octets at len found i next =
    after_found found (children (len - i) (slice_range octets at (at + len)) next) ≡ option_map found_among (children_of (slice_range octets at (at + len)))

pub group_begins : (octets : List ℕ) (at len : ℕ) → at + len ≤ length octets → SoFar octets at len (record { block = None; refers = false }) 0 0
group_begins octets at len within =
    let whole = long octets at len within in
    let one : length (slice_range octets at (at + len)) - 0 ≡ len - 0 = omega (arith, whole) in
    rw one at (begins (slice_range octets at (at + len)))

pub group_goes_on : (octets : List ℕ) (at len i next : ℕ) (found : GroupParts) (c : WholeElement) → at + len ≤ length octets → i < len → next < len
    → Some c ≡ element_at (slice_range octets at (at + len)) next → SoFar octets at len found i next → SoFar octets at len (with_child found c) (i + 1) c.stop
group_goes_on octets at len i next found c within more inside child so_far =
    goes_on found len i next (slice_range octets at (at + len)) c _ more (omega (arith, inside, long octets at len within)) child so_far

pub group_breaks : (octets : List ℕ) (at len i next : ℕ) (found : GroupParts) → at + len ≤ length octets → i < len → next < len
    → None ≡ element_at (slice_range octets at (at + len)) next → SoFar octets at len found i next → None ≡ option_map found_among (children_of (slice_range octets at (at + len)))
group_breaks octets at len i next found within more inside child so_far =
    breaks found len i next (slice_range octets at (at + len)) _ more (omega (arith, inside, long octets at len within)) child so_far

pub group_ends : (octets : List ℕ) (at len i next : ℕ) (found : GroupParts) → at + len ≤ length octets → len ≤ next
    → SoFar octets at len found i next → Some found ≡ option_map found_among (children_of (slice_range octets at (at + len)))
group_ends octets at len i next found within end so_far =
    ends found len i next (slice_range octets at (at + len)) _ (omega (arith, end, long octets at len within)) so_far

pub group_is_done : (octets : List ℕ) (at len i next : ℕ) (found : GroupParts) → len ≤ i
    → SoFar octets at len found i next → Some found ≡ option_map found_among (children_of (slice_range octets at (at + len)))
group_is_done octets at len i next found done so_far = is_done found len i next (slice_range octets at (at + len)) _ done so_far
