-- A block of a film that is read in parts: what its front and its lace tell of its packets.
use Rattle.std.specs.Prelude.{◌≡◌, ℕ, ◌-◌, ◌<◌, ◌≤◌, false, if◌then◌else◌, List, [], length, slice_range, Option, Some, None, Result, Ok, Err, ⊤}
use Rattle.mc_packet.specs.declared.packet.Packet.{Packet}
use Rattle.mc_packet.specs.declared.walk.Fault.{Fault}
use Rattle.mc_packet.specs.declared.walk.Ending.{Ending}
use Rattle.mc_packet.specs.declared.walk.Ending.TheVariants.{Cut, Damaged}
use Rattle.mc_block.specs.declared.parts.BlockBody.{BlockBody}
use Rattle.mc_block.specs.declared.lace_reader.LaceReader.{LaceReader}
use Rattle.mc_block.specs.Fronts.{is_good, FitsIn}
use Rattle.mc_walk.specs.declared.front.BlockMark.{BlockMark}
use Rattle.mc_walk.specs.declared.front.Glance.{Glance}
use Rattle.mc_walk.specs.declared.front.Glance.TheVariants as glances
use Rattle.mc_walk.specs.Blocks.{some_opened}
use Rattle.mc_walk.specs.Glances.{marked, IsLace}
use Rattle.mc_walk.specs.Walk.{time_of}
use Rattle.mc_cursor.specs.declared.cursor.Cursor.{Cursor}
use Rattle.mc_cursor.specs.declared.lace.Sizes.{Sizes}
use Rattle.mc_cursor.specs.declared.lace.Sizes.TheVariants as sizes
use Rattle.mc_cursor.specs.declared.span.Span.{Span}
use Rattle.mc_cursor.specs.declared.step.Unread.{Unread}
use Rattle.mc_cursor.specs.Heads.{mark_taken}
use Rattle.mc_cursor.specs.Reads.{ends_before}
use Rattle.mc_cursor.specs.Standing.{plan_for}
use Rattle.mc_cursor.specs.Steps.{or_damaged, taken_of}

-- the octets of a block
abbrev pub octets_at : List ℕ → Span → List ℕ
octets_at octets s = slice_range octets s.at s.stop

abbrev pub body_at : List ℕ → Span → BlockBody
body_at octets s = record { octets = slice_range octets s.at s.stop; keyframe = s.keyframe }

-- its packets, or the fault of its element, which stands at a place in a Cluster of this time
abbrev pub packets_at : List ℕ → Cursor → ℕ → Option ℕ → Span → Result (List Packet) Fault
packets_at octets c place time s = some_opened c.tracks place c.scale time (body_at octets s)

-- the same, or how the film ends there
abbrev pub span_taken : List ℕ → Cursor → ℕ → Option ℕ → Span → Result (List Packet) Ending
span_taken octets c place time s = if ends_before octets s.stop then Err (Cut place) else or_damaged place (packets_at octets c place time s)

-- the first packet in short, or the ending at the element's place
abbrev pub mark_or_damaged : ℕ → Result (Option BlockMark) Fault → Result (Option BlockMark) Ending
mark_or_damaged place (Ok m) = Ok m
mark_or_damaged place (Err fault) = Err (Damaged place fault)

-- what the front of a block tells of its packets, or the ending
abbrev pub Glanced : List ℕ → Cursor → ℕ → Option ℕ → Span → Result Glance Ending → Type 0
Glanced octets c place time s (Err ending) = span_taken octets c place time s ≡ Err ending
Glanced octets c place time s (Ok glances.Skipped) = span_taken octets c place time s ≡ Ok []
Glanced octets c place time s (Ok (glances.Fault fault)) = span_taken octets c place time s ≡ Err (Damaged place fault)
Glanced octets c place time s (Ok (glances.Frame m)) = mark_taken (span_taken octets c place time s) ≡ Ok (Some m)
Glanced octets c place time s (Ok (glances.Laced b)) = (ends_before octets s.stop ≡ false) × IsLace b (octets_at octets s) (marked (packets_at octets c place time s))

-- which block a block element has, if any, or the ending
abbrev pub HasBlock : List ℕ → Cursor → ℕ → Unread → Result (Option Span) Ending → Type 0
HasBlock octets c place b (Err ending) = taken_of (plan_for octets c) place b ≡ Err ending
HasBlock octets c place b (Ok None) = taken_of (plan_for octets c) place b ≡ Ok []
HasBlock octets c place b (Ok (Some s)) = (s.at ≤ length octets) × (taken_of (plan_for octets c) place b ≡ span_taken octets c place (time_of b.level) s)

-- it lies in the element's body
abbrev pub LiesIn : Unread → Span → Type 0
LiesIn b s = (b.at ≤ s.at) × (s.at ≤ s.stop) × (s.stop ≤ b.stop)

-- what the octets of a lace tell, which go on from a place on in a block that ends at another
abbrev pub SizesTell : List ℕ → ℕ → ℕ → LaceReader → Sizes → Type 0
SizesTell octets at stop lace sizes.Cut = ⊥
SizesTell octets at stop lace sizes.Bad = is_good lace (slice_range octets at stop) ≡ false
SizesTell octets at stop lace (sizes.On next to) = is_good next (slice_range octets to stop) ≡ is_good lace (slice_range octets at stop)

-- they go on behind that place, within the block
abbrev pub SizesGoOn : ℕ → ℕ → Sizes → Type 0
SizesGoOn at stop sizes.Cut = ⊤
SizesGoOn at stop sizes.Bad = ⊤
SizesGoOn at stop (sizes.On next to) = (at < to) × (to ≤ stop) × FitsIn (stop - to) next
