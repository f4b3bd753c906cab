-- A block that is read in parts gives what its element does.
use Rattle.std.proofs.Common.{◌≡◌, ℕ, ◌+◌, ◌-◌, ◌<◌, ◌≤◌, Bool, true, false, not, List, [], ◌∷◌, length, take, drop, min, Option, Some, None, Result, Ok, Err, refl, sym, ap, ◌∙◌, arith, length-take, length-drop}
use Rattle.std.specs.Prelude.{nat_lt, slice_range, if◌then◌else◌, option_map}
use Rattle.std.proofs.lemmas.List.{take-take, drop-take, drop-drop}
use Rattle.std.proofs.lemmas.Bool.Decides.{nat_tests}
use Rattle.mc_packet.specs.declared.packet.Packet.{Packet}
use Rattle.mc_packet.specs.declared.walk.Fault.{Fault}
use Rattle.mc_packet.specs.declared.walk.Fault.TheVariants as faults
use Rattle.mc_packet.specs.declared.walk.Ending.{Ending}
use Rattle.mc_packet.specs.declared.walk.Ending.TheVariants.{Cut, Damaged}
use Rattle.mc_ebml.specs.declared.whole.WholeElement.{WholeElement}
use Rattle.mc_block.specs.declared.group.GroupParts.{GroupParts}
use Rattle.mc_block.specs.declared.lace_reader.LaceReader.{LaceReader}
use Rattle.mc_block.specs.Group.{children_of, found_among}
use Rattle.mc_block.specs.Fronts.{is_good, ReadsOn}
use Rattle.mc_walk.specs.declared.front.BlockMark.{BlockMark}
use Rattle.mc_walk.specs.declared.front.LacedBlock.{LacedBlock}
use Rattle.mc_walk.specs.declared.front.Glance.{Glance}
use Rattle.mc_walk.specs.declared.front.Glance.TheVariants as glances
use Rattle.mc_walk.specs.declared.movement.Role.{Role}
use Rattle.mc_walk.specs.declared.movement.Role.TheVariants as roles
use Rattle.mc_walk.specs.Blocks.{some_opened}
use Rattle.mc_walk.specs.Glances.{marked, lace_mark, opened_among, Tells, CountsIn, LaceTells}
use Rattle.mc_walk.specs.Walk.{time_of}
use Rattle.mc_packet.specs.Shape.{AreBetween}
use Rattle.mc_outside.specs.Shelf.{Files, Opened, content, KeepsRead}
use Rattle.mc_walk.proofs.Shaped.{none_between}
use Rattle.mc_walk.proofs.Groups.{simple_opened, group_opened}
use Rattle.mc_cursor.specs.declared.cursor.Cursor.{Cursor}
use Rattle.mc_cursor.specs.declared.lace.Sizes.TheVariants as sizes
use Rattle.mc_cursor.specs.declared.span.Span.{Span}
use Rattle.mc_cursor.specs.declared.step.Unread.{Unread}
use Rattle.mc_cursor.specs.Heads.{mark_taken}
use Rattle.mc_cursor.specs.Reads.{ends_before, part_of}
use Rattle.mc_cursor.specs.Standing.{plan_for}
use Rattle.mc_cursor.specs.Steps.{IsBlock, or_damaged, taken_of}
use Rattle.mc_cursor.specs.Spans.{octets_at, packets_at, span_taken, mark_or_damaged, Glanced, SizesTell}
use Rattle.mc_cursor.proofs.Blocks.{front_of, part_read}

-- ---- what is kept

pub reads_none : (f : Option Files) (o : Opened) (r a : ℕ) → KeepsRead f f o o r r a
reads_none f o r a = record { same_files = refl; same_opened = refl; later = omega arith; within = omega arith }

pub reads_more : (f f' f'' : Option Files) (o o' o'' : Opened) (r r' r'' a b : ℕ) → KeepsRead f f' o o' r r' a → KeepsRead f' f'' o' o'' r' r'' b → b ≤ a → KeepsRead f f'' o o'' r r'' a
reads_more f f' f'' o o' o'' r r' r'' a b k l le = record {
  same_files = l.same_files ∙ k.same_files;
  same_opened = l.same_opened ∙ k.same_opened;
  later = omega (arith, k.later, l.later);
  within = omega (arith, k.within, l.within, le);
}

pub told_after : (f f' : Option Files) (o o' : Opened) (r r' a file : ℕ) (octets : List ℕ) → KeepsRead f f' o o' r r' a → content f o file ≡ Some octets → content f' o' file ≡ Some octets
told_after f f' o o' r r' a file octets k told = cc (k.same_files, k.same_opened, told)

-- ---- parts of parts

short : (octets : List ℕ) (at stop most : ℕ) → stop ≤ at + most → length (slice_range octets at stop) ≤ most
short octets at stop most le = omega (arith, le, length-take (stop - at) (drop at octets))

pub part_long : (octets : List ℕ) (at stop : ℕ) → at ≤ stop → stop ≤ length octets → length (slice_range octets at stop) ≡ stop - at
part_long octets at stop order within = omega (arith, order, within, length-take (stop - at) (drop at octets), length-drop at octets)

cut_front : (n m k : ℕ) (xs : List ℕ) → k ≡ n + m → drop n (take k xs) ≡ take m (drop n xs)
cut_front n m k xs e = rw e (drop-take n m xs)

-- what stands from a place on in a part
pub part_behind : (octets : List ℕ) (at stop n : ℕ) → n ≤ stop - at → drop n (slice_range octets at stop) ≡ slice_range octets (at + n) stop
part_behind octets at stop n le =
    cut_front n (stop - (at + n)) (stop - at) (drop at octets) (omega (arith, le)) ∙ ap (take (stop - (at + n))) (drop-drop n at octets)

-- a part of a part
pub part_within : (octets : List ℕ) (at stop low high : ℕ) → low ≤ high → high ≤ stop - at → slice_range (slice_range octets at stop) low high ≡ slice_range octets (at + low) (at + high)
part_within octets at stop low high order within =
    let one : slice_range (slice_range octets at stop) low high ≡ take (high - low) (slice_range octets (at + low) stop) = ap (take (high - low)) (part_behind octets at stop low (omega (arith, order, within))) in
    let k : high - low ≡ at + high - (at + low) = omega arith in
    one ∙ take-take (high - low) (stop - (at + low)) (drop (at + low) octets) (omega (arith, within)) ∙ ap (λ (n : ℕ). take n (drop (at + low) octets)) k

-- no more is read than is asked for
pub part_few : (octets front : List ℕ) (at n : ℕ) → Some front ≡ part_of octets at (at + n) → length front ≤ n
part_few octets front at n read =
    let e : front ≡ slice_range octets at (at + n) = part_read octets front at (at + n) read in
    omega (arith, ap length e, length-take (at + n - at) (drop at octets))

-- what was read at the front of a part
front_seen : (octets : List ℕ) (at n stop : ℕ) → n ≤ stop - at → slice_range octets at (at + n) ≡ take n (slice_range octets at stop)
front_seen octets at n stop le =
    let k : at + n - at ≡ n = omega arith in rw k (sym (take-take n (stop - at) (drop at octets) le))

pub seen_part : (octets front : List ℕ) (at n stop : ℕ) → at ≤ stop → n ≤ stop - at → stop ≤ length octets → Some front ≡ part_of octets at (at + n)
    → front ≡ take (length front) (slice_range octets at stop)
seen_part octets front at n stop order le within read =
    let e : front ≡ take n (slice_range octets at stop) = part_read octets front at (at + n) read ∙ front_seen octets at n stop le in
    let k : length front ≡ n = ap length e ∙ omega (arith, length-take n (slice_range octets at stop), part_long octets at stop order within, le) in
    rw k e

-- the head of a child was read at its place
pub seen_child : (octets front : List ℕ) (at next len n : ℕ) → next ≤ len → n ≡ min (len - next) 12 → Some front ≡ part_of octets (at + next) (at + next + n)
    → front ≡ take 12 (drop next (slice_range octets at (at + len)))
seen_child octets front at next len n order is read =
    let k : at + len - (at + next) ≡ len - next = omega arith in
    let end : at + next + n ≡ at + next + min (at + len - (at + next)) 12 = rw (k, is) refl in
    part_read octets front (at + next) (at + next + n) read ∙ front_of octets (at + next) (at + len) (at + next + n) (omega (arith, order)) end
    ∙ ap (take 12) (sym (part_behind octets at (at + len) next (omega (arith, order))))

pub in_film : (octets : List ℕ) (stop : ℕ) → ends_before octets stop ≡ false → stop ≤ length octets
in_film octets stop whole = grind (arith, nat_tests, whole)

-- ---- the block of an element

pub simple_role : (role : Role) → IsBlock role → (role ≡ roles.BlockGroup → ⊥) → role ≡ roles.SimpleBlock
simple_role roles.SimpleBlock is isnt = refl
simple_role roles.BlockGroup is isnt = absurd (isnt refl)
simple_role roles.Other is isnt = absurd is
simple_role roles.Timestamp is isnt = absurd is

pub simple_taken : (octets : List ℕ) (c : Cursor) (place : ℕ) (b : Unread) → b.role ≡ roles.SimpleBlock → b.stop ≤ b.at + 67108864
    → taken_of (plan_for octets c) place b ≡ span_taken octets c place (time_of b.level) (record { at = b.at; stop = b.stop; keyframe = None })
simple_taken octets c place b role le =
    rw (role, simple_opened c.tracks c.scale place (time_of b.level) (slice_range octets b.at b.stop) (short octets b.at b.stop 67108864 le)) refl

group_whole : (octets : List ℕ) (c : Cursor) (place : ℕ) (b : Unread) → b.role ≡ roles.BlockGroup → b.stop ≤ b.at + 67108864 → ends_before octets b.stop ≡ false
    → taken_of (plan_for octets c) place b
    ≡ or_damaged place (opened_among c.tracks place c.scale (time_of b.level) (slice_range octets b.at b.stop) (option_map found_among (children_of (slice_range octets b.at b.stop))))
group_whole octets c place b role le whole =
    rw (whole, role, group_opened c.tracks c.scale place (time_of b.level) (slice_range octets b.at b.stop) (short octets b.at b.stop 67108864 le)) refl

pub group_cut : (octets : List ℕ) (c : Cursor) (place : ℕ) (b : Unread) → ends_before octets b.stop ≡ true → taken_of (plan_for octets c) place b ≡ Err (Cut place)
group_cut octets c place b cut = rw cut refl

pub group_bad : (octets : List ℕ) (c : Cursor) (place : ℕ) (b : Unread) → b.role ≡ roles.BlockGroup → b.stop ≤ b.at + 67108864 → ends_before octets b.stop ≡ false
    → None ≡ option_map found_among (children_of (slice_range octets b.at b.stop)) → taken_of (plan_for octets c) place b ≡ Err (Damaged place faults.BadGroup)
group_bad octets c place b role le whole bad = group_whole octets c place b role le whole ∙ rw (← bad) refl

pub group_none : (octets : List ℕ) (c : Cursor) (place : ℕ) (b : Unread) (found : GroupParts) → b.role ≡ roles.BlockGroup → b.stop ≤ b.at + 67108864 → ends_before octets b.stop ≡ false
    → Some found ≡ option_map found_among (children_of (slice_range octets b.at b.stop)) → found.block ≡ None → taken_of (plan_for octets c) place b ≡ Ok []
group_none octets c place b found role le whole is none = group_whole octets c place b role le whole ∙ rw (← is, none) refl

pub group_some : (octets : List ℕ) (c : Cursor) (place : ℕ) (b : Unread) (found : GroupParts) (child : WholeElement) → b.role ≡ roles.BlockGroup → b.stop ≤ b.at + 67108864 → ends_before octets b.stop ≡ false
    → Some found ≡ option_map found_among (children_of (slice_range octets b.at b.stop)) → found.block ≡ Some child → b.at ≤ b.stop → child.at ≤ child.stop → child.stop ≤ b.stop - b.at
    → taken_of (plan_for octets c) place b
    ≡ span_taken octets c place (time_of b.level) (record { at = b.at + child.at; stop = b.at + child.stop; keyframe = Some (not found.refers) })
group_some octets c place b found child role le whole is some ordered order within =
    let inner : ends_before octets (b.at + child.stop) ≡ false = grind (arith, nat_tests, whole, within, order, ordered) in
    group_whole octets c place b role le whole ∙ rw (← is, some, part_within octets b.at b.stop child.at child.stop order within, inner) refl

-- ---- what a glance tells

pub counts_more : (n m : ℕ) (g : Glance) → n ≤ m → CountsIn n g → CountsIn m g
counts_more n m glances.Skipped le h = tt
counts_more n m (glances.Fault f) le h = tt
counts_more n m (glances.Frame k) le h = tt
counts_more n m (glances.Laced b) le h = omega (arith, le, h)

pub marked_taken : (octets : List ℕ) (c : Cursor) (place : ℕ) (time : Option ℕ) (s : Span) → ends_before octets s.stop ≡ false
    → mark_taken (span_taken octets c place time s) ≡ mark_or_damaged place (marked (packets_at octets c place time s))
marked_taken octets c place time s whole = rw whole (go (packets_at octets c place time s))
  where
    go : (r : Result (List Packet) Fault) → mark_taken (or_damaged place r) ≡ mark_or_damaged place (marked r)
    go (Ok packets) = refl
    go (Err fault) = refl

-- no packet in short is no packet
none_taken : (r : Result (List Packet) Fault) (place : ℕ) → marked r ≡ Ok None → or_damaged place r ≡ Ok []
none_taken (Ok []) place e = refl
none_taken (Ok (p ∷ ps)) place e = absurd (cc e)
none_taken (Err fault) place e = absurd (cc e)

fault_taken : (r : Result (List Packet) Fault) (place : ℕ) (fault : Fault) → marked r ≡ Err fault → or_damaged place r ≡ Err (Damaged place fault)
fault_taken (Ok packets) place fault e = absurd (cc e)
fault_taken (Err f) place fault e = let same : f ≡ fault = cc e in rw same refl

frame_taken : (octets : List ℕ) (c : Cursor) (place : ℕ) (time : Option ℕ) (s : Span) (m : BlockMark) → ends_before octets s.stop ≡ false → marked (packets_at octets c place time s) ≡ Ok (Some m)
    → mark_taken (span_taken octets c place time s) ≡ Ok (Some m)
frame_taken octets c place time s m whole is = marked_taken octets c place time s whole ∙ ap (mark_or_damaged place) is

glanced_by : (octets : List ℕ) (c : Cursor) (place : ℕ) (time : Option ℕ) (s : Span) (g : Glance) → ends_before octets s.stop ≡ false
    → Tells (octets_at octets s) g (marked (packets_at octets c place time s)) → Glanced octets c place time s (Ok g)
glanced_by octets c place time s glances.Skipped whole tells = rw whole (none_taken (packets_at octets c place time s) place tells)
glanced_by octets c place time s (glances.Fault fault) whole tells = rw whole (fault_taken (packets_at octets c place time s) place fault tells)
glanced_by octets c place time s (glances.Frame m) whole tells = frame_taken octets c place time s m whole tells
glanced_by octets c place time s (glances.Laced b) whole tells = (whole, tells)

pub cut_taken : (octets : List ℕ) (c : Cursor) (place : ℕ) (time : Option ℕ) (s : Span) → ends_before octets s.stop ≡ true → span_taken octets c place time s ≡ Err (Cut place)
cut_taken octets c place time s cut = rw cut refl

-- a film that ends within a block ends before it does
cut_by : (octets : List ℕ) (at n : ℕ) (cut : Bool) → nat_lt (length octets) n ≡ cut → None ≡ (if cut then None else Some (slice_range octets at n)) → nat_lt (length octets) n ≡ true
cut_by octets at n true is none = is
cut_by octets at n false is none = absurd (cc none)

pub front_cut : (octets : List ℕ) (at n stop : ℕ) → n ≤ stop → None ≡ part_of octets at n → ends_before octets stop ≡ true
front_cut octets at n stop le none =
    let ends : nat_lt (length octets) n ≡ true = cut_by octets at n (nat_lt (length octets) n) refl none in
    grind (arith, nat_tests, ends, le)

-- the front of a block, as it was read
pub glance_at : (octets : List ℕ) (c : Cursor) (place : ℕ) (time : Option ℕ) (s : Span) (g : Glance) (n : ℕ) (front seen : List ℕ) → s.at ≤ s.stop → n ≡ min (s.stop - s.at) 12
    → Some front ≡ part_of octets s.at (s.at + n) → seen ≡ front → ends_before octets s.stop ≡ false
    → ((all : List ℕ) → seen ≡ take 12 all → Tells all g (marked (some_opened c.tracks place c.scale time (record { octets = all; keyframe = s.keyframe }))))
    → Glanced octets c place time s (Ok g)
glance_at octets c place time s g n front seen order width read as_read whole law =
    let begins : seen ≡ take 12 (octets_at octets s) =
    as_read ∙ part_read octets front s.at (s.at + n) read ∙ front_of octets s.at s.stop (s.at + n) order (ap (λ (k : ℕ). s.at + k) width) in
    glanced_by octets c place time s g whole (law (octets_at octets s) begins)

-- ---- a lace

-- the lace behind its count octet
pub lace_told : (octets : List ℕ) (place : ℕ) (s : Span) (lace : LacedBlock) (first : Result (Option BlockMark) Fault) (reader : LaceReader) (good : Bool) → s.at + lace.head.at < s.stop
    → LaceTells lace (octets_at octets s) first (Some reader) → good ≡ is_good reader (slice_range octets (s.at + lace.head.at + 1) s.stop) → first ≡ lace_mark lace good
lace_told octets place s lace first reader good order tells is =
    let k : s.at + (lace.head.at + 1) ≡ s.at + lace.head.at + 1 = omega arith in
    let behind : drop (lace.head.at + 1) (octets_at octets s) ≡ slice_range octets (s.at + lace.head.at + 1) s.stop = part_behind octets s.at s.stop (lace.head.at + 1) (omega (arith, order)) ∙ rw k refl in
    rw is (tells ∙ rw behind refl)

-- how long a block is behind its lace's count octet
pub lace_long : (octets : List ℕ) (s : Span) (lace : LacedBlock) → s.at + lace.head.at < s.stop → ends_before octets s.stop ≡ false
    → length (octets_at octets s) ≡ lace.head.at + 1 + (s.stop - (s.at + lace.head.at + 1))
lace_long octets s lace order whole =
    let within : s.stop ≤ length octets = grind (arith, nat_tests, whole) in
    omega (arith, order, part_long octets s.at s.stop (omega (arith, order)) within)

pub laced_bad : (octets : List ℕ) (c : Cursor) (place : ℕ) (time : Option ℕ) (s : Span) (lace : LacedBlock) (r : Result (Option BlockMark) Ending)
    → Glanced octets c place time s (Ok (glances.Laced lace)) → LaceTells lace (octets_at octets s) (marked (packets_at octets c place time s)) None
    → r ≡ mark_or_damaged place (lace_mark lace false) → r ≡ mark_taken (span_taken octets c place time s)
laced_bad octets c place time s lace r h tells is = is ∙ sym (marked_taken octets c place time s h.0 ∙ ap (mark_or_damaged place) tells)

pub laced_read : (octets : List ℕ) (c : Cursor) (place : ℕ) (time : Option ℕ) (s : Span) (lace : LacedBlock) (reader : LaceReader) (good : Bool) (r : Result (Option BlockMark) Ending) → s.at + lace.head.at < s.stop
    → Glanced octets c place time s (Ok (glances.Laced lace)) → LaceTells lace (octets_at octets s) (marked (packets_at octets c place time s)) (Some reader)
    → Some good ≡ Some (is_good reader (slice_range octets (s.at + lace.head.at + 1) s.stop))
    → r ≡ mark_or_damaged place (lace_mark lace good) → r ≡ mark_taken (span_taken octets c place time s)
laced_read octets c place time s lace reader good r order h tells read is =
    let same : good ≡ is_good reader (slice_range octets (s.at + lace.head.at + 1) s.stop) = cc read in
    let first = lace_told octets place s lace (marked (packets_at octets c place time s)) reader good order tells same in
    is ∙ sym (marked_taken octets c place time s h.0 ∙ ap (mark_or_damaged place) first)

-- ---- the next octets of a lace

pub not_cut : (octets : List ℕ) (at n stop : ℕ) → n ≤ stop → stop ≤ length octets → None ≡ part_of octets at n → ⊥
not_cut octets at n stop le within none = let cut = front_cut octets at n n (omega arith) none in absurd (grind (arith, nat_tests, cut, le, within))

pub window_on : (octets front : List ℕ) (at size stop taken : ℕ) (lace next : LaceReader) → at ≤ stop → size ≤ stop - at → stop ≤ length octets → Some front ≡ part_of octets at (at + size)
    → ((all : List ℕ) → length all ≡ stop - at → front ≡ take (length front) all → ReadsOn lace all (Some (next, taken))) → taken ≤ stop - at
    → SizesTell octets at stop lace (sizes.On next (at + taken))
window_on octets front at size stop taken lace next order few within read law le =
    let on = law (slice_range octets at stop) (part_long octets at stop order within) (seen_part octets front at size stop order few within read) in
    rw (part_behind octets at stop taken le) at on

pub window_bad : (octets front : List ℕ) (at size stop : ℕ) (lace : LaceReader) → at ≤ stop → size ≤ stop - at → stop ≤ length octets → Some front ≡ part_of octets at (at + size)
    → ((all : List ℕ) → length all ≡ stop - at → front ≡ take (length front) all → ReadsOn lace all None)
    → SizesTell octets at stop lace sizes.Bad
window_bad octets front at size stop lace order few within read law =
    law (slice_range octets at stop) (part_long octets at stop order within) (seen_part octets front at size stop order few within read)

-- ---- none

pub none_here : (place : ℕ) → AreBetween place (place + 1) []
none_here place = none_between place (place + 1)
