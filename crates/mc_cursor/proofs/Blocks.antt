-- A block element that is read apart from its head.
use Rattle.std.proofs.Common.{◌≡◌, ℕ, ◌+◌, ◌-◌, ◌≤◌, Bool, true, false, List, length, take, drop, min, Some, None, Result, Ok, Err, refl, sym, arith, length-take}
use Rattle.std.specs.Prelude.{nat_lt, slice_range, if◌then◌else◌}
use Rattle.std.proofs.lemmas.List.{take-take, take_all}
use Rattle.std.proofs.lemmas.Bool.Decides.{nat_tests}
use Rattle.mc_packet.specs.declared.packet.Packet.{Packet}
use Rattle.mc_packet.specs.declared.walk.Fault.{Fault}
use Rattle.mc_packet.specs.declared.walk.Ending.TheVariants.{Cut}
use Rattle.mc_packet.specs.declared.walk.Level.{Level}
use Rattle.mc_walk.specs.declared.plan.Plan.{Plan}
use Rattle.mc_walk.specs.declared.plan.Step.TheVariants.{End}
use Rattle.mc_walk.specs.declared.movement.Role.{Role}
use Rattle.mc_walk.specs.declared.movement.Role.TheVariants as roles
use Rattle.mc_walk.specs.declared.movement.Move.TheVariants as moves
use Rattle.mc_walk.specs.Blocks.{block_element_of}
use Rattle.mc_walk.specs.Walk.{blocked, time_of, moved}
use Rattle.mc_cursor.specs.declared.step.Unread.{Unread}
use Rattle.mc_cursor.specs.declared.step.Reached.TheVariants as reached
use Rattle.mc_cursor.specs.Reads.{part_of}
use Rattle.mc_cursor.specs.Steps.{IsBlock, or_damaged, taken_step, step_to}

-- ---- its step

taken_as : (cut : Bool) (place : ℕ) (b : Unread) (packets : Result (List Packet) Fault)
    → taken_step b (if cut then Err (Cut place) else or_damaged place packets) ≡ (if cut then End (Cut place) else blocked place b.stop b.level packets)
taken_as true place b packets = refl
taken_as false place b (Ok packets) = refl
taken_as false place b (Err fault) = refl

abbrev unread : Role → ℕ → ℕ → Level → Unread
unread role at stop level = record { role = role; at = at; stop = stop; level = level }

-- the step of a block element is what its packets say
pub unread_step : (plan : Plan) (place : ℕ) (role : Role) (at stop : ℕ) (level : Level) → IsBlock role
    → step_to plan place (reached.Block (record { role = role; at = at; stop = stop; level = level })) ≡ moved plan place (moves.Pass role at stop level)
unread_step plan place roles.SimpleBlock at stop level is =
    taken_as (nat_lt (length plan.octets) stop) place (unread roles.SimpleBlock at stop level)
    (block_element_of plan.tracks plan.scale place (time_of level) roles.SimpleBlock (slice_range plan.octets at stop))
unread_step plan place roles.BlockGroup at stop level is =
    taken_as (nat_lt (length plan.octets) stop) place (unread roles.BlockGroup at stop level)
    (block_element_of plan.tracks plan.scale place (time_of level) roles.BlockGroup (slice_range plan.octets at stop))
unread_step plan place roles.Other at stop level is = absurd is
unread_step plan place roles.Timestamp at stop level is = absurd is

-- ---- its front

front_by : (n m : ℕ) (xs : List ℕ) (short : Bool) → nat_lt m 12 ≡ short → n ≡ min m 12 → take n xs ≡ take 12 (take m xs)
front_by n m xs true short is =
    let same : n ≡ m = grind (arith, nat_tests) in
    let few : length (take m xs) ≤ 12 = grind (arith, nat_tests, length-take m xs) in
    rw same (sym (take_all 12 (take m xs) few))
front_by n m xs false long is =
    let same : n ≡ 12 = grind (arith, nat_tests) in
    rw same (sym (take-take 12 m xs (grind (arith, nat_tests))))

-- the first 12 octets of a body, or all of fewer
pub front_of : (octets : List ℕ) (at stop end : ℕ) → at ≤ stop → end ≡ at + min (stop - at) 12 → slice_range octets at end ≡ take 12 (slice_range octets at stop)
front_of octets at stop end order is =
    front_by (end - at) (stop - at) (drop at octets) (nat_lt (stop - at) 12) refl (omega (arith, is))

-- ---- what was read of a film

part_by_end : (octets part : List ℕ) (at stop : ℕ) (cut : Bool) → nat_lt (length octets) stop ≡ cut → Some part ≡ (if cut then None else Some (slice_range octets at stop)) → part ≡ slice_range octets at stop
part_by_end octets part at stop true is some = absurd (cc some)
part_by_end octets part at stop false is some = cc some

-- what was read of a film is its part
pub part_read : (octets part : List ℕ) (at stop : ℕ) → Some part ≡ part_of octets at stop → part ≡ slice_range octets at stop
part_read octets part at stop some = part_by_end octets part at stop (nat_lt (length octets) stop) refl some

in_film : (octets part : List ℕ) (at stop : ℕ) (cut : Bool) → nat_lt (length octets) stop ≡ cut → Some part ≡ (if cut then None else Some (slice_range octets at stop)) → stop ≤ length octets
in_film octets part at stop true is some = absurd (cc some)
in_film octets part at stop false is some = grind (arith, nat_tests)

-- which reaches so far
pub part_in_film : (octets part : List ℕ) (at stop : ℕ) → Some part ≡ part_of octets at stop → stop ≤ length octets
part_in_film octets part at stop some = in_film octets part at stop (nat_lt (length octets) stop) refl some

-- what fills the front of a buffer is that much of a film, where the film reaches so far
pub front_read : (octets buf zeros : List ℕ) (at n room : ℕ) (whole : Bool) → whole ≡ true → length zeros ≡ room → n ≤ room → (if whole then Some buf else None) ≡ part_of octets at (at + length (take n zeros))
    → Some buf ≡ part_of octets at (at + n)
front_read octets buf zeros at n room whole is all few read =
    let fills : length (take n zeros) ≡ n = omega (arith, length-take n zeros, all, few) in
    let filled : Some buf ≡ part_of octets at (at + length (take n zeros)) = rw is at read in
    rw fills at filled
