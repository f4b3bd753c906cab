-- Bodies that are too long to be read.
use Rattle.std.proofs.Common.{◌≡◌, ℕ, ◌+◌, ◌-◌, ◌<◌, ◌≤◌, true, List, length, drop, Option, Err, refl, arith, length-take, length-drop}
use Rattle.std.specs.Prelude.{nat_lt, slice_range}
use Rattle.std.proofs.lemmas.Bool.Decides.{nat_tests}
use Rattle.mc_packet.specs.declared.walk.Fault.TheVariants as faults
use Rattle.mc_ebml.specs.declared.read.EbmlError.TheVariants.{BadUint}
use Rattle.mc_ebml.specs.Element.{uint_of}
use Rattle.mc_block.specs.Block.{group_body_of}
use Rattle.mc_tracks.specs.declared.track.Track.{Track}
use Rattle.mc_walk.specs.declared.movement.Role.{Role}
use Rattle.mc_walk.specs.declared.movement.Role.TheVariants as roles
use Rattle.mc_walk.specs.Blocks.{block_element_of}
use Rattle.mc_cursor.specs.Steps.{IsBlock}

part_length : (octets : List ℕ) (at stop : ℕ) → at ≤ stop → stop ≤ length octets → length (slice_range octets at stop) ≡ stop - at
part_length octets at stop order within = omega (arith, length-take (stop - at) (drop at octets), length-drop at octets)

is_long : (octets : List ℕ) (at stop n : ℕ) → at + n < stop → stop ≤ length octets → nat_lt n (length (slice_range octets at stop)) ≡ true
is_long octets at stop n long within = grind (arith, nat_tests, part_length octets at stop (omega arith) within)

pub long_uint : (octets : List ℕ) (at stop : ℕ) → at + 8 < stop → stop ≤ length octets → uint_of (slice_range octets at stop) ≡ Err BadUint
unfolding uint_of
long_uint octets at stop long within = rw (is_long octets at stop 8 long within) refl

pub long_block : (tracks : List Track) (scale place : ℕ) (time : Option ℕ) (role : Role) (octets : List ℕ) (at stop : ℕ) → IsBlock role → at + 67108864 < stop → stop ≤ length octets
    → block_element_of tracks scale place time role (slice_range octets at stop) ≡ Err faults.TooLarge
unfolding block_element_of group_body_of
long_block tracks scale place time roles.SimpleBlock octets at stop is long within = rw (is_long octets at stop 67108864 long within) refl
long_block tracks scale place time roles.BlockGroup octets at stop is long within = rw (is_long octets at stop 67108864 long within) refl
long_block tracks scale place time roles.Other octets at stop is long within = absurd is
long_block tracks scale place time roles.Timestamp octets at stop is long within = absurd is
