-- A block of a Cluster, read as its packet.
use Rattle.std.proofs.Common.{◌≡◌, ℕ, ◌*◌, ◌<◌, ◌^◌, Bool, true, false, cond, List, [], ◌∷◌, ◌++◌, length, Option, Some, None, Ok, refl, arith, ltb, ℤ, not}
use Rattle.std.proofs.lemmas.Bool.{le-ltb}
use Rattle.std.proofs.Math.IntN.{+ℤ_idr}
use Rattle.std.specs.Prelude.{pos, ◌+ℤ◌, ◌*ℤ◌, unwrap_or}
use Rattle.mc_ebml.specs.Element.{coded_at}
use Rattle.mc_ebml.specs.Written.{coded_octets, coded_width}
use Rattle.mc_block.specs.declared.parts.Place.{Place}
use Rattle.mc_block.specs.Block.{frame_time, in_range, track_of, packets_of, block_of}
use Rattle.mc_tracks.specs.declared.track.Track.{Track}
use Rattle.mc_tracks.specs.TrackList.{numbered, is_readable}
use Rattle.mc_walk.specs.declared.movement.Role.TheVariants as roles
use Rattle.mc_walk.specs.Blocks.{block_element_of, unless_encoded}
use Rattle.mc_written.proofs.Lower.{Lower}
use Rattle.mc_written.proofs.Lengths.{block_short}
use Rattle.mc_written.specs.Clusters.{Block, block_octets, packet_at, CanBeRead}

coded : (law : Lower) (track : ℕ) (rest : List ℕ) → track < 2 ^ 56 → coded_at (coded_octets track ++ rest) 0 ≡ Ok (record { value = track; width = coded_width track })
unfolding coded_at
coded law track rest h = law.coded track [] rest h

number : (law : Lower) (b : Block) → b.track < 2 ^ 56 → track_of (block_octets b) ≡ Ok b.track
unfolding track_of
number law b h = rw (coded law b.track _ h) refl

known_is : (found : Option Track) → is_readable found ≡ true → (t : Track) × (unless_encoded found ≡ Some t)
known_is None h = absurd (cc h)
known_is (Some t) h = (t, by_test t.encoded h)
  where
    by_test : (b : Bool) → not b ≡ true → cond b None (Some t) ≡ Some t
    by_test true h = absurd (cc h)
    by_test false h = refl

-- the duration of a track's frames does not count for the first of a block
time_is : (place : Place) (relative : ℤ) → frame_time place relative 0 ≡ (pos place.cluster_time +ℤ relative) *ℤ pos place.scale
time_is place relative = let none : 0 * unwrap_or place.duration 0 ≡ 0 = omega arith in rw none (+ℤ_idr ((pos place.cluster_time +ℤ relative) *ℤ pos place.scale))

packets : (law : Lower) (tracks : List Track) (scale time at : ℕ) (duration : Option ℕ) (b : Block) → CanBeRead tracks scale time b
    → packets_of (record { pos = at; cluster_time = time; scale = scale; duration = duration }) (record { octets = block_octets b; keyframe = None }) ≡ Ok (packet_at scale time at b ∷ [])
unfolding block_of
packets law tracks scale time at duration b can =
    let place : Place = record { pos = at; cluster_time = time; scale = scale; duration = duration } in
    let fits = block_short tracks scale time b can in
    let small : ltb 67108864 (length (block_octets b)) ≡ false = le-ltb 67108864 (length (block_octets b)) fits in
    let same = time_is place b.relative in
    let near : in_range (frame_time place b.relative 0) ≡ true = rw same can.near in
    let read = law.blocks b.track b.relative b.key b.body can.narrow can.relative place fits near in
    let opened = rw small at read in
    rw same at opened

pub block_reads : (law : Lower) (tracks : List Track) (scale time at : ℕ) (b : Block) → CanBeRead tracks scale time b
    → block_element_of tracks scale at (Some time) roles.SimpleBlock (block_octets b) ≡ Ok (packet_at scale time at b ∷ [])
unfolding block_element_of
block_reads law tracks scale time at b can =
    let fits = block_short tracks scale time b can in
    let small : ltb 67108864 (length (block_octets b)) ≡ false = le-ltb 67108864 (length (block_octets b)) fits in
    let known = known_is (numbered b.track tracks) can.known in
    rw (small, number law b can.narrow, known.1, packets law tracks scale time at known.0.duration b can) refl
