-- A block element of a Cluster: the packets that it gives, or the first fault.
use Rattle.std.specs.Prelude.{ℕ, if◌then◌else◌, List, [], Option, Some, None, Result, Ok, Err}
use Rattle.mc_packet.specs.declared.packet.Packet.{Packet}
use Rattle.mc_packet.specs.declared.walk.Fault.{Fault}
use Rattle.mc_packet.specs.declared.walk.Fault.TheVariants as faults
use Rattle.mc_block.specs.declared.error.BlockError.{BlockError}
use Rattle.mc_block.specs.declared.error.BlockError.TheVariants as errors
use Rattle.mc_block.specs.declared.parts.BlockBody.{BlockBody}
use Rattle.mc_block.specs.Block.{simple_body_of, group_body_of, track_of, packets_of}
use Rattle.mc_tracks.specs.declared.track.Track.{Track}
use Rattle.mc_tracks.specs.TrackList.{numbered}
use Rattle.mc_walk.specs.declared.movement.Role.{Role}
use Rattle.mc_walk.specs.declared.movement.Role.TheVariants as roles

infixl 10 ◌>>=◌
abbrev pub ◌>>=◌ : {A B : Type 0} → Result A Fault → (A → Result B Fault) → Result B Fault
(Ok x) >>= f = f x
(Err e) >>= f = Err e

-- the fault of a film for a fault of a block
abbrev pub fault_of : BlockError → Fault
fault_of errors.ShortBlock = faults.ShortBlock
fault_of errors.BadLace = faults.BadLace
fault_of errors.TooLarge = faults.TooLarge
fault_of errors.TimeRange = faults.TimeRange
fault_of errors.BadGroup = faults.BadGroup
fault_of errors.NoMemory = faults.BadGroup

abbrev pub faulted : {A : Type 0} → Result A BlockError → Result A Fault
faulted (Ok x) = Ok x
faulted (Err e) = Err (fault_of e)

abbrev pub some_body : Result BlockBody BlockError → Result (Option BlockBody) BlockError
some_body (Ok body) = Ok (Some body)
some_body (Err e) = Err e

-- the block of an element, which a group may lack
abbrev pub body_in : Role → List ℕ → Result (Option BlockBody) BlockError
body_in roles.SimpleBlock octets = some_body (simple_body_of octets)
body_in roles.BlockGroup octets = group_body_of octets
body_in roles.Other octets = Ok None
body_in roles.Timestamp octets = Ok None

abbrev pub unless_encoded : Option Track → Option Track
unless_encoded None = None
unless_encoded (Some t) = if t.encoded then None else Some t

-- a track of this number that is listed and not encoded
abbrev pub known_track : List Track → ℕ → Option Track
known_track tracks n = unless_encoded (numbered n tracks)

-- the frames of a known track's block, once the Cluster has a time
abbrev pub timed : ℕ → ℕ → Option ℕ → BlockBody → Option ℕ → Result (List Packet) Fault
timed place scale None body duration = Err faults.NoTime
timed place scale (Some time) body duration =
    faulted (packets_of (record { pos = place; cluster_time = time; scale = scale; duration = duration }) body)

-- a block of a track that is not known is passed over
abbrev pub tracked : ℕ → ℕ → Option ℕ → BlockBody → Option Track → Result (List Packet) Fault
tracked place scale time body None = Ok []
tracked place scale time body (Some t) = timed place scale time body t.duration

abbrev pub some_opened : List Track → ℕ → ℕ → Option ℕ → BlockBody → Result (List Packet) Fault
some_opened tracks place scale time body = faulted (track_of body.octets) >>= λ n. tracked place scale time body (known_track tracks n)

abbrev pub opened : List Track → ℕ → ℕ → Option ℕ → Option BlockBody → Result (List Packet) Fault
opened tracks place scale time None = Ok []
opened tracks place scale time (Some body) = some_opened tracks place scale time body

-- the packets of the block element at a place, in a Cluster of this time. The faults come in this order: TooLarge,
-- BadGroup, ShortBlock at the track number; then, for a known track, NoTime, ShortBlock, BadLace, TimeRange
unfoldable pub block_element_of : List Track → ℕ → ℕ → Option ℕ → Role → List ℕ → Result (List Packet) Fault
block_element_of tracks scale place time w octets = faulted (body_in w octets) >>= λ body. opened tracks place scale time body
