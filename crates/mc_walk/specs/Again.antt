-- What each packet of a film is: it can be written again as a block of its own.
use Rattle.std.specs.Prelude.{◌≡◌, ℕ, ◌+◌, ◌^◌, ◌<◌, ◌≤◌, IsTrue, true, List, length, Ok}
use Rattle.std.specs.List.{AllByRecursion}
use Rattle.mc_packet.specs.declared.packet.Packet.{Packet}
use Rattle.mc_packet.specs.Shape.{is_near}
use Rattle.mc_ebml.specs.Written.{coded_width}
use Rattle.mc_tracks.specs.declared.track.Track.{Track}
use Rattle.mc_tracks.specs.TrackList.{is_known, IsTrackList}
use Rattle.mc_walk.specs.declared.plan.Plan.{Plan}
use Rattle.mc_walk.specs.Walk.{film_walk}
use Rattle.mc_walk.specs.Opening.{opened_film}

-- its track is listed and not encoded, its number can be coded, its time is in range, and behind its number, its time and
-- its flags a block has room for its payload
pub record CanBeAgain (tracks : List Track) (p : Packet) : Type 0 where
  pub known : is_known tracks p.track ≡ true
  pub narrow : p.track < 2 ^ 56
  pub near : IsTrue (is_near p.time)
  pub size : coded_width p.track + 3 + length p.body ≤ 67108864

abbrev pub AreAgain : List Track → List Packet → Type 0
AreAgain tracks ps = AllByRecursion (CanBeAgain tracks) ps

-- whatever a walk goes over
abbrev pub WalksAreAgain : Type 0
WalksAreAgain = (plan : Plan) → AreAgain plan.tracks (film_walk plan).0

-- what stands before the Clusters of a film that is not refused
abbrev pub PlansHaveShape : Type 0
PlansHaveShape = (octets : List ℕ) (plan : Plan) → opened_film octets ≡ Ok plan → (0 < plan.scale) × IsTrackList plan.tracks
