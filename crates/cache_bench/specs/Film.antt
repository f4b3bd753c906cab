-- The packets of a film that is made in memory.
use Rattle.std.specs.Prelude.{◌≡◌, ◌<◌, ℕ, length, IsTrue}
use Rattle.mc_packet.specs.declared.packet.Packet.{Packet}
use Rattle.mc_packet.specs.Shape.{is_near}

-- the packet of a block: of one of nine tracks at most, in frame 0, with a time near the film's start and 256 octets
pub record IsOfFilm (block : ℕ) (p : Packet) : Type 0 where
  pub some : 0 < p.track
  pub few : p.track < 10
  pub block_is : p.pos.block ≡ block
  pub lane_is : p.pos.lane ≡ 0
  pub near : IsTrue (is_near p.time)
  pub octets : length p.body ≡ 256
