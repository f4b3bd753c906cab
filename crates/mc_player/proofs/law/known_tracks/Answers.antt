use Rattle.mc_player.proofs.Knowing.{knows_tracks}
use Rattle.mc_player.proofs.Loading.{loads_once}
use Rattle.mc_player.proofs.law.known_tracks.Goals as goal

pub returns-clause-known : goal.returns-clause-known
returns-clause-known c = knows_tracks

pub returns-clause-loaded : goal.returns-clause-loaded
returns-clause-loaded c = loads_once
