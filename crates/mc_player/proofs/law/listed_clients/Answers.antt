use Rattle.mc_player.proofs.Living.{are_listed}
use Rattle.mc_player.proofs.law.listed_clients.Goals as goal

pub returns : goal.returns
returns c = are_listed
