use Rattle.mc_player.proofs.Waits.{waits}
use Rattle.mc_player.proofs.law.waiting_requests.Goals as goal

pub returns : goal.returns
returns c = waits
