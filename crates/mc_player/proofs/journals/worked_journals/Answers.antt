use Rattle.mc_player.proofs.Worked.{ends_allowed}
use Rattle.mc_player.proofs.journals.worked_journals.Goals as goal

pub returns : goal.returns
returns c = ends_allowed
