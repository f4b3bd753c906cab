use Rattle.mc_calls.proofs.Laws.{stands_used, stands_still, stands_legal, stands_gapless}
use Rattle.mc_calls.proofs.law.standing_journals.Goals as goal

pub returns : goal.returns
returns c = record { used = stands_used; still = stands_still; legal = stands_legal; gapless = stands_gapless }
