use Rattle.mc_turn.specs.Laws.{seen_whole}
use Rattle.mc_turn.proofs.turn.Turn.close.Goals as goal

pub returns-clause-whole : goal.returns-clause-whole
returns-clause-whole g c all = seen_whole g.T.Kept.caller _ _ _ all c.enter.ensures.within c.enter.ensures.seen
