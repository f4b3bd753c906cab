use Rattle.mc_play.proofs.Texts.{opens_file}
use Rattle.mc_play.proofs.opening.open_named.Goals as goal

pub returns-in-Ok-clause-opened : goal.returns-in-Ok-clause-opened
returns-in-Ok-clause-opened g c = opens_file _ _ _ _ (rw c.word_at.ensures at c.in-Ok.ensures.opens)
