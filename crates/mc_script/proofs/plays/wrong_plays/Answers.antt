use Rattle.mc_script.proofs.PlaysLemmas.{no_seek_played, too_many_played}
use Rattle.mc_script.proofs.plays.wrong_plays.Goals as goal

pub returns-clause-no_seek : goal.returns-clause-no_seek
returns-clause-no_seek c = no_seek_played

pub returns-clause-too_many : goal.returns-clause-too_many
returns-clause-too_many c = too_many_played
