use Rattle.mc_tracks.proofs.Numbers.{is_new}
use Rattle.mc_tracks.proofs.law.new_numbers.Goals as goal

pub returns : goal.returns
returns c = is_new
