use Rattle.mc_tracks.proofs.Selecting.{numbers_select}
use Rattle.mc_tracks.proofs.law.selected_numbers.Goals as goal

pub returns : goal.returns
returns c = numbers_select
