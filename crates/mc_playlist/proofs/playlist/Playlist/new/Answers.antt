use Rattle.mc_playlist.proofs.Lists.{keeps_law}
use Rattle.mc_playlist.proofs.playlist.Playlist.new.Goals as goal

pub returns-clause-law : goal.returns-clause-law
returns-clause-law c = keeps_law _ c.new.ensures
