use Rattle.mc_playlist.proofs.Agreeing.{leaves_agrees}
use Rattle.mc_playlist.proofs.playlist.Playlist.act.Goals as goal

pub returns-clause-fields : goal.returns-clause-fields
returns-clause-fields g c = leaves_agrees c.args.table.now c.args.act.now c.args.self.now _ c.perform.result c.perform.ensures
