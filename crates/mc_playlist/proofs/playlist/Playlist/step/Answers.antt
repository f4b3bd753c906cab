use Rattle.mc_playlist.proofs.Agreeing.{steps_agree}
use Rattle.mc_playlist.proofs.Entries.{keeps_entry}
use Rattle.mc_playlist.proofs.playlist.Playlist.step.Goals as goal

pub returns-clause-fields : goal.returns-clause-fields
returns-clause-fields c = steps_agree c.args.step c.args.self.now _ c.do_step.result c.do_step.ensures

pub returns-clause-entry : goal.returns-clause-entry
returns-clause-entry c = keeps_entry c.args.step c.args.self.now _ c.do_step.result c.facts-facts.ensures.list c.do_step.ensures
