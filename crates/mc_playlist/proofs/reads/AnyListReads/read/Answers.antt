use Rattle.mc_playlist.proofs.reads.AnyListReads.read.Goals as goal

pub returns : goal.returns
returns g c = (c.requires c.args.facts).1 c.self.result c.self.ensures
