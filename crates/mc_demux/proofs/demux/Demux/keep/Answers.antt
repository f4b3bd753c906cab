use Rattle.mc_calls.proofs.Jobs.{keep_inside}
use Rattle.mc_demux.proofs.demux.Demux.keep.Goals as goal

pub invariant_of-self : goal.invariant_of-self
invariant_of-self c =
    keep_inside _ c.args.self.now c.args.job c.kept_job-self-inside.result c.self.view_is c.self.invariant c.requires.is c.requires.room c.kept_job-self-inside.ensures

pub returns-clause-demux : goal.returns-clause-demux
returns-clause-demux c =
    keep_inside _ c.args.self.now c.args.job c.kept_job-self-inside.result c.self.view_is c.self.invariant c.requires.is c.requires.room c.kept_job-self-inside.ensures
