use Rattle.std.proofs.Common.{◌∙◌, rules, subst}
use Rattle.mc_calls.specs.State.{DemuxState}
use Rattle.mc_calls.specs.Demuxers.{IsDemux}
use Rattle.mc_calls.proofs.Merging.{cached_film}
use Rattle.mc_demux.proofs.demux.Demux.cached.Goals as goal

pub returns-clause-value : goal.returns-clause-value
returns-clause-value c = search rules

pub returns-clause-film : goal.returns-clause-film
returns-clause-film c = λ film s.
    let d : IsDemux c.args.self.now = subst (λ (x : DemuxState). IsDemux x) c.self.view_is c.self.invariant in
    returns-clause-value c ∙ cached_film film c.args.self.now d s
