use Rattle.std.proofs.Common.{◌∙◌, rules, subst}
use Rattle.mc_cache.specs.Placed.{AllFramed}
use Rattle.mc_calls.specs.State.{DemuxState}
use Rattle.mc_calls.specs.Demuxers.{IsDemux}
use Rattle.mc_calls.proofs.Viewed.{view_stands}
use Rattle.mc_demux.proofs.demux.Demux.view.Goals as goal

pub returns-clause-value : goal.returns-clause-value
returns-clause-value c = search rules

pub returns-clause-film : goal.returns-clause-film
returns-clause-film c = λ film s.
    let d : IsDemux c.args.self.now = subst (λ (x : DemuxState). IsDemux x) c.self.view_is c.self.invariant in
    let frames = subst (λ (x : DemuxState). AllFramed x.cache) c.self.view_is c.in_ok-view.ensures.frames in
    returns-clause-value c ∙ view_stands film c.args.self.now d frames s
