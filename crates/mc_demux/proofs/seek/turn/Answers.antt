use Rattle.std.proofs.Common.{◌≡◌, subst, None}
use Rattle.std.specs.Prelude.{ℤ}
use Rattle.std.proofs.lemmas.Int.{to_z-of_z}
use mir.Syntax.{w64}
use Rattle.mc_cache.specs.Changing.{heads_in, server}
use Rattle.mc_calls.proofs.Sought.{unserved_by}
use Rattle.mc_demux.proofs.seek.turn.Goals as goal

pub returns-in-None-clause-how : goal.returns-in-None-clause-how
returns-in-None-clause-how c =
    unserved_by c.args.set c.args.t c.args.dir c.args.cache.now
    (subst (λ (z : ℤ). None ≡ heads_in c.args.set z c.args.dir (server c.args.set z c.args.dir c.args.cache.now)) (to_z-of_z w64 c.args.t c.ranges.t) c.in-None.ensures.value)
