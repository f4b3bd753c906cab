use Rattle.std.proofs.Common.{refl, subst}
use Rattle.mc_core.proofs.Grown.{grew_one}
use Rattle.std.specs.Prelude.{reverse}
use Rattle.mc_core.specs.Core.{CoreView, history}
use Rattle.mc_state.specs.Growth.{Grew}
use Rattle.mc_core.proofs.player.Core.destroy.Goals as goal

pub returns-clause-grows : goal.returns-clause-grows
returns-clause-grows g c =
    subst (λ (v : CoreView). Grew c.args.by (history v) (reverse c.destroy.new.state.journal)) c.self.view_is
    (grew_one c.args.by _ _ _ c.in_ok-destroy.ensures.gone refl)
