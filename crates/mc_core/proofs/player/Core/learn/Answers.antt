use Rattle.std.proofs.Common.{refl, subst}
use Rattle.mc_core.proofs.Grown.{grew_behind}
use Rattle.std.specs.Prelude.{reverse}
use Rattle.mc_core.specs.Core.{CoreView, history}
use Rattle.mc_state.specs.Growth.{Grew}
use Rattle.mc_core.proofs.player.Core.learn.Goals as goal

pub returns-clause-grows : goal.returns-clause-grows
returns-clause-grows g c =
    subst (λ (v : CoreView). Grew c.args.by (history v) (reverse c.learn.new.state.journal)) c.self.view_is
    (grew_behind _ c.args.by _ _ _ refl c.in_ok-learn.ensures.adds)
