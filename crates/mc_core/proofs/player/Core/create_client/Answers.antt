use Rattle.std.proofs.Common.{subst, OnOk}
use Rattle.mc_core.proofs.Grown.{grew_created}
use Rattle.std.specs.Prelude.{reverse}
use Rattle.mc_core.specs.Core.{CoreView, history}
use Rattle.mc_state.specs.Growth.{Grew}
use Rattle.mc_core.proofs.player.Core.create_client.Goals as goal

pub returns-clause-grows : goal.returns-clause-grows
returns-clause-grows g c =
    subst (λ (v : CoreView). OnOk c.create.result (Grew c.args.by (history v) (reverse c.create.new.state.journal))) c.self.view_is
    (grew_created c.args.by c.args.name c.args.size _ _ c.create.result c.create.ensures.made)
