use Rattle.std.proofs.Common.{subst}
use Rattle.mc_core.proofs.Grown.{grew_works}
use Rattle.std.specs.Prelude.{reverse}
use Rattle.mc_core.specs.Core.{CoreView, history}
use Rattle.mc_state.specs.Stands.{table_of}
use Rattle.mc_state.specs.Growth.{Grew}
use Rattle.mc_core.proofs.player.Core.work.Goals as goal

pub returns-clause-grows : goal.returns-clause-grows
returns-clause-grows g c =
    subst (λ (v : CoreView). Grew c.args.by (history v) (reverse c.work.new.state.journal)) c.self.view_is
    (grew_works (table_of g.M.Meaning.value c.self.inside.state) c.args.by _ _ c.in_ok-work.field-0 c.in_ok-work.ensures.works)
