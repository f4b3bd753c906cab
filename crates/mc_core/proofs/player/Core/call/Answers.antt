use Rattle.std.proofs.Common.{subst}
use Rattle.mc_core.proofs.Grown.{grew_answers}
use Rattle.std.specs.Prelude.{reverse}
use Rattle.mc_core.specs.Core.{CoreView, history}
use Rattle.mc_state.specs.Growth.{Grew}
use Rattle.mc_core.proofs.player.Core.call.Goals as goal

pub returns-clause-grows : goal.returns-clause-grows
returns-clause-grows g c =
    subst (λ (v : CoreView). Grew c.args.by (history v) (reverse c.answer.new.state.journal)) c.self.view_is
    (grew_answers c.args.by c.args.c c.args.call c.in_ok-answer.field-0 _ _ c.in_ok-answer.ensures.answers)
