use Rattle.std.proofs.Common.{◌∷◌, [], sym, subst}
use Rattle.mc_ring.specs.declared.event.Event.{Event}
use Rattle.mc_state.specs.Pushing.{IsToPush}
use Rattle.mc_state.proofs.Telling.{comes_more, first_comes}
use Rattle.mc_core.proofs.pushing.push_next.Goals as goal

pub push_to-requires-clause-due : goal.push_to-requires-clause-due
push_to-requires-clause-due g c =
    subst (λ (e : Event). IsToPush g.M.Meaning.value e (c.client_at-c.result ∷ []) c.args.state.now) (sym c.event.ensures.value)
    (_, first_comes g.M.Meaning.value _ c.args.state.now c.args.i c.client_at-c.result (c.requires.due).0 c.client_at-c.ensures (c.requires.due).1)

pub returns-clause-ahead : goal.returns-clause-ahead
returns-clause-ahead g c = λ later comes.
    comes_more g.M.Meaning.value _ c.event.result c.args.by c.args.state.now c.push_to.new.self c.args.i c.client_at-c.result later
    c.event.ensures.value c.client_at-c.ensures c.push_to.ensures.ahead c.push_to.ensures.adds c.push_to.ensures.within comes
