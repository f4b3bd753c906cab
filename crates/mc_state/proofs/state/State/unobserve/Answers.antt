use Rattle.mc_state.proofs.Answered.{unobserved_next}
use Rattle.mc_state.proofs.Steps.{lives_in, quiet_in}
use Rattle.mc_state.proofs.state.State.unobserve.Goals as goal

pub invariant_of-self : goal.invariant_of-self
invariant_of-self g c =
    unobserved_next g.M.Meaning.value _ c.args.by c.args.c c.args.id c.unobserve_at-count.result c.unobserve_at-count.new.clients _ _ c.self.invariant
    (quiet_in g.M.Meaning.value _ _ c.self.view_is c.requires.quiet) (lives_in _ _ _ c.self.view_is c.requires.lives)
    c.unobserve_at-count.ensures.here c.unobserve_at-count.ensures.others c.push_reserved.ensures.items
