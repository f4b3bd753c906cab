use Rattle.mc_props.specs.Standard.{standard_of}
use Rattle.client_rows.proofs.held.Held.unobserve.Goals as goal

-- fewer observers are as fresh as all were
pub invariant_of-self : goal.invariant_of-self
invariant_of-self g c = record { fresh = c.unobserve.ensures.fresh standard_of c.args.self.now.table c.args.self.now.facts c.args.self.now.fresh }
