use Rattle.mc_ring.proofs.Lawful.{new_ring_is_lawful}
use Rattle.mc_ring.proofs.ring.Ring.new.Goals as goal

pub returns-clause-law : goal.returns-clause-law
returns-clause-law c = new_ring_is_lawful c.args.size _ c.in_ok-empty.ensures
