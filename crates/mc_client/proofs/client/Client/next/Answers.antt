use Rattle.mc_client.specs.Watches.{present}
use Rattle.mc_client.proofs.Clients.{sole}
use Rattle.mc_client.proofs.SeenPolls.{next_is}
use Rattle.mc_client.proofs.client.Client.next.Goals as goal

pub returns-clause-answer : goal.returns-clause-answer
returns-clause-answer g c = next_is g.M.Meaning.value c.args.table.now c.args.facts.now c.args.self.now c.see_next.result c.requires c.see_next.ensures

pub returns-clause-same : goal.returns-clause-same
returns-clause-same g c = sole (present g.M.Meaning.value c.args.facts.now) c.args.self.now c.see_next.result c.see_next.ensures
