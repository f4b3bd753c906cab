use Rattle.mc_client.proofs.Clients.{fresh_after, settled_after}
use Rattle.mc_client.proofs.SeenPolls.{polled_is, seen_is}
use Rattle.mc_client.proofs.client.Client.poll.Goals as goal

pub returns-clause-answer : goal.returns-clause-answer
returns-clause-answer g c = polled_is g.M.Meaning.value c.args.table.now c.args.facts.now c.args.self.now _ c.take_next.result c.requires c.take_next.ensures.value c.take_next.ensures.kind

pub returns-clause-seen : goal.returns-clause-seen
returns-clause-seen g c = seen_is g.M.Meaning.value c.args.table.now c.args.facts.now c.args.self.now _ c.take_next.result c.requires c.take_next.ensures.value c.take_next.ensures.kind

pub returns-clause-fresh : goal.returns-clause-fresh
returns-clause-fresh g c = fresh_after g.M.Meaning.value c.args.table.now c.args.facts.now c.args.self.now _ c.take_next.result c.requires c.take_next.ensures.value c.take_next.ensures.err

pub returns-clause-settled : goal.returns-clause-settled
returns-clause-settled g c = settled_after g.M.Meaning.value c.args.facts.now c.args.self.now _ c.take_next.result c.take_next.ensures.value c.take_next.ensures.kind
