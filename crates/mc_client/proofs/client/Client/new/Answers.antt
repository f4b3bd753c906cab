use Rattle.mc_client.specs.Client.{ClientState}
use Rattle.mc_client.proofs.Lawful.{new_client_is_lawful}
use Rattle.mc_client.proofs.client.Client.new.Goals as goal

pub returns-clause-law : goal.returns-clause-law
returns-clause-law c =
    let made : ClientState = record { name = c.args.name; ring = c.in_ok-ring.ring; watches = c.new-2.result.items; off = c.new-3.result.keys } in
    new_client_is_lawful c.args.size made c.in_ok-ring.ensures.empty c.in_ok-ring.ensures.law
