use Rattle.std.proofs.Common.{subst, sym}
use Rattle.mc_client.specs.Client.{ClientState}
use Rattle.mc_client.specs.Watches.{Fresh}
use Rattle.mc_client.proofs.Flags.{fresh_for}
use Rattle.mc_client.proofs.client.Client.flag.Goals as goal

pub returns-clause-fresh : goal.returns-clause-fresh
returns-clause-fresh g c = λ f f' outside h.
    let entries = c.args.table.now in
    let stated = g.M.Meaning.value in
    let goes : ClientState → Type 0 = λ s. Fresh stated entries f' s.watches in
    subst goes (sym c.flag_all.ensures)
    (fresh_for stated entries c.entries-entries.ensures.fit.masked c.args.mask f f' outside c.args.self.now.watches h)
