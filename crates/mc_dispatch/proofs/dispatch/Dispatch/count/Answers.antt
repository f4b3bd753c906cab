use Rattle.std.proofs.Common.{rules, ◌≡◌, length, filter, arith}
use Rattle.mc_dispatch.specs.Queue.{is_named}
use Rattle.mc_dispatch.proofs.Parting.{length-parts}
use Rattle.mc_dispatch.proofs.dispatch.Dispatch.count.Goals as goal

pub returns-clause-within : goal.returns-clause-within
returns-clause-within c =
    let test = is_named c.args.client c.args.id in
    let count : c.count_named.result ≡ length (filter test c.args.self.now.requests) = search rules in
    let parts = length-parts test c.args.self.now.requests in
    omega arith
