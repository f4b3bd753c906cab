use Rattle.std.proofs.Common.{◌+◌, arith}
use Rattle.std.proofs.Math.Nat.{mod-lt}
use Rattle.mc_ebml.proofs.read.unmarked.Goals as goal

pub returns-clause-small : goal.returns-clause-small
returns-clause-small c =
    let below = mod-lt c.args.number {m = c.all_ones.result + 1} (omega arith) in
    omega (arith, below, c.all_ones.ensures.small)
