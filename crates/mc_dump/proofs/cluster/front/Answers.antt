use Rattle.std.proofs.Common.{sym}
use Rattle.std.proofs.lemmas.List.{take_all}
use Rattle.mc_dump.proofs.cluster.front.Goals as goal

pub returns-then-packets-le-MOST_BLOCKS-clause-value : goal.returns-then-packets-le-MOST_BLOCKS-clause-value
returns-then-packets-le-MOST_BLOCKS-clause-value c = sym (take_all 1024 c.args.packets.now c.if-packets-le-MOST_BLOCKS.true)
