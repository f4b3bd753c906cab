use Rattle.std.proofs.Common.{◌+◌, drop, length-drop, arith}
use Rattle.mc_walk.proofs.Lacing.{lace_tells}
use Rattle.mc_walk.proofs.front.LacedBlock.reader.Goals as goal

pub returns-clause-law : goal.returns-clause-law
returns-clause-law c = λ octets first is long.
    let block = c.args.self.now in
    let behind = drop (block.head.at + 1) octets in
    lace_tells block octets first c.new.result is (c.new.ensures.law behind (omega (arith, long, length-drop (block.head.at + 1) octets)) is.laced)
