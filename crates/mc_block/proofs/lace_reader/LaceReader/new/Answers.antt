use Rattle.std.proofs.Common.{arith}
use Rattle.mc_block.proofs.Laced.{fixed_uneven, fixed_even, coded_begins}
use Rattle.mc_block.proofs.lace_reader.LaceReader.new.Goals as goal

pub returns-in-Fixed-clause-law : goal.returns-in-Fixed-clause-law
returns-in-Fixed-clause-law c = λ octets long laced. fixed_uneven c.args.flags c.args.count c.args.left octets long laced c.in-Fixed.ensures c.if-left-count-ne0.true

pub returns-in-Fixed-2-clause-law : goal.returns-in-Fixed-2-clause-law
returns-in-Fixed-2-clause-law c = λ octets long laced.
    fixed_even c.args.flags c.args.count c.args.left octets c.wanting.result long laced c.in-Fixed-2.ensures c.if-left-count-ne0.false c.wanting.ensures

pub returns-in_default : goal.returns-in_default
returns-in_default c = record {
  law = λ octets long laced. coded_begins c.args.flags c.args.count octets c.lacing_of.result c.wanting-in_default.result laced c.lacing_of.ensures c.in_default.not-Fixed c.wanting-in_default.ensures;
  fits = rw c.wanting-in_default.ensures (omega arith, omega arith);
}
