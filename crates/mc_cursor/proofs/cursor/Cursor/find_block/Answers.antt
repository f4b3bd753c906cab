use Rattle.std.proofs.Common.{arith}
use Rattle.mc_cursor.proofs.Spans.{reads_none, simple_role, simple_taken}
use Rattle.mc_cursor.proofs.cursor.Cursor.find_block.Goals as goal

pub returns-in_default : goal.returns-in_default
returns-in_default g c = record {
  value = λ octets told within.
      (within, simple_taken octets c.args.self.now c.args.place c.args.block (simple_role c.args.block.role c.requires.role c.in_default.not-BlockGroup) c.requires.order.1);
  lies = (omega arith, c.requires.order.0, omega arith);
  cause = record { later = omega arith; failed = tt };
  kept = reads_none _ _ _ _;
}
