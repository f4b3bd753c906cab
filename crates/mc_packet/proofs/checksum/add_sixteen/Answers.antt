use Rattle.std.proofs.Common.{rules}
use Rattle.mc_packet.proofs.Checksums.{sixteen_steps}
use Rattle.mc_packet.proofs.checksum.add_sixteen.Goals as goal

pub returns : goal.returns
returns c = sixteen_steps c.args.sum c.args.front c.args.back c.of_eight-front.result c.of_eight.result (search rules) (search rules) (search rules) c.of_eight-front.ensures c.of_eight.ensures
