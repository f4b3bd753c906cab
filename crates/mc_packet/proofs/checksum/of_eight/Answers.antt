use Rattle.std.proofs.Common.{rules}
use Rattle.mc_packet.proofs.Words.{of_word}
use Rattle.mc_packet.proofs.checksum.of_eight.Goals as goal

pub returns : goal.returns
returns c = of_word c.args.octets c.from_le_bytes-word.result (search rules) (search rules) c.from_le_bytes-word.ensures
