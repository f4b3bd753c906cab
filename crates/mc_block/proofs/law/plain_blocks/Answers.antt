use Rattle.std.proofs.Common.{[]}
use Rattle.mc_block.proofs.Plain.{plain_packet}
use Rattle.mc_block.proofs.law.plain_blocks.Goals as goal

pub returns : goal.returns
returns c = λ track relative key payload small fits.
    plain_packet track relative key payload fits (λ rest. c.written_parts.ensures.coded track [] rest small)
