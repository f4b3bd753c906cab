use Rattle.std.proofs.Common.{length}
use Rattle.mc_block.specs.Frames.{frames_in, FillUp}
use Rattle.mc_block.proofs.Given.{given}
use Rattle.mc_block.proofs.Runs.{in_fills}
use Rattle.mc_block.proofs.lace.frames.Goals as goal

pub returns-clause-fill : goal.returns-clause-fill
returns-clause-fill c =
    let rest = c.args.rest.now in
    given (FillUp (length rest)) c.frames_in.result (frames_in c.lacing_of.result rest) c.frames_in.ensures.value (in_fills c.lacing_of.result rest)
