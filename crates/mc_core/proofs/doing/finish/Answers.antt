use Rattle.std.proofs.Common.{refl}
use Rattle.mc_state.specs.Growth.{is_reply}
use Rattle.mc_state.proofs.Growing.{adds_record}
use Rattle.mc_core.proofs.doing.finish.Goals as goal

pub returns-in-Some-clause-adds : goal.returns-in-Some-clause-adds
returns-in-Some-clause-adds g c =
    adds_record is_reply c.args.by c.args.state.now.journal c.end_work.new.self.journal _ c.end_work.ensures.wrote.journal refl refl
