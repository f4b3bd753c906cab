use Rattle.std.proofs.Common.{refl, false}
use Rattle.mc_ipc.proofs.Anywhere.{new_cuts_anywhere}
use Rattle.mc_ipc.proofs.cutting.LineCut.new.Goals as goal

pub returns-clause-law : goal.returns-clause-law
returns-clause-law c = new_cuts_anywhere (record { held = c.new.result.items; number = 1; is_long = false }) (rw c.new.ensures.items refl)
