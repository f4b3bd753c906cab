use Rattle.std.proofs.Common.{refl}
use Rattle.mc_outside.proofs.Places.{number_opens, number_cause}
use Rattle.mc_outside.specs.Named.{place_of}
use Rattle.mc_outside.proofs.memory.CleanShelfShelf.open_file.Goals as goal

pub returns-clause-opens : goal.returns-clause-opens
returns-clause-opens c =
    rw c.number.ensures (rw c.as_slice.ensures (number_opens c.args.self.now.files c.args.name.now (place_of c.args.self.now.files c.args.name.now) refl))

pub returns-clause-cause : goal.returns-clause-cause
returns-clause-cause c =
    rw c.number.ensures (rw c.as_slice.ensures (number_cause c.args.self.now.files c.args.name.now 0 0 (place_of c.args.self.now.files c.args.name.now) refl refl))
