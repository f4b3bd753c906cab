use Rattle.std.proofs.Common.{arith}
use Rattle.mc_calls.proofs.Telling.{few_held}
use Rattle.mc_demux.proofs.demux.Demux.make_room.Goals as goal

pub overflow_add-held : goal.overflow_add-held
overflow_add-held c = let few = few_held _ c.self.invariant in let e = c.held-held.ensures.value in omega arith
