use Rattle.std.proofs.Common.{take}
use Rattle.mc_deeds.specs.Flags.{AreFlagged}
use Rattle.mc_deeds.proofs.flags.flag_all.Given as goal

abbrev pub invariant-loop-c : goal.invariant-loop-c
invariant-loop-c g l = AreFlagged g.M.Meaning.value l.table l.facts l.mask (take l.c-index l.order) l.fn.clients l.clients
