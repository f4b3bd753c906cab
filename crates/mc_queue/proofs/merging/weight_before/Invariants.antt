use Rattle.std.proofs.Common.{◌≡◌, take}
use Rattle.mc_journal.specs.Films.{rank}
use Rattle.mc_queue.specs.Places.{before, weights}
use Rattle.mc_queue.proofs.merging.weight_before.Given as goal

abbrev pub invariant-loop-packet : goal.invariant-loop-packet
invariant-loop-packet l = l.weight ≡ weights (before (rank l.cut) (take l.packet-index l.packets))
