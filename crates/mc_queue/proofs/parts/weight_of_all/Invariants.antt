use Rattle.std.proofs.Common.{◌≡◌, take}
use Rattle.mc_queue.specs.Places.{weights}
use Rattle.mc_queue.proofs.parts.weight_of_all.Given as goal

abbrev pub invariant-loop-packet : goal.invariant-loop-packet
invariant-loop-packet l = l.weight ≡ weights (take l.packet-index l.packets)
