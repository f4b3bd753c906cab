use Rattle.std.proofs.Common.{◌≡◌, take}
use Rattle.mc_journal.specs.Films.{rank}
use Rattle.mc_journal.specs.Views.{from_place}
use Rattle.mc_queue.specs.Places.{weights}
use Rattle.mc_queue.proofs.parts.weight_in.Given as goal

abbrev pub invariant-loop-packet : goal.invariant-loop-packet
invariant-loop-packet l = l.weight ≡ weights (from_place (rank l.head) (take l.packet-index l.packets))
