use Rattle.std.proofs.Common.{◌≡◌, take}
use Rattle.mc_packet.specs.declared.choice.Dir.TheVariants.{Back}
use Rattle.mc_queue.specs.Blocks.{any_packet, extreme}
use Rattle.mc_queue.proofs.kept.greatest_of.Given as goal

abbrev pub invariant-loop-i : goal.invariant-loop-i
invariant-loop-i l = l.best ≡ extreme Back any_packet (take l.i l.packets.items)
