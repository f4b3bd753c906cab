use Rattle.std.proofs.Common.{◌≡◌, take}
use Rattle.mc_packet.specs.declared.choice.Dir.TheVariants.{Back}
use Rattle.mc_queue.specs.Blocks.{any_packet, extreme, flat}
use Rattle.mc_queue.proofs.times.greatest.Given as goal

abbrev pub invariant-loop-at : goal.invariant-loop-at
invariant-loop-at g l = l.best ≡ extreme Back any_packet (flat (take l.at l.blocks.blocks))
