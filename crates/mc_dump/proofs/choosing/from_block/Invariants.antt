use Rattle.std.proofs.Common.{◌≡◌, take}
use Rattle.std.specs.Prelude.{filter}
use Rattle.mc_dump.specs.Chosen.{is_chosen}
use Rattle.mc_dump.proofs.choosing.from_block.Given as goal

abbrev pub invariant-loop-packet : goal.invariant-loop-packet
invariant-loop-packet l = l.chosen ≡ filter (is_chosen l.block l.to) (take l.packet-index l.packets)
