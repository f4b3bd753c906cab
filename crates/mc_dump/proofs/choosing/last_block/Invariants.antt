use Rattle.std.proofs.Common.{◌≡◌, drop}
use Rattle.std.specs.Option.{option_or}
use Rattle.mc_dump.specs.Chosen.{is_upto, last_block}
use Rattle.mc_dump.proofs.choosing.last_block.Given as goal

abbrev pub invariant-loop-packet : goal.invariant-loop-packet
invariant-loop-packet l = option_or (last_block (is_upto l.lead l.time) (drop l.packet-index l.packets)) l.found ≡ last_block (is_upto l.lead l.time) l.packets
