-- Packets of a block, one after the other.
use Rattle.std.proofs.Common.{List, ◌++◌, Result, Ok, Err}
use Rattle.mc_packet.specs.declared.packet.Packet.{Packet}
use Rattle.mc_block.specs.declared.error.BlockError.{BlockError}

abbrev pub packets_in_front : List Packet → Result (List Packet) BlockError → Result (List Packet) BlockError
packets_in_front found (Ok ps) = Ok (found ++ ps)
packets_in_front found (Err e) = Err e
