use Rattle.std.proofs.Common.{◌≡◌, drop}
use Rattle.mc_packet.specs.Payload.{checksum_from}
use Rattle.mc_packet.proofs.checksum.add_each.Given as goal

-- the rest, begun at the sum so far, is the whole
abbrev pub invariant-loop-octet : goal.invariant-loop-octet
invariant-loop-octet l = checksum_from l.sum (drop l.octet-index l.octets) ≡ checksum_from l.fn.sum l.octets
