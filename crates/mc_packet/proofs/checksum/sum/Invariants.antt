use Rattle.std.proofs.Common.{◌≡◌, length}
use Rattle.mc_packet.specs.Payload.{checksum, checksum_from}
use Rattle.mc_packet.proofs.checksum.sum.Given as goal

-- the rest, begun at the sum so far, is the whole
abbrev pub invariant-loop-front : goal.invariant-loop-front
invariant-loop-front l = checksum_from l.sum l.rest ≡ checksum l.body

abbrev pub decreases-loop-front : goal.decreases-loop-front
decreases-loop-front l = length l.rest
