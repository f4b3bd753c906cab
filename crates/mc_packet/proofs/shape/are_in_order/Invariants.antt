use Rattle.std.proofs.Common.{◌↔◌, length}
use Rattle.mc_packet.specs.Shape.{InOrder}
use Rattle.mc_packet.proofs.shape.are_in_order.Given as goal

-- the rest is in order exactly where the whole is
abbrev pub invariant-loop-first : goal.invariant-loop-first
invariant-loop-first l = InOrder l.rest ↔ InOrder l.packets

abbrev pub decreases-loop-first : goal.decreases-loop-first
decreases-loop-first l = length l.rest
