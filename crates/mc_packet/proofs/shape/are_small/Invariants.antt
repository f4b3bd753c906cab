use Rattle.std.proofs.Common.{◌≡◌, ◌+◌, drop, length, sum_by}
use Rattle.mc_packet.specs.declared.packet.Packet.{Packet}
use Rattle.mc_packet.proofs.shape.are_small.Given as goal

-- what is left is the bound without the payloads that were passed
abbrev pub invariant-loop-packet : goal.invariant-loop-packet
invariant-loop-packet l =
    sum_by (λ (p : Packet). length p.body) (drop l.packet-index l.packets) + 67108864
    ≡ sum_by (λ (p : Packet). length p.body) l.packets + l.left
