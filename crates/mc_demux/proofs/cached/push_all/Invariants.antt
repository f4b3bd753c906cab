use Rattle.std.proofs.Common.{◌≡◌, ◌++◌, take}
use Rattle.mc_demux.proofs.cached.push_all.Given as goal

abbrev pub invariant-loop-packet : goal.invariant-loop-packet
invariant-loop-packet l = l.to ≡ l.initial.to ++ take l.packet-index l.packets
