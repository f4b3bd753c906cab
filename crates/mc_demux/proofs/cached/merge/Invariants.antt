use Rattle.std.proofs.Common.{◌≡◌, ◌++◌, drop}
use Rattle.mc_calls.specs.Cached.{is_earlier, merged}
use Rattle.mc_demux.proofs.cached.merge.Given as goal

abbrev pub invariant-loop-packet : goal.invariant-loop-packet
invariant-loop-packet l = l.all ++ merged is_earlier (drop l.packet-index l.ours) l.rest ≡ merged is_earlier l.ours l.fn.theirs
