use Rattle.std.proofs.Common.{◌≡◌, ◌++◌, length}
use Rattle.mc_calls.specs.Cached.{held_in}
use Rattle.mc_calls.specs.Wanting.{held_from}
use Rattle.mc_demux.proofs.cached.copy_track.Given as goal

abbrev pub invariant-loop-packet : goal.invariant-loop-packet
invariant-loop-packet l = l.packets ++ held_from l.track l.place l.cache.current ≡ held_in l.track l.cache.current

abbrev pub decreases-loop-packet : goal.decreases-loop-packet
decreases-loop-packet l = length (held_from l.track l.place l.cache.current)
