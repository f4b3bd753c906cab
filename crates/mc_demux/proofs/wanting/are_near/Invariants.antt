use Rattle.std.proofs.Common.{◌≡◌, length}
use Rattle.std.specs.List.{list_all}
use Rattle.mc_calls.specs.Wanting.{held_from, is_near}
use Rattle.mc_demux.proofs.wanting.are_near.Given as goal

abbrev pub invariant-loop-packet : goal.invariant-loop-packet
invariant-loop-packet l =
    list_all (λ p. is_near l.first.time l.limits.readahead p.time) (held_from l.track l.place l.cache.current)
    ≡ list_all (λ p. is_near l.first.time l.limits.readahead p.time) (held_from l.track l.fn.head l.cache.current)

abbrev pub decreases-loop-packet : goal.decreases-loop-packet
decreases-loop-packet l = length (held_from l.track l.place l.cache.current)
