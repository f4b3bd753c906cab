use Rattle.std.proofs.Common.{◌≡◌, map, take}
use Rattle.playlist_bench.specs.Properties.{entry_of}
use Rattle.playlist_bench.proofs.properties.entries_named.Given as goal

abbrev pub invariant-loop-name : goal.invariant-loop-name
invariant-loop-name l = l.entries ≡ map (λ n. entry_of n.now) (take l.name-index l.names)
