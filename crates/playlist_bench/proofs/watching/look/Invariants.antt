use Rattle.mc_playlist.specs.Watches.{Current}
use Rattle.playlist_bench.specs.Properties.{count_at}
use Rattle.playlist_bench.proofs.watching.look.Given as goal

abbrev pub invariant-loop : goal.invariant-loop
invariant-loop g l = Current count_at l.table l.facts l.watches
