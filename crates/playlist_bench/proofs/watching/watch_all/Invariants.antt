use Rattle.mc_playlist.specs.Watches.{Current}
use Rattle.playlist_bench.specs.Properties.{count_at}
use Rattle.playlist_bench.proofs.watching.watch_all.Given as goal

abbrev pub invariant-loop-entry : goal.invariant-loop-entry
invariant-loop-entry g l = Current count_at l.table l.facts l.watches
