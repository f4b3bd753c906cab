use Rattle.std.proofs.Common.{◌≡◌, ◌++◌, drop}
use Rattle.playlist_rows.specs.Own.{entry_values}
use Rattle.playlist_rows.proofs.own.entry_values.Given as goal

abbrev pub invariant-loop-place : goal.invariant-loop-place
invariant-loop-place l = l.values ++ entry_values l.place l.pos (drop l.place l.names) ≡ entry_values 0 l.pos l.names
