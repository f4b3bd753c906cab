use Rattle.std.proofs.Common.{◌≡◌, ◌≤◌, length}
use Rattle.mc_playlist.specs.Watches.{noted}
use Rattle.mc_playlist.proofs.news.note.Given as goal

abbrev pub invariant-loop-reading : goal.invariant-loop-reading
invariant-loop-reading l = record {
  within : length l.readings ≤ length l.watches;
  same : noted l.readings l.watches ≡ noted l.initial.readings l.initial.watches;
}

abbrev pub decreases-loop-reading : goal.decreases-loop-reading
decreases-loop-reading l = length l.readings
