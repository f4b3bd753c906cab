use Rattle.std.proofs.Common.{◌≡◌, ◌≤◌, ◌-◌, length}
use Rattle.mc_tracks.specs.declared.children.Master.TheVariants.{Tracks}
use Rattle.mc_tracks.specs.Children.{children}
use Rattle.mc_tracks.specs.Header.{tracks_among, tracks_of}
use Rattle.mc_tracks.proofs.tracks.parse_tracks.Given as goal

abbrev pub invariant-loop : goal.invariant-loop
invariant-loop l = record {
  within : l.place ≤ length l.body;
  joined : tracks_among l.body l.at l.list (children (length l.body - l.counter) Tracks l.body l.place) ≡ tracks_of l.body l.at;
}
