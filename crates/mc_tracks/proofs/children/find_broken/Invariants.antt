use Rattle.std.proofs.Common.{◌≡◌, ◌≤◌, ◌-◌, length}
use Rattle.mc_tracks.specs.Children.{children, children_of}
use Rattle.mc_tracks.proofs.children.find_broken.Given as goal

abbrev pub invariant-loop : goal.invariant-loop
invariant-loop l = record {
  within : l.place ≤ length l.body;
  joined : (children (length l.body - l.counter) l.master l.body l.place).broken ≡ (children_of l.master l.body).broken;
}
