use Rattle.std.proofs.Common.{◌≡◌, ◌≤◌, ◌-◌, length}
use Rattle.mc_tracks.specs.Children.{children, children_of, first}
use Rattle.mc_tracks.proofs.children.find_child.Given as goal

abbrev pub invariant-loop : goal.invariant-loop
invariant-loop l = record {
  within : l.place ≤ length l.body;
  joined : first l.id (children (length l.body - l.counter) l.master l.body l.place).whole ≡ first l.id (children_of l.master l.body).whole;
}
