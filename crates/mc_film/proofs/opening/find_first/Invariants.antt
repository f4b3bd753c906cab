use Rattle.std.proofs.Common.{◌≡◌, ◌-◌, ◌≤◌, length}
use Rattle.mc_tracks.specs.Children.{first}
use Rattle.mc_walk.specs.Opening.{segment_children, first_child}
use Rattle.mc_film.proofs.opening.find_first.Given as goal

-- what is sought among the children from here on is what is sought among all
abbrev pub invariant-loop : goal.invariant-loop
invariant-loop l = (l.place ≤ length l.octets)
    × (first l.id (segment_children (length l.octets - l.counter) l.octets l.segment.end l.place) ≡ first_child l.octets l.segment l.id)
