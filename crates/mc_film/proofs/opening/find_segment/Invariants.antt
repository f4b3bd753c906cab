use Rattle.std.proofs.Common.{◌≡◌, ◌-◌, ◌≤◌, length}
use Rattle.mc_walk.specs.Opening.{segment_from, segment_of}
use Rattle.mc_film.proofs.opening.find_segment.Given as goal

-- what is sought from here on is what is sought from the start
abbrev pub invariant-loop : goal.invariant-loop
invariant-loop l = (l.place ≤ length l.octets)
    × (segment_from (length l.octets - l.counter) l.octets l.place ≡ segment_of l.octets l.fn.from)
