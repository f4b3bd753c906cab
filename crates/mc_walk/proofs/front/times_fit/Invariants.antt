use Rattle.std.proofs.Common.{◌≡◌, ◌-◌}
use Rattle.mc_walk.specs.Glances.{times_fit}
use Rattle.mc_walk.proofs.front.times_fit.Given as goal

abbrev pub invariant-loop-lane : goal.invariant-loop-lane
invariant-loop-lane l = times_fit l.place l.head.relative l.lane (l.count - l.lane) ≡ times_fit l.fn.place l.fn.head.relative 0 l.fn.count
