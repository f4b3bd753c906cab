use Rattle.std.proofs.Common.{◌≡◌, ◌-◌, ◌≤◌, length}
use Rattle.mc_walk.specs.Walk.{walk, in_front, steps}
use Rattle.mc_film.proofs.step.walk_on.Given as goal

-- the packets so far, and then the walk from here on, are the whole walk
abbrev pub invariant-loop : goal.invariant-loop
invariant-loop l = record {
  within : l.place ≤ length l.plan.octets;
  budget : l.budget ≡ steps l.plan;
  joined : in_front l.packets (walk (l.budget - l.counter) l.plan l.place l.level) ≡ walk l.budget l.plan l.from l.fn.level;
}
