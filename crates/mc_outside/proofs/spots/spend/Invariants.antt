use Rattle.std.proofs.Common.{◌≡◌, ◌||◌, length}
use Rattle.mc_outside.specs.Spots.{meets_spot, left_of}
use Rattle.mc_outside.proofs.spots.spend.Given as goal

-- what was removed was asked for, and nothing else was
abbrev pub invariant-loop-place : goal.invariant-loop-place
invariant-loop-place l = record {
  met : (l.spent || meets_spot l.file l.pos l.len l.spots) ≡ meets_spot l.file l.pos l.len l.initial.spots;
  left : left_of l.file l.pos l.len l.spots ≡ left_of l.file l.pos l.len l.initial.spots;
}

abbrev pub decreases-loop-place : goal.decreases-loop-place
decreases-loop-place l = length l.spots
