use Rattle.std.proofs.Common.{◌≡◌, ◌-◌, ◌≤◌, length, drop}
use Rattle.mc_journal.specs.Films.{rank}
use Rattle.mc_queue.specs.Places.{before}
use Rattle.mc_queue.specs.Differences.{difference_of}
use Rattle.mc_queue.proofs.differences.compare.Given as goal

abbrev pub invariant-loop-i : goal.invariant-loop-i
invariant-loop-i l = record {
  left : difference_of (rank l.to) (drop l.i l.ours.items) (drop l.j l.theirs.items)
      ≡ difference_of (rank l.to) (drop (length (before (rank l.fn.from) l.ours.items)) l.ours.items) (drop (length (before (rank l.fn.from) l.theirs.items)) l.theirs.items);
  ours_within : l.i ≤ length l.ours.items;
  theirs_within : l.j ≤ length l.theirs.items;
}

abbrev pub decreases-loop-i : goal.decreases-loop-i
decreases-loop-i l = length l.ours.items - l.i
