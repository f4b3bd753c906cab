use Rattle.std.proofs.Common.{◌≡◌, ◌+◌, ◌-◌, ◌/◌, ◌≤◌, true, false, length, min}
use Rattle.std.specs.List.{AllWithin}
use Rattle.mc_journal.specs.Films.{rank}
use Rattle.mc_queue.specs.Places.{is_before}
use Rattle.mc_queue.proofs.lookups.index_at.Given as goal

abbrev pub invariant-loop-low : goal.invariant-loop-low
invariant-loop-low g l = record {
  order : l.low ≤ l.high;
  within : l.high ≤ length l.blocks.packets;
  below : AllWithin (λ p. is_before (rank l.head) p ≡ true) l.blocks.packets 0 l.low;
  above : AllWithin (λ p. is_before (rank l.head) p ≡ false) l.blocks.packets l.high (length l.blocks.packets);
  cost : l.steps + ((l.high - l.low) / 256 + min (l.high - l.low) 256 + l.near) ≤ l.fn.steps + (length l.blocks.packets / 256 + min (length l.blocks.packets) 256 + 4);
}

abbrev pub decreases-loop-low : goal.decreases-loop-low
decreases-loop-low g l = l.high - l.low
