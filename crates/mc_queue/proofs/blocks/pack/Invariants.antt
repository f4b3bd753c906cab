use Rattle.std.proofs.Common.{◌≡◌, take}
use Rattle.std.specs.VecDeque.{deque_capacity}
use Rattle.mc_queue.specs.Blocks.{Stands}
use Rattle.mc_queue.proofs.blocks.pack.Given as goal

abbrev pub invariant-loop-i : goal.invariant-loop-i
invariant-loop-i l = record {
  stands : Stands l.kept.items (take l.i l.packets.items);
  capacity : deque_capacity l.kept ≡ deque_capacity l.fn.kept;
}
