use Rattle.std.proofs.Common.{◌≡◌, ◌+◌, ◌++◌, length}
use Rattle.std.specs.VecDeque.{deque_capacity, deque_len}
use Rattle.mc_queue.proofs.parts.pour.Given as goal

abbrev pub invariant-loop-packet : goal.invariant-loop-packet
invariant-loop-packet l = record {
  joined : l.packets ++ l.into.items ≡ l.fn.packets ++ l.fn.into.items;
  long : length l.packets + deque_len l.into ≡ length l.fn.packets + deque_len l.fn.into;
  room : deque_capacity l.into ≡ deque_capacity l.fn.into;
}

abbrev pub decreases-loop-packet : goal.decreases-loop-packet
decreases-loop-packet l = length l.packets
