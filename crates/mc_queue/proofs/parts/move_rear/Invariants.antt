use Rattle.std.proofs.Common.{◌≡◌, ◌+◌, ◌≤◌, ◌++◌}
use Rattle.std.specs.VecDeque.{deque_capacity, deque_len}
use Rattle.mc_queue.proofs.parts.move_rear.Given as goal

abbrev pub invariant-loop-from : goal.invariant-loop-from
invariant-loop-from l = record {
  joined : l.from.items ++ l.into.items ≡ l.fn.from.items ++ l.fn.into.items;
  long : l.keep ≤ deque_len l.from;
  total : deque_len l.from + deque_len l.into ≡ deque_len l.fn.from + deque_len l.fn.into;
  room : deque_capacity l.into ≡ deque_capacity l.fn.into;
  left_room : deque_capacity l.from ≡ deque_capacity l.fn.from;
}

abbrev pub decreases-loop-from : goal.decreases-loop-from
decreases-loop-from l = deque_len l.from
