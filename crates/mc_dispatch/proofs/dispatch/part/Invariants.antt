use Rattle.std.proofs.Common.{◌≤◌, ◌-◌, ◌≡◌, length}
use Rattle.std.specs.VecDeque.{deque_capacity, deque_len}
use Rattle.mc_dispatch.specs.Queue.{is_named}
use Rattle.mc_dispatch.specs.Turning.{turn}
use Rattle.mc_dispatch.proofs.Parting.{Parting}
use Rattle.mc_dispatch.proofs.dispatch.part.Given as goal

abbrev pub invariant-loop : goal.invariant-loop
invariant-loop l = record {
  parting : Parting (is_named l.client l.id) (l.budget - l.counter) (turn (is_named l.client l.id) (length l.fn.queue.items) (l.fn.queue.items, l.fn.removed.items)) l.queue.items l.removed.items (deque_capacity l.fn.removed);
  room : deque_len l.queue ≤ deque_capacity l.queue;
  space : deque_capacity l.removed ≡ deque_capacity l.fn.removed;
  capacity : deque_capacity l.queue ≡ deque_capacity l.fn.queue;
}
