use Rattle.std.proofs.Common.{◌≡◌, ◌≤◌, take}
use Rattle.mc_turn.specs.Callers.{of_caller}
use Rattle.turn_bench.specs.Work.{caller_of, numbered}
use Rattle.turn_bench.proofs.log.Log.is_in_order.Given as goal

abbrev pub invariant-loop-entry : goal.invariant-loop-entry
invariant-loop-entry l = record { few : l.next ≤ l.entry-index; ordered : of_caller caller_of l.caller (take l.entry-index l.entry-items) ≡ numbered l.caller l.next }
