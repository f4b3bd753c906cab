use Rattle.std.proofs.Common.{◌≡◌, ◌+◌, vec_len, vec_capacity}
use Rattle.mc_calls.specs.Settling.{with_joins}
use Rattle.mc_demux.proofs.joining.tell_joins.Given as goal

abbrev pub invariant-loop : goal.invariant-loop
invariant-loop l = record {
  told : l.journal.items ≡ with_joins l.by l.fn.journal.items l.counter;
  len : vec_len l.journal ≡ vec_len l.fn.journal + l.counter;
  capacity : vec_capacity l.journal ≡ vec_capacity l.fn.journal;
}
