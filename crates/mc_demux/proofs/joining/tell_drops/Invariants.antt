use Rattle.std.proofs.Common.{◌≡◌, ◌+◌, vec_len, vec_capacity, take}
use Rattle.mc_calls.specs.Settling.{with_drops}
use Rattle.mc_demux.proofs.joining.tell_drops.Given as goal

abbrev pub invariant-loop-drop : goal.invariant-loop-drop
invariant-loop-drop l = record {
  told : l.journal.items ≡ with_drops l.by l.fn.journal.items (take l.drop-index l.drop-items);
  len : vec_len l.journal ≡ vec_len l.fn.journal + l.drop-index;
  capacity : vec_capacity l.journal ≡ vec_capacity l.fn.journal;
}
