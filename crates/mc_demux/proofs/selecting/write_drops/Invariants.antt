use Rattle.std.proofs.Common.{◌≡◌, ◌≤◌, ◌+◌, ◌++◌, length, take, vec_len}
use Rattle.std.specs.Prelude.{vec_capacity}
use Rattle.mc_calls.specs.Selecting.{told_drops}
use Rattle.mc_demux.proofs.selecting.write_drops.Given as goal

abbrev pub invariant-loop-drop : goal.invariant-loop-drop
invariant-loop-drop l = record {
  items : l.journal.items ≡ l.initial.journal.items ++ told_drops l.by (take l.drop-index l.drops);
  few : vec_len l.journal ≡ vec_len l.initial.journal + l.drop-index;
  room : vec_len l.journal + length l.drops ≤ vec_capacity l.journal + l.drop-index;
  kept : vec_capacity l.journal ≡ vec_capacity l.initial.journal;
}
