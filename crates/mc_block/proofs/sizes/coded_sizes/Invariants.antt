use Rattle.std.proofs.Common.{◌≡◌, ◌≤◌, ◌*◌, ◌-◌, ◌^◌, drop, length, None}
use Rattle.std.specs.Prelude.{unwrap_or}
use Rattle.mc_block.specs.Frames.{coded_sizes}
use Rattle.mc_block.proofs.Laces.{sizes_in_front}
use Rattle.mc_block.proofs.sizes.coded_sizes.Given as goal

abbrev pub invariant-loop : goal.invariant-loop
invariant-loop l = record {
  within : l.at ≤ length l.octets;
  count : length l.sizes ≡ l.counter;
  bound : unwrap_or l.before 0 ≤ 2 ^ 72 * l.counter;
  joined : sizes_in_front l.sizes (coded_sizes l.lacing (l.n - l.counter) l.before (drop l.at l.octets)) ≡ coded_sizes l.lacing l.n None l.octets;
}
