use Rattle.std.proofs.Common.{◌≡◌, ◌<◌, ◌^◌, drop}
use Rattle.mc_value.specs.Numbers.{read_behind}
use Rattle.mc_value.proofs.number.read_digits.Given as goal

abbrev pub invariant-loop-digit : goal.invariant-loop-digit
invariant-loop-digit l = record {
  whole : read_behind l.number (drop l.digit-index l.digits) ≡ read_behind 0 l.digits;
  small : l.number < 2 ^ 64;
}
