use Rattle.std.proofs.Common.{string_bytes, ◌≡◌, ◌++◌, flat_map}
use Rattle.mc_value.specs.Values.{escaped}
use Rattle.mc_value.proofs.json_string.push_escaped_all.Given as goal

abbrev pub invariant-loop-c : goal.invariant-loop-c
invariant-loop-c l = string_bytes l.out ≡ string_bytes l.initial.out ++ flat_map escaped l.yielded
