-- How many options are set.
use Rattle.std.specs.Prelude.{ℕ, ◌+◌, Option, Some, None}
use Rattle.mc_script.specs.declared.options.Chosen.{Chosen}

abbrev pub one_if : {A : Type 0} → Option A → ℕ
one_if None = 0
one_if (Some x) = 1

abbrev pub settings : Chosen → ℕ
settings chosen = one_if chosen.forward + one_if chosen.back + one_if chosen.readahead
