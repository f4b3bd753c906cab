-- How many workers a team has.
use Rattle.std.specs.Prelude.{ℕ}
use Rattle.turn_bench.specs.declared.team.Team.{Team}
use Rattle.turn_bench.specs.declared.team.Team.TheVariants.{One, Two, Four, Eight}

abbrev pub size_of : Team → ℕ
size_of One = 1
size_of Two = 2
size_of Four = 4
size_of Eight = 8
