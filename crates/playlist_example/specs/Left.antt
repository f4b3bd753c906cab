-- A property of a front end's own: how many films are left.
use Rattle.std.specs.Prelude.{ℕ, pos, ◌-◌, ◌^◌, min, length}
use Rattle.mc_value.specs.declared.value.Value.TheVariants.{Int}
use Rattle.mc_props.specs.declared.reading.Reading.{Reading}
use Rattle.mc_props.specs.declared.reading.Reading.TheVariants.{Is}
use Rattle.mc_playlist.specs.Steps.{next_place}
use Rattle.mc_playlist.specs.declared.facts.ListFacts.{ListFacts}

-- how many entries stand behind the list's place; all where it has none
abbrev pub left_at : ℕ → ListFacts → Reading
left_at place f = Is (Int (pos (min (length f.names - next_place f.pos) (2 ^ 63 - 1))))
