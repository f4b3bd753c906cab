use Rattle.std.proofs.Common.{◌≡◌, ◌++◌, map, take, drop}
use Rattle.mc_index.specs.Entries.{noted}
use Rattle.mc_index.proofs.entry.note_in.Given as goal

-- those up to the place are noted, and the others as they were
abbrev pub invariant-loop-last : goal.invariant-loop-last
invariant-loop-last l = l.tracks ≡ map (noted l.track l.point) (take l.last-index l.initial.tracks) ++ drop l.last-index l.initial.tracks
