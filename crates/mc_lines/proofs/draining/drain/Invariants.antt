use Rattle.std.proofs.Common.{◌≡◌, ℕ, List}
use Rattle.std.specs.Prelude.{Some}
use Rattle.mc_outside.specs.Shelf.{content}
use Rattle.mc_journal.specs.Drives.{Readings}
use Rattle.mc_lines.specs.Lines.{Grows}
use Rattle.mc_lines.proofs.Drained.{Drained, room}
use Rattle.mc_lines.proofs.draining.drain.Given as goal

abbrev pub invariant-loop-left : goal.invariant-loop-left
invariant-loop-left g l = record {
  played : (octets : List ℕ) (rd : Readings) → content (g.S.Shelf.files l.fn.shelf) (g.S.Shelf.opened l.fn.shelf) (g.M.Machine.fixed l.fn.machine).file ≡ Some octets → g.M.Machine.stands l.fn.machine octets rd
      → g.M.Machine.stands l.machine octets rd × Drained rd (g.M.Machine.journal l.fn.machine) (g.M.Machine.journal l.machine) l.left;
  grows : Grows (g.S.Shelf.faults l.fn.shelf) (g.S.Shelf.faults l.shelf) (g.M.Machine.journal l.fn.machine) (g.M.Machine.journal l.machine);
  fixed : g.M.Machine.fixed l.machine ≡ g.M.Machine.fixed l.fn.machine;
  files : g.S.Shelf.files l.shelf ≡ g.S.Shelf.files l.fn.shelf;
  opened : g.S.Shelf.opened l.shelf ≡ g.S.Shelf.opened l.fn.shelf;
}

-- the room in the journal
abbrev pub decreases-loop-left : goal.decreases-loop-left
decreases-loop-left g l = room (g.M.Machine.journal l.machine)
