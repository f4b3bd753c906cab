use Rattle.std.proofs.Common.{◌≡◌, ℕ, List, drop}
use Rattle.std.specs.Prelude.{Some}
use Rattle.mc_outside.specs.Shelf.{content}
use Rattle.mc_journal.specs.Drives.{Readings}
use Rattle.mc_lines.specs.Lines.{Grows}
use Rattle.mc_lines.specs.Runs.{IsAwaited}
use Rattle.mc_lines.proofs.Playing.{Paired, Reached}
use Rattle.mc_lines.proofs.play.run_script.Given as goal

abbrev pub invariant-loop-act : goal.invariant-loop-act
invariant-loop-act g l = record {
  played : (octets : List ℕ) (rd : Readings) → content (g.S.Shelf.files l.fn.shelf) (g.S.Shelf.opened l.fn.shelf) (g.M.Machine.fixed l.fn.machine).file ≡ Some octets → g.M.Machine.stands l.fn.machine octets rd
      → g.M.Machine.stands l.machine octets rd × Reached rd l.script (drop l.act-index l.script) (g.M.Machine.journal l.fn.machine) (g.M.Machine.journal l.machine) l.out (g.M.Machine.jobs l.machine);
  paired : Paired (drop l.act-index l.script) l.out;
  awaited : IsAwaited l.out (g.M.Machine.journal l.machine) (g.M.Machine.jobs l.machine);
  grows : Grows (g.S.Shelf.faults l.fn.shelf) (g.S.Shelf.faults l.shelf) (g.M.Machine.journal l.fn.machine) (g.M.Machine.journal l.machine);
  fixed : g.M.Machine.fixed l.machine ≡ g.M.Machine.fixed l.fn.machine;
  files : g.S.Shelf.files l.shelf ≡ g.S.Shelf.files l.fn.shelf;
  opened : g.S.Shelf.opened l.shelf ≡ g.S.Shelf.opened l.fn.shelf;
}
