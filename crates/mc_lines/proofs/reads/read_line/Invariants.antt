use Rattle.std.proofs.Common.{◌≡◌, ℕ, List}
use Rattle.mc_journal.specs.Drives.{Readings}
use Rattle.mc_lines.specs.Lines.{Orders}
use Rattle.mc_lines.proofs.Asking.{Given}
use Rattle.mc_lines.proofs.reads.read_line.Given as goal

abbrev pub invariant-loop : goal.invariant-loop
invariant-loop g l = record {
  played : (octets : List ℕ) (rd : Readings) → g.M.Machine.stands l.fn.machine octets rd
      → g.M.Machine.stands l.machine octets rd × Given rd l.fn.kind l.count (g.M.Machine.journal l.fn.machine) (g.M.Machine.journal l.machine) l.counter;
  orders : Orders (g.M.Machine.journal l.fn.machine) (g.M.Machine.journal l.machine) (g.M.Machine.jobs l.fn.machine) (g.M.Machine.jobs l.machine);
  fixed : g.M.Machine.fixed l.machine ≡ g.M.Machine.fixed l.fn.machine;
}
