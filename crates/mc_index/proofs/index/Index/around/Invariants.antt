use Rattle.std.proofs.Common.{◌-◌, ◌^◌, ◌≤◌, ◌≡◌}
use Rattle.mc_cursor.specs.Causes.{OnlyReads}
use Rattle.mc_cursor.specs.Standing.{mark_of, at_mark}
use Rattle.mc_index.specs.Scans.{OnOctets}
use Rattle.mc_index.proofs.SoFar.{SoFar}
use Rattle.mc_index.proofs.index.Index.around.Given as goal

-- what was read so far, and what was kept
abbrev pub invariant-loop-point : goal.invariant-loop-point
invariant-loop-point g l = record {
  later : g.S.Shelf.faults l.fn.shelf ≤ g.S.Shelf.faults l.shelf;
  kept : OnlyReads g.S.Shelf.files g.S.Shelf.opened g.S.Shelf.reach l.fn.shelf l.shelf;
  moved : l.cursor ≡ at_mark l.fn.cursor (mark_of l.cursor);
  told : OnOctets g.S.Shelf.files g.S.Shelf.opened l.fn.shelf l.fn.cursor l.fn.self
      (λ octets. SoFar octets l.track l.t l.cursor l.self l.before (g.S.Shelf.reach l.fn.shelf) (g.S.Shelf.reach l.shelf));
}

abbrev pub decreases-loop-point : goal.decreases-loop-point
decreases-loop-point g l = 2 ^ 64 - l.cursor.mark.pos
