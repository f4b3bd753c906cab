use Rattle.std.proofs.Common.{◌-◌, ◌^◌, ◌<◌, ◌≤◌}
use Rattle.mc_cursor.specs.Causes.{OnlyReads}
use Rattle.mc_cursor.specs.Standing.{OnFilm}
use Rattle.mc_cursor.proofs.Chunks.{SoFar}
use Rattle.mc_cursor.proofs.cursor.Cursor.find_next.Given as goal

-- what was read so far, and what was kept
abbrev pub invariant-loop-ending : goal.invariant-loop-ending
invariant-loop-ending g l = record {
  later : g.S.Shelf.faults l.initial.shelf ≤ g.S.Shelf.faults l.shelf;
  kept : OnlyReads g.S.Shelf.files g.S.Shelf.opened g.S.Shelf.reach l.initial.shelf l.shelf;
  positive : 0 < l.place;
  onward : l.self.mark.pos ≤ l.place;
  told : OnFilm g.S.Shelf.files g.S.Shelf.opened l.initial.shelf l.self
      (λ octets. SoFar octets l.self l.place l.level (g.S.Shelf.reach l.initial.shelf) (g.S.Shelf.reach l.shelf));
}

abbrev pub decreases-loop-ending : goal.decreases-loop-ending
decreases-loop-ending g l = 2 ^ 64 - l.place
