use Rattle.std.proofs.Common.{◌≡◌, ◌+◌, ◌-◌, ◌^◌, ◌≤◌, max, length}
use Rattle.mc_walk.specs.Opening.{first_child}
use Rattle.mc_cursor.specs.Causes.{OnlyReads}
use Rattle.mc_cursor.specs.Reads.{InFile}
use Rattle.mc_cursor.proofs.Finding.{child_after}
use Rattle.mc_cursor.proofs.opening.find_first.Given as goal

-- what is sought among the children from here on is what is sought among all
abbrev pub invariant-loop-child : goal.invariant-loop-child
invariant-loop-child g l = record {
  later : g.S.Shelf.faults l.initial.shelf ≤ g.S.Shelf.faults l.shelf;
  kept : OnlyReads g.S.Shelf.files g.S.Shelf.opened g.S.Shelf.reach l.initial.shelf l.shelf;
  onward : l.segment.opening ≤ l.place;
  near : g.S.Shelf.reach l.shelf ≤ max (g.S.Shelf.reach l.initial.shelf) (l.place + 12);
  told : InFile g.S.Shelf.files g.S.Shelf.opened l.initial.shelf l.file.0
      (λ octets. l.segment.opening ≤ length octets → (l.place ≤ length octets) × (child_after octets l.segment.end l.place l.id ≡ first_child octets l.segment l.id));
}

abbrev pub decreases-loop-child : goal.decreases-loop-child
decreases-loop-child g l = 2 ^ 64 - l.place
