use Rattle.std.proofs.Common.{◌≡◌, ◌+◌, ◌-◌, ◌^◌, ◌≤◌, max, length}
use Rattle.mc_walk.specs.Opening.{segment_of}
use Rattle.mc_cursor.specs.Causes.{OnlyReads}
use Rattle.mc_cursor.specs.Reads.{InFile}
use Rattle.mc_cursor.proofs.Finding.{segment_after}
use Rattle.mc_cursor.proofs.opening.find_segment.Given as goal

-- what is sought from here on is what is sought from the start
abbrev pub invariant-loop-found : goal.invariant-loop-found
invariant-loop-found g l = record {
  later : g.S.Shelf.faults l.initial.shelf ≤ g.S.Shelf.faults l.shelf;
  kept : OnlyReads g.S.Shelf.files g.S.Shelf.opened g.S.Shelf.reach l.initial.shelf l.shelf;
  onward : l.from ≤ l.place;
  near : g.S.Shelf.reach l.shelf ≤ max (g.S.Shelf.reach l.initial.shelf) (l.place + 12);
  told : InFile g.S.Shelf.files g.S.Shelf.opened l.initial.shelf l.file.0
      (λ octets. l.from ≤ length octets → (l.place ≤ length octets) × (segment_after octets l.place ≡ segment_of octets l.from));
}

abbrev pub decreases-loop-found : goal.decreases-loop-found
decreases-loop-found g l = 2 ^ 64 - l.place
