use Rattle.std.proofs.Common.{◌≡◌, ◌-◌, ◌≤◌, length}
use Rattle.std.specs.Prelude.{slice_range}
use Rattle.mc_outside.specs.Shelf.{OnlyReadsTo}
use Rattle.mc_block.specs.Fronts.{is_good, FitsIn}
use Rattle.mc_cursor.specs.Reads.{InFile}
use Rattle.mc_cursor.proofs.lace.read_sizes.Given as goal

-- what is left of the lace is as good as the whole
abbrev pub invariant-loop-file : goal.invariant-loop-file
invariant-loop-file g l = record {
  later : g.S.Shelf.faults l.initial.shelf ≤ g.S.Shelf.faults l.shelf;
  kept : OnlyReadsTo g.S.Shelf.files g.S.Shelf.opened g.S.Shelf.reach l.initial.shelf l.shelf l.stop;
  order : l.place ≤ l.stop;
  fits : FitsIn (l.stop - l.place) l.next;
  told : InFile g.S.Shelf.files g.S.Shelf.opened l.initial.shelf l.file.0
      (λ octets. l.stop ≤ length octets → is_good l.next (slice_range octets l.place l.stop) ≡ is_good l.fn.lace (slice_range octets l.fn.at l.stop));
}

abbrev pub decreases-loop-file : goal.decreases-loop-file
decreases-loop-file g l = l.stop - l.place
