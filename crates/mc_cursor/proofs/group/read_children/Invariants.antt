use Rattle.std.proofs.Common.{◌+◌, ◌≤◌, length}
use Rattle.std.specs.Prelude.{IfSome}
use Rattle.mc_outside.specs.Shelf.{OnlyReadsTo}
use Rattle.mc_ebml.specs.declared.whole.WholeElement.{WholeElement}
use Rattle.mc_cursor.specs.Reads.{InFile}
use Rattle.mc_cursor.proofs.Groups.{SoFar}
use Rattle.mc_cursor.proofs.group.read_children.Given as goal

abbrev pub invariant-loop : goal.invariant-loop
invariant-loop g l = record {
  later : g.S.Shelf.faults l.initial.shelf ≤ g.S.Shelf.faults l.shelf;
  kept : OnlyReadsTo g.S.Shelf.files g.S.Shelf.opened g.S.Shelf.reach l.initial.shelf l.shelf (l.at + l.len);
  within : l.next ≤ l.len;
  lies : IfSome l.found.block (λ (c : WholeElement). (c.at ≤ c.stop) × (c.stop ≤ l.len));
  told : InFile g.S.Shelf.files g.S.Shelf.opened l.initial.shelf l.file.0
      (λ octets. l.at + l.len ≤ length octets → SoFar octets l.at l.len l.found l.counter l.next);
}
