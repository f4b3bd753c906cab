use Rattle.std.proofs.Common.{◌<◌, ◌≤◌, ◌-◌, ◌∙◌, refl, arith}
use Rattle.mc_block.specs.Fronts.{FitsIn}
use Rattle.mc_cursor.proofs.Spans.{reads_none, reads_more, told_after}
use Rattle.mc_cursor.proofs.lace.read_sizes.Goals as goal

pub loop-file-init : goal.loop-file-init
loop-file-init g c = record {
  later = omega arith;
  kept = reads_none _ _ _ _;
  order = c.requires.order;
  fits = c.requires.fits;
  told = λ octets told within. refl;
}

pub loop-file-preserved : goal.loop-file-preserved
loop-file-preserved g c =
    let inv = c.loop-file.invariant in
    let onward : (c.loop-file.place < c.in-On.to) × (c.in-On.to ≤ c.args.stop) × FitsIn (c.args.stop - c.in-On.to) c.in-On.read = rw c.in-On.is at c.in_ok-read_window.ensures.onward in
    record {
      later = omega (arith, inv.later, c.read_window.ensures.cause.later);
      kept = reads_more _ _ _ _ _ _ _ _ _ _ _ inv.kept c.read_window.ensures.kept (omega arith);
      order = onward.1;
      fits = onward.2;
      told = λ octets told within.
          let told' = told_after _ _ _ _ _ _ _ c.args.file.0 octets inv.kept told in
          (rw c.in-On.is at (c.in_ok-read_window.ensures.value octets told' within)) ∙ inv.told octets told within;
    }
