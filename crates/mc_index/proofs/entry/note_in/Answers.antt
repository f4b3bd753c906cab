use Rattle.std.proofs.Common.{None, sym, ap, ◌∙◌, set, get_or, arith}
use Rattle.mc_index.specs.declared.entry.LastSync.{LastSync}
use Rattle.mc_index.proofs.Listing.{noted-next, noted-same, noted-other}
use Rattle.mc_index.proofs.entry.note_in.Goals as goal
use Rattle.mc_index.proofs.entry.note_in.Goals.{then-track-last, else-track-last}

pub loop-last-preserved : goal.loop-last-preserved
loop-last-preserved c =
    let d : LastSync = record { track = 0; point = None } in
    let ts = c.loop-last.tracks in
    let i = c.loop-last.last-index in
    elim c.if-track-last.branch [
      | then-track-last w ↦
          let same = noted-same c.args.track c.args.point (get_or ts i d) w.if-track-last.true in
          noted-next c.args.track c.args.point c.args.tracks.now ts c.if-track-last.tracks i d (omega (arith, c.loop-last-test.true)) c.loop-last.invariant
          (w.tracks-is ∙ ap (set ts i) (sym same))
      | else-track-last w ↦
          let same = noted-other c.args.track c.args.point (get_or ts i d) w.if-track-last.false in
          noted-next c.args.track c.args.point c.args.tracks.now ts c.if-track-last.tracks i d (omega (arith, c.loop-last-test.true)) c.loop-last.invariant
          (w.tracks-is ∙ ap (set ts i) (sym same))
    ]
