use Rattle.std.proofs.Common.{rules, ◌∙◌, sym, ◌≡◌, ◌<◌, length, get_or}
use Rattle.mc_tracks.proofs.Counted.{counts, passes}
use Rattle.mc_tracks.proofs.list.TrackList.of_kind.Goals as goal
use Rattle.mc_tracks.proofs.list.TrackList.of_kind.Goals.{then-is_of+in_default, else-is_of}

pub loop-track-preserved : goal.loop-track-preserved
loop-track-preserved c =
    let lt : c.loop-track.track-index < length c.args.self.now = search rules in
    let at : c.track-item.result ≡ get_or c.args.self.now c.loop-track.track-index c.track-item.result = search rules in
    elim c.if-is_of.branch [
      | then-is_of+in_default w ↦
          sym (counts c.args.kind c.loop-track.left c.if-is_of.left c.loop-track.track-index c.track-item.result c.args.self.now lt at (sym c.is_of.ensures ∙ w.if-is_of.true) (search rules) (search rules) w.left-is) ∙ c.loop-track.invariant
      | else-is_of w ↦ rw w.left-is
          (sym (passes c.args.kind c.loop-track.left c.loop-track.track-index c.track-item.result c.args.self.now lt at (sym c.is_of.ensures ∙ w.if-is_of.false)) ∙ c.loop-track.invariant)
    ]
