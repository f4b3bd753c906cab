use Rattle.std.proofs.Common.{rules}
use Rattle.mc_tracks.proofs.Numbers.{is_new}
use Rattle.mc_tracks.proofs.list.TrackList.copy.Goals as goal

pub push-requires : goal.push-requires
push-requires c = rw (c.in_ok-copy.ensures, c.loop-track.invariant)
    (is_new c.args.self.now c.loop-track.track-index c.track-item.result (search rules) (search rules) c.as_slice-track-items.ensures.distinct)
