use Rattle.std.proofs.Common.{rules, tests}
use Rattle.std.proofs.lemmas.Iterator.{YieldsList-from_slice}
use Rattle.std.proofs.lemmas.Iterator.Consumers.{YieldsList-from_filter, nth_from_yields_List}
use Rattle.mc_tracks.specs.TrackList.{is_of}
use Rattle.mc_tracks.specs.declared.track.Track.{Track}
use Rattle.mc_props.proofs.track_values.nth_of_kind.Goals as goal

pub returns : goal.returns
returns c = nth_from_yields_List _ _ c.args.place c.nth.ensures.ran
    (YieldsList-from_filter _ (λ (t : Track). is_of c.args.kind t.kind) (YieldsList-from_slice c.args.tracks.now cc) c.filter.ensures.closure (λ x r q k. search (rules, tests)))
