use Rattle.std.proofs.Common.{rules, tests, ◌==◌}
use Rattle.std.proofs.lemmas.Iterator.{YieldsList-from_slice}
use Rattle.std.proofs.lemmas.Iterator.Consumers.{YieldsList-from_filter}
use Rattle.std.proofs.lemmas.Iterator.Search.{position_from_yields_List}
use Rattle.mc_tracks.specs.TrackList.{is_of}
use Rattle.mc_tracks.specs.declared.track.Track.{Track}
use Rattle.mc_props.proofs.track_values.place_of.Goals as goal

pub returns-clause-place : goal.returns-clause-place
returns-clause-place c = position_from_yields_List (λ (t : Track). t.no == c.args.number) _ _ c.position.result c.position.ensures.ran
    (YieldsList-from_filter _ (λ (t : Track). is_of c.args.kind t.kind) (YieldsList-from_slice c.args.tracks.now cc) c.filter.ensures.closure (λ x r q k. search (rules, tests)))
    (λ x b q k. search (rules, tests))
