use Rattle.std.proofs.Common.{◌≡◌, List, subst, sym, ◌∙◌}
use Rattle.mc_tracks.specs.declared.track.Track.{Track}
use Rattle.mc_tracks.specs.TrackList.{default_choice_of}
use Rattle.mc_calls.specs.Opening.{HasTracks, IsOpened}
use Rattle.mc_play.proofs.Plays.{begins}
use Rattle.mc_play.proofs.playing.open_driver.Goals as goal

pub returns-clause-film : goal.returns-clause-film
returns-clause-film c = λ octets all opens.
    let cursor = c.args.cursor in
    let demux = c.in_ok-demux in
    let same : c.in_ok-list.list ≡ cursor.tracks = c.in_ok-list.ensures ∙ c.tracks.ensures.value in
    begins octets cursor c.args.limits c.in_ok-index.index demux.demux all opens (λ plan e. c.in_ok-index.ensures.stands plan (e ∙ sym same))
    (subst (λ (list : List Track). IsOpened list (default_choice_of list) c.args.limits demux.demux) same demux.ensures.value)
    (λ film h. demux.ensures.film film (subst (λ (list : List Track). HasTracks list film) (sym same) h))
