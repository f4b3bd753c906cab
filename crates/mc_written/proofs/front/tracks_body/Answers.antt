use Rattle.std.proofs.Common.{◌++◌, List, ℕ, sym, ap, subst, ◌∙◌, arith}
use Rattle.std.proofs.lemmas.List.Elements.{All-more}
use Rattle.mc_tracks.specs.declared.track.Track.{Track}
use Rattle.mc_written.specs.Elements.{element_text}
use Rattle.mc_tracks.specs.TrackList.{HasNumbers}
use Rattle.mc_written.specs.Fronts.{entry}
use Rattle.mc_written.proofs.Fronts.{entries_push}
use Rattle.mc_written.proofs.front.tracks_body.Goals as goal

pub loop-track-preserved : goal.loop-track-preserved
loop-track-preserved c =
    let ts : List Track = c.args.tracks.now in
    let i : ℕ = c.loop-track.track-index in
    let t : Track = c.track-item.result in
    record {
      text = c.in_ok-write_entry.ensures.ok ∙ ap (λ (x : List ℕ). x ++ element_text (entry t)) c.loop-track.invariant.text
          ∙ sym (entries_push i ts t (omega arith) c.track-item.is);
      numbers = All-more HasNumbers ts i t (omega arith) c.loop-track.invariant.numbers (subst HasNumbers c.track-item.is c.in_ok-write_entry.ensures.numbers);
    }
