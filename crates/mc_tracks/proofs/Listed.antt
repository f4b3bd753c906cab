-- The tracks of a body, child by child.
use Rattle.std.proofs.Common.{◌≡◌, ◌≢◌, ℕ, ◌+◌, ◌-◌, ◌<◌, ◌≤◌, List, length, Some, None, Result, Ok, Err, sym, ap, ◌∙◌}
use Rattle.mc_ebml.specs.declared.whole.WholeElement.{WholeElement}
use Rattle.mc_tracks.specs.declared.children.Master.TheVariants.{Tracks}
use Rattle.mc_tracks.specs.declared.refused.Refused.{Refused}
use Rattle.mc_tracks.specs.declared.refused.Refused.TheVariants.{Broken}
use Rattle.mc_tracks.specs.declared.refused.TracksError.{TracksError}
use Rattle.mc_tracks.specs.declared.refused.TracksError.TheVariants as failures
use Rattle.mc_tracks.specs.declared.track.Track.{Track}
use Rattle.mc_tracks.specs.Answer.{Fails, ◌>>=◌}
use Rattle.mc_tracks.specs.Children.{Children, children, child_at}
use Rattle.mc_tracks.specs.Header.{with_child, listed, tracks_among, unless_broken}
use Rattle.mc_tracks.proofs.Walk as walk

module _ (body : List ℕ) (at : ℕ) (tracks : List Track) (i place : ℕ) (total : Result (List Track) Refused)
    (so_far : tracks_among body at tracks (children (length body - i) Tracks body place) ≡ total) where
  pub ends : place ≡ length body → total ≡ Ok tracks
  ends e = sym so_far ∙ ap (tracks_among body at tracks) (walk.ends (length body) i place Tracks body e)

  pub is_done : length body ≤ i → total ≡ Ok tracks
  is_done le = sym so_far ∙ ap (tracks_among body at tracks) (walk.is_done (length body) i place Tracks body le)

  pub breaks : i < length body → place ≢ length body → None ≡ child_at Tracks body place → total ≡ Err (Broken (at + place))
  breaks lt ne child = sym so_far ∙ ap (tracks_among body at tracks) (walk.breaks (length body) i place Tracks body lt ne child)

  module _ (c : WholeElement) (lt : i < length body) (ne : place ≢ length body) (child : Some c ≡ child_at Tracks body place) where
    behind : Children
    behind = children (length body - (i + 1)) Tracks body c.stop

    after : Result (List Track) Refused → Result (List Track) Refused
    after this = (this >>= λ more. listed body at more behind.whole) >>= λ more. unless_broken at behind.broken >>= λ _. Ok more

    step : after (with_child body at tracks c) ≡ total
    unfolding after behind
    step = sym (ap (tracks_among body at tracks) (walk.goes_on (length body) i place Tracks body c lt ne child)) ∙ so_far

    pub goes_on : (more : List Track) → with_child body at tracks c ≡ Ok more
        → tracks_among body at more (children (length body - (i + 1)) Tracks body c.stop) ≡ total
    unfolding after behind
    goes_on more e = sym (ap after e) ∙ step

    pub refuses : (error : TracksError) → Fails error (with_child body at tracks c) → Fails error total
    unfolding after behind
    refuses failures.NoMemory e = tt
    refuses (failures.Refused r) e = sym step ∙ ap after e
