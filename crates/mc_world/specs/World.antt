-- A world as its callers see it.
use Rattle.std.specs.Prelude.{◌≡◌, ℕ, List, Option, None, IfSome, IsSomeAnd, true, ⊤}
use Rattle.mc_packet.specs.Choices.{is_known}
use Rattle.mc_tracks.specs.declared.track.Track.{Track}
use Rattle.mc_tracks.specs.Selection.{knows}
use Rattle.mc_tracks.specs.TrackList.{HaveDistinctNumbers, default_choice_of}
use Rattle.mc_calls.specs.declared.job.Job.{Job}
use Rattle.mc_calls.specs.State.{DemuxState}
use Rattle.mc_player.specs.declared.record.Order.{Order}
use Rattle.mc_player.specs.declared.record.Order.TheVariants as order
use Rattle.mc_player.specs.declared.record.Outcome.{Outcome}
use Rattle.mc_player.specs.Orders.{Opening}
use Rattle.mc_player.specs.Rules.{IsOutcome}
use Rattle.mc_core.specs.Core.{CoreView}

-- the demuxer and the core; the film that is loaded, by its path and its tracks; the job of the demuxer
-- that is out, the order of the core that is out, and what that came to once it was carried
pub record WorldView : Type 0 where
  pub demux : DemuxState
  pub core : CoreView
  pub path : List ℕ
  pub tracks : List Track
  pub job : Option Job
  pub order : Option Order
  pub carried : Option Outcome

-- what a world loads: its film with the tracks that are played at first
abbrev pub opening : WorldView → Opening
opening w = record { path = w.path; tracks = w.tracks; set = default_choice_of w.tracks }

-- an order that is out waits for an outcome
abbrev pub IsAwaited : Order → Type 0
IsAwaited order.Load = ⊤
IsAwaited (order.Seek t dir) = ⊤
IsAwaited (order.Select set at) = ⊤
IsAwaited o = ⊥

-- what is true of every world
pub record IsWorld (w : WorldView) : Type 0 where
  pub order : w.order ≡ w.core.out
  pub awaited : IfSome w.order IsAwaited
  pub carried : IfSome w.carried (λ x. IsSomeAnd w.order (λ o. IsOutcome o x))
  pub distinct : HaveDistinctNumbers w.tracks
  pub known : is_known (knows w.tracks) (default_choice_of w.tracks) ≡ true

-- nothing is out yet
abbrev pub new_world : DemuxState → CoreView → List ℕ → List Track → WorldView
new_world demux core path tracks = record {
  demux = demux;
  core = core;
  path = path;
  tracks = tracks;
  job = None;
  order = None;
  carried = None;
}
