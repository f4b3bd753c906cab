-- What a range weighs with other tracks, and at the readers' heads.
use Rattle.std.proofs.Common.{ℕ, ◌≤◌, Option, Some, None, arith, inl, inr}
use Rattle.std.proofs.lemmas.Bool.{cases_Bool}
use Rattle.mc_packet.specs.declared.choice.Choice.{Choice}
use Rattle.mc_packet.specs.declared.cache.Heads.{Heads}
use Rattle.mc_packet.specs.declared.packet.Pos.{Pos}
use Rattle.mc_packet.specs.Choices.{is_track}
use Rattle.mc_journal.specs.Films.{rank}
use Rattle.mc_queue.specs.Queue.{QueueState}
use Rattle.mc_queue.proofs.Rising.{less_weight_from}
use Rattle.mc_range.specs.Range.{RangeState, weight_in as weight_of_queue}
use Rattle.mc_range.specs.Cutting.{weight_ahead, weight_from}
use Rattle.mc_range.specs.Tracks.{kept_queue, retracked}
use Rattle.mc_cache.specs.Cache.{weight_in}

kept_weighs : (track : Option ℕ) (q : Option QueueState) → weight_of_queue (kept_queue track q) ≤ weight_of_queue q
kept_weighs track None = omega arith
kept_weighs track (Some q) = elim (cases_Bool (is_track track q.track)) [ inl y ↦ rw y (omega arith) | inr n ↦ rw n (omega arith) ]

pub retracked_weighs : (set : Choice) (r : RangeState) → weight_in (retracked set r) ≤ weight_in r
retracked_weighs set r =
    let v = kept_weighs set.video r.queues.video in
    let a = kept_weighs set.audio r.queues.audio in
    let s = kept_weighs set.sub r.queues.sub in
    omega arith

ahead_one : (head : Option Pos) (q : Option QueueState) → weight_ahead head q ≤ weight_of_queue q
ahead_one None q = omega arith
ahead_one (Some head) None = omega arith
ahead_one (Some head) (Some q) = less_weight_from (rank head) q.packets

pub ahead_at_most : (heads : Heads) (r : RangeState) → weight_from heads r.queues ≤ weight_in r
ahead_at_most heads r =
    let v = ahead_one heads.video r.queues.video in
    let a = ahead_one heads.audio r.queues.audio in
    let s = ahead_one heads.sub r.queues.sub in
    omega arith
