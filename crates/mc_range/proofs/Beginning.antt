-- A range that begins is one.
use Rattle.std.proofs.Common.{◌≡◌, ℕ, true, Option, Some, None, arith, refl}
use Rattle.mc_packet.specs.declared.choice.Choice.{Choice}
use Rattle.mc_packet.specs.declared.choice.Starts.{Starts}
use Rattle.mc_packet.specs.declared.walk.Mark.{Mark}
use Rattle.mc_packet.specs.Choices.{is_distinct, AtMark}
use Rattle.mc_queue.specs.Places.{weights}
use Rattle.mc_queue.specs.Queue.{QueueState, IsQueue, IsNew}
use Rattle.mc_range.specs.declared.queues.Queues.{Queues}
use Rattle.mc_range.specs.Range.{StartsAt, QueueIn, IsRange, place_at}
use Rattle.mc_range.proofs.Places.{lane_upto}

pub new_queue : (track : ℕ) (at : ℕ) (q : QueueState) → IsNew track (place_at at) q → IsQueue q
new_queue track at q n = record {
  rise = rw (n.none_yet, n.from_is, n.to_is) (omega arith);
  fits = let z : weights q.packets ≡ 0 = rw n.none_yet refl in omega arith;
}

pub begun : (track start : Option ℕ) (mark : Mark) (q : Option QueueState) → AtMark mark.pos start → StartsAt track start q → QueueIn track mark q
begun track start mark None a s = tt
begun None start mark (Some q) a s = absurd (cc)
begun (Some k) None mark (Some q) a s = absurd (cc)
begun (Some k) (Some at) mark (Some q) a s =
    let e = s.track_is in
    let z = s.to_is in
    (rw e refl, rw z (lane_upto mark.pos at a), new_queue k at q s)

pub begun_range : (set : Choice) (starts : Starts) (qs : Queues) → is_distinct set ≡ true
    → AtMark starts.mark.pos starts.video → AtMark starts.mark.pos starts.audio → AtMark starts.mark.pos starts.sub
    → StartsAt set.video starts.video qs.video → StartsAt set.audio starts.audio qs.audio → StartsAt set.sub starts.sub qs.sub
    → IsRange (record { set = set; queues = qs; mark = starts.mark; ending = None })
begun_range set starts qs d v a s sv sa ss = record {
  distinct = d;
  held = record {
    video = begun set.video starts.video starts.mark qs.video v sv;
    audio = begun set.audio starts.audio starts.mark qs.audio a sa;
    sub = begun set.sub starts.sub starts.mark qs.sub s ss;
  };
}
