-- The number of a queue's packets, and ranges of other tracks.
use Rattle.std.proofs.Common.{◌≡◌, ℕ, ◌*◌, ◌^◌, ◌<◌, ◌≤◌, true, Option, Some, None, List, [], ◌∷◌, length, arith, ap, inl, inr}
use Rattle.std.specs.Prelude.{IsSomeAnd}
use Rattle.std.proofs.lemmas.Bool.{cases_Bool, eqb-true}
use Rattle.std.proofs.lemmas.List.Sums.{sum_by-cons}
use Rattle.mc_packet.specs.declared.packet.Packet.{Packet}
use Rattle.mc_packet.specs.declared.choice.Choice.{Choice}
use Rattle.mc_packet.specs.declared.choice.Kind.{Kind}
use Rattle.mc_packet.specs.declared.choice.Kind.TheVariants.{Video, Audio, Sub}
use Rattle.mc_packet.specs.declared.walk.Ending.{Ending}
use Rattle.mc_packet.specs.declared.walk.Mark.{Mark}
use Rattle.mc_packet.specs.Choices.{is_track, is_distinct}
use Rattle.mc_queue.specs.Places.{weight_of, weights}
use Rattle.mc_queue.specs.Queue.{QueueState, IsQueue, IsNew}
use Rattle.mc_range.specs.declared.queues.Queues.{Queues}
use Rattle.mc_range.specs.Range.{RangeState, QueueIn, IsRange, place_at}
use Rattle.mc_range.specs.Tracks.{kept_queue, kept_queues, selected_under, PutsIn}
use Rattle.mc_range.proofs.Places.{lane_is, lane_upto}
use Rattle.mc_range.proofs.Beginning.{new_queue}

many_weigh : (ps : List Packet) → length ps * 64 ≤ weights ps
many_weigh [] = omega arith
many_weigh (p ∷ ps) = let more = many_weigh ps in let all = sum_by-cons weight_of p ps in omega arith

pub few : (q : QueueState) → IsQueue q → length q.packets < 2 ^ 60
few q i = let m = many_weigh q.packets in let f = i.fits in omega arith

-- ---- other tracks

pub is_it : (u : Option ℕ) (k : ℕ) → is_track u k ≡ true → u ≡ Some k
is_it None k e = absurd (cc)
is_it (Some n) k e = ap (λ x. Some x) (eqb-true n k e)

kept_in : (t u : Option ℕ) (m : Mark) (q : Option QueueState) → QueueIn t m q → QueueIn u m (kept_queue u q)
kept_in t u m None i = tt
kept_in t u m (Some q) i = elim (cases_Bool (is_track u q.track)) [ inl y ↦ rw y (is_it u q.track y, i.1, i.2) | inr n ↦ rw n tt ]

pub kept_range : (set : Choice) (r : RangeState) (new : Queues) → IsRange r → is_distinct set ≡ true → new ≡ kept_queues set r.queues
    → IsRange (record { set = set; queues = new; mark = r.mark; ending = r.ending })
kept_range set r new i d e = record {
  distinct = d;
  held = rw e (record {
    video = kept_in r.set.video set.video r.mark r.queues.video i.held.video;
    audio = kept_in r.set.audio set.audio r.mark r.queues.audio i.held.audio;
    sub = kept_in r.set.sub set.sub r.mark r.queues.sub i.held.sub;
  });
}

-- ---- an added track

lower_in : (t : Option ℕ) (m n : Mark) (q : Option QueueState) → n.pos ≤ m.pos → QueueIn t m q → QueueIn t n q
lower_in t m n None l i = tt
lower_in t m n (Some q) l i =
    let a = lane_is m.pos in
    let b = lane_is n.pos in
    let h = i.1 in
    (i.0, omega arith, i.2)

fresh_in : (t : Option ℕ) (track start : ℕ) (m : Mark) (q : Option QueueState) → t ≡ Some track → m.pos ≤ start
    → IsSomeAnd q (λ n. IsNew track (place_at start) n) → QueueIn t m q
fresh_in t track start m None e l n = absurd n
fresh_in t track start m (Some q) e l n =
    let f = n.track_is in
    let z = n.to_is in
    (rw f e, rw z (lane_upto m.pos start l), new_queue track start q n)

pub added_range : (kind : Kind) (track start : ℕ) (r : RangeState) (new : Queues) (m : Mark) (e : Option Ending) → IsRange r
    → selected_under kind r.set ≡ Some track → PutsIn kind track start r.queues new → m.pos ≤ r.mark.pos → m.pos ≤ start
    → IsRange (record { set = r.set; queues = new; mark = m; ending = e })
added_range Video track start r new m e i s p l k = record {
  distinct = i.distinct;
  held = record {
    video = fresh_in r.set.video track start m new.video s k p.begun;
    audio = let o = ap (λ (x : Queues). x.audio) p.others in rw o (lower_in r.set.audio r.mark m r.queues.audio l i.held.audio);
    sub = let o = ap (λ (x : Queues). x.sub) p.others in rw o (lower_in r.set.sub r.mark m r.queues.sub l i.held.sub);
  };
}
added_range Audio track start r new m e i s p l k = record {
  distinct = i.distinct;
  held = record {
    video = let o = ap (λ (x : Queues). x.video) p.others in rw o (lower_in r.set.video r.mark m r.queues.video l i.held.video);
    audio = fresh_in r.set.audio track start m new.audio s k p.begun;
    sub = let o = ap (λ (x : Queues). x.sub) p.others in rw o (lower_in r.set.sub r.mark m r.queues.sub l i.held.sub);
  };
}
added_range Sub track start r new m e i s p l k = record {
  distinct = i.distinct;
  held = record {
    video = let o = ap (λ (x : Queues). x.video) p.others in rw o (lower_in r.set.video r.mark m r.queues.video l i.held.video);
    audio = let o = ap (λ (x : Queues). x.audio) p.others in rw o (lower_in r.set.audio r.mark m r.queues.audio l i.held.audio);
    sub = fresh_in r.set.sub track start m new.sub s k p.begun;
  };
}
