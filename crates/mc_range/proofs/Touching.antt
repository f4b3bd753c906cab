-- Two ranges touch where the intervals of their queues do.
use Rattle.std.proofs.Common.{◌≡◌, ℕ, Bool, true, false, ◌&&◌, Option, Some, None, refl, ap, ◌∙◌}
use Rattle.std.proofs.lemmas.Bool.{and_parts}
use Rattle.mc_packet.specs.Choices.{passes}
use Rattle.mc_journal.specs.Ranges.{touches}
use Rattle.mc_queue.specs.Queue.{QueueState}
use Rattle.mc_range.specs.Range.{RangeState, IsRange, queue_of, as_range, is_same, is_same_set, meets_range}
use Rattle.mc_range.specs.Tracks.{interval_of, intervals, touch_in, spans_touch}
use Rattle.mc_range.proofs.Unions.{both_in, same_some, video_is, audio_is, sub_is}

shown : (k : ℕ) (a b : Option QueueState) → both_in a b ≡ touch_in (Some k) (interval_of a) (interval_of b)
shown k None b = refl
shown k (Some a) None = refl
shown k (Some a) (Some b) = refl

kind_same : (t u : Option ℕ) (a b : Option QueueState) (qa qb : ℕ → Option QueueState)
    → ((k : ℕ) → t ≡ Some k → qa k ≡ a) → ((k : ℕ) → u ≡ Some k → qb k ≡ b) → is_same t u ≡ true
    → passes t (λ k. both_in (qa k) (qb k)) ≡ touch_in t (interval_of a) (interval_of b)
kind_same None u a b qa qb x y s = refl
kind_same (Some k) u a b qa qb x y s =
    let p = x k refl in
    let q = y k (same_some (Some k) u k s refl) in
    rw (p, q) (shown k a b)

and_same : (a b c d : Bool) → a ≡ b → c ≡ d → (a && c) ≡ (b && d)
and_same a b c d e f = ap (λ x. x && c) e ∙ ap (λ x. b && x) f

pub touch_same : (r o : RangeState) → IsRange r → IsRange o → is_same_set r.set o.set ≡ true
    → touches r.set (as_range r) (as_range o) ≡ spans_touch r.set (intervals r.queues) (intervals o.queues)
touch_same r o i j s =
    let sames = and_parts (is_same r.set.video o.set.video) _ s in
    let more = and_parts (is_same r.set.audio o.set.audio) (is_same r.set.sub o.set.sub) sames.1 in
    and_same _ _ _ _
    (kind_same r.set.video o.set.video r.queues.video o.queues.video (λ k. queue_of k r.queues) (λ k. queue_of k o.queues)
    (λ k e. video_is r k i e) (λ k e. video_is o k j e) sames.0)
    (and_same _ _ _ _
    (kind_same r.set.audio o.set.audio r.queues.audio o.queues.audio (λ k. queue_of k r.queues) (λ k. queue_of k o.queues)
    (λ k e. audio_is r k i e) (λ k e. audio_is o k j e) more.0)
    (kind_same r.set.sub o.set.sub r.queues.sub o.queues.sub (λ k. queue_of k r.queues) (λ k. queue_of k o.queues)
    (λ k e. sub_is r k i e) (λ k e. sub_is o k j e) more.1))

both_if : (a b c : Bool) → (a ≡ true → b ≡ c) → (a && b) ≡ (a && c)
both_if true b c h = h refl
both_if false b c h = refl

pub meets_same : (r o : RangeState) → IsRange r → IsRange o
    → meets_range r o ≡ (is_same_set r.set o.set && spans_touch r.set (intervals r.queues) (intervals o.queues))
meets_same r o i j = both_if (is_same_set r.set o.set) _ _ (λ s. touch_same r o i j s)
