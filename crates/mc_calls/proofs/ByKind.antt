-- The queue and the head of a selected track are those of its kind.
use Rattle.std.proofs.Common.{◌≡◌, ℕ, ◌+◌, true, false, ◌&&◌, Option, Some, None, refl, ap, sym, subst, ◌∙◌, inl, inr, ◌==◌}
use Rattle.std.specs.Prelude.{is_some}
use Rattle.std.proofs.lemmas.Bool.{cases_Bool, eqb-true, eq-eqb, and_parts}
use Rattle.mc_packet.specs.declared.packet.Pos.{Pos}
use Rattle.mc_packet.specs.declared.choice.Choice.{Choice}
use Rattle.mc_packet.specs.declared.cache.Heads.{Heads}
use Rattle.mc_packet.specs.declared.walk.Mark.{Mark}
use Rattle.mc_packet.specs.Choices.{or_else, is_track, is_other, is_distinct}
use Rattle.mc_journal.specs.Choices.{of_track, total_of}
use Rattle.mc_queue.specs.Places.{weights}
use Rattle.mc_queue.specs.Queue.{QueueState}
use Rattle.mc_range.specs.declared.queues.Queues.{Queues}
use Rattle.mc_range.specs.Range.{RangeState, IsRange, QueueIn, QueuesIn, own, queue_of}
use Rattle.mc_range.specs.Cutting.{weight_ahead, weight_from}
use Rattle.mc_calls.specs.State.{head_of, ahead}
use Rattle.mc_calls.specs.Demuxers.{HaveHeads}

-- ---- of different tracks

other_off : (a b : Option ℕ) (k : ℕ) → is_other a b ≡ true → a ≡ Some k → is_track b k ≡ false
other_off None b k o e = absurd (cc)
other_off (Some m) None k o e = refl
other_off (Some m) (Some n) k o e = elim (cases_Bool (n == k)) [
  | inl y ↦ absurd (let f : m ≡ k = cc in let g : n ≡ k = eqb-true n k y in let same : (m == n) ≡ true = eq-eqb m n (f ∙ sym g) in let bad : false ≡ true = rw same at o in cc)
  | inr z ↦ z
]

other_back : (a b : Option ℕ) (k : ℕ) → is_other a b ≡ true → b ≡ Some k → is_track a k ≡ false
other_back None b k o e = refl
other_back (Some m) None k o e = absurd (cc)
other_back (Some m) (Some n) k o e = elim (cases_Bool (m == k)) [
  | inl y ↦ absurd (let f : n ≡ k = cc in let g : m ≡ k = eqb-true m k y in let same : (m == n) ≡ true = eq-eqb m n (g ∙ sym f) in let bad : false ≡ true = rw same at o in cc)
  | inr z ↦ z
]

pub own_other : (t : Option ℕ) (m : Mark) (o : Option QueueState) (k : ℕ) → QueueIn t m o → is_track t k ≡ false → own k o ≡ None
own_other t m None k i e = refl
own_other t m (Some q) k i e = let f : (q.track == k) ≡ false = subst (λ (x : Option ℕ). is_track x k ≡ false) i.0 e in rw f refl

own_self : (t : Option ℕ) (m : Mark) (o : Option QueueState) (k : ℕ) → QueueIn t m o → t ≡ Some k → own k o ≡ o
own_self t m None k i e = refl
own_self t m (Some q) k i e = let f : Some q.track ≡ Some k = sym i.0 ∙ e in let g : q.track ≡ k = cc in let y = eq-eqb q.track k g in rw y refl

is_own : (t : Option ℕ) (k : ℕ) → t ≡ Some k → is_track t k ≡ true
is_own t k e = subst (λ (x : Option ℕ). is_track x k ≡ true) (sym e) (eq-eqb k k refl)

or_none : (o : Option QueueState) → or_else o (or_else None None) ≡ o
or_none None = refl
or_none (Some q) = refl

or_last : (o : Option QueueState) → or_else o None ≡ o
or_last None = refl
or_last (Some q) = refl

-- ---- the three kinds

abbrev pub KindIs : Choice → Heads → Queues → Option ℕ → Option QueueState → Option Pos → Type 0
KindIs set heads qs t q hd = (k : ℕ) → t ≡ Some k → (queue_of k qs ≡ q) × (head_of set heads k ≡ hd)

pub record KindsAre (set : Choice) (heads : Heads) (qs : Queues) : Type 0 where
  pub video : KindIs set heads qs set.video qs.video heads.video
  pub audio : KindIs set heads qs set.audio qs.audio heads.audio
  pub sub : KindIs set heads qs set.sub qs.sub heads.sub

pub kinds_are : (set : Choice) (heads : Heads) (m : Mark) (qs : Queues) → is_distinct set ≡ true → QueuesIn set m qs → KindsAre set heads qs
kinds_are set heads m qs d i =
    let one = and_parts (is_other set.video set.audio) (is_other set.video set.sub && is_other set.audio set.sub) d in
    let two = and_parts (is_other set.video set.sub) (is_other set.audio set.sub) one.1 in
    record {
      video = λ k e.
          let v = own_self set.video m qs.video k i.video e in
          let a = own_other set.audio m qs.audio k i.audio (other_off set.video set.audio k one.0 e) in
          let b = own_other set.sub m qs.sub k i.sub (other_off set.video set.sub k two.0 e) in
          let y = is_own set.video k e in
          (rw (v, a, b) (or_none qs.video), rw y refl);
      audio = λ k e.
          let n = other_back set.video set.audio k one.0 e in
          let v = own_other set.video m qs.video k i.video n in
          let a = own_self set.audio m qs.audio k i.audio e in
          let b = own_other set.sub m qs.sub k i.sub (other_off set.audio set.sub k two.1 e) in
          let y = is_own set.audio k e in
          (rw (v, a, b) (or_last qs.audio), rw (n, y) refl);
      sub = λ k e.
          let n = other_back set.video set.sub k two.0 e in
          let o = other_back set.audio set.sub k two.1 e in
          let v = own_other set.video m qs.video k i.video n in
          let a = own_other set.audio m qs.audio k i.audio o in
          let b = own_self set.sub m qs.sub k i.sub e in
          let y = is_own set.sub k e in
          (rw (v, a, b) refl, rw (n, o, y) refl);
    }

-- ---- the octets ahead

no_ahead : (hd : Option Pos) → weight_ahead hd None ≡ 0
no_ahead None = refl
no_ahead (Some p) = refl

same_ahead : (q : Option QueueState) (hd : Option Pos) → (is_some q ≡ true → is_some hd ≡ true) → weight_ahead hd q ≡ weights (ahead q hd)
same_ahead None hd h = no_ahead hd
same_ahead (Some q) None h = absurd (let e = h refl in cc)
same_ahead (Some q) (Some p) h = refl

one_ahead : (set : Choice) (heads : Heads) (m : Mark) (r : RangeState) (t : Option ℕ) (q : Option QueueState) (hd : Option Pos) → QueueIn t m q
    → KindIs set heads r.queues t q hd → HaveHeads set heads r
    → weight_ahead hd q ≡ of_track t (λ k. weights (ahead (queue_of k r.queues) (head_of set heads k)))
one_ahead set heads m r None None hd i kind have = no_ahead hd
one_ahead set heads m r None (Some q) hd i kind have = absurd (let e = i.0 in cc)
one_ahead set heads m r (Some k) q hd i kind have =
    let both = kind k refl in
    let some : is_some q ≡ true → is_some hd ≡ true =
    λ e. subst (λ (x : Option Pos). is_some x ≡ true) both.1 (have k (subst (λ (x : Option QueueState). is_some x ≡ true) (sym both.0) e)) in
    same_ahead q hd some ∙ ap (λ (x : Option QueueState). weights (ahead x hd)) (sym both.0) ∙ ap (λ (x : Option Pos). weights (ahead (queue_of k r.queues) x)) (sym both.1)

pub kinds_ahead : (set : Choice) (heads : Heads) (r : RangeState) → IsRange r → r.set ≡ set → HaveHeads set heads r
    → weight_from heads r.queues ≡ total_of set (λ k. weights (ahead (queue_of k r.queues) (head_of set heads k)))
kinds_ahead set heads r i e have =
    let d : is_distinct set ≡ true = subst (λ (s : Choice). is_distinct s ≡ true) e i.distinct in
    let held : QueuesIn set r.mark r.queues = subst (λ (s : Choice). QueuesIn s r.mark r.queues) e i.held in
    let kinds = kinds_are set heads r.mark r.queues d held in
    let v = one_ahead set heads r.mark r set.video r.queues.video heads.video held.video kinds.video have in
    let a = one_ahead set heads r.mark r set.audio r.queues.audio heads.audio held.audio kinds.audio have in
    let b = one_ahead set heads r.mark r set.sub r.queues.sub heads.sub held.sub kinds.sub have in
    ap (λ n. n + (weight_ahead heads.audio r.queues.audio + weight_ahead heads.sub r.queues.sub)) v
    ∙ ap (λ n. of_track set.video (λ k. weights (ahead (queue_of k r.queues) (head_of set heads k))) + (n + weight_ahead heads.sub r.queues.sub)) a
    ∙ ap (λ n. of_track set.video (λ k. weights (ahead (queue_of k r.queues) (head_of set heads k))) + (of_track set.audio (λ k. weights (ahead (queue_of k r.queues) (head_of set heads k))) + n)) b
