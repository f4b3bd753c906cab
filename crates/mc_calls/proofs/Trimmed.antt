-- What stays so while packets are dropped as the limit asks.
use Rattle.std.proofs.Common.{◌≡◌, ℕ, ◌≤◌, ◌<◌, true, false, Option, Some, None, List, [], ◌∷◌, ◌++◌, refl, ap, sym, subst, ◌∙◌, inl, inr, arith, ◌==◌, append_assoc}
use Rattle.std.specs.Prelude.{is_some}
use Rattle.std.specs.List.{AllByRecursion}
use Rattle.std.proofs.lemmas.Bool.{cases_Bool}
use Rattle.mc_packet.specs.declared.packet.Pos.{Pos}
use Rattle.mc_packet.specs.declared.choice.Kind.TheVariants.{Video, Audio, Sub}
use Rattle.mc_packet.specs.declared.choice.Choice.{Choice}
use Rattle.mc_packet.specs.declared.cache.Heads.{Heads}
use Rattle.mc_packet.specs.declared.walk.Mark.{Mark}
use Rattle.mc_packet.specs.Choices.{or_else, nothing}
use Rattle.mc_journal.specs.declared.record.DemuxRecord.{DemuxRecord}
use Rattle.mc_journal.specs.declared.record.DemuxRecord.TheVariants.{Dropped}
use Rattle.mc_journal.specs.declared.record.Removal.{Removal}
use Rattle.mc_queue.specs.Places.{weights}
use Rattle.mc_queue.specs.Queue.{QueueState}
use Rattle.mc_range.specs.declared.queues.Queues.{Queues}
use Rattle.mc_range.specs.Range.{RangeState, own, queue_of}
use Rattle.mc_range.specs.Cutting.{bound_under, weight_ahead, weight_from}
use Rattle.mc_cache.specs.Cache.{CacheState, IsCache, count_of, ending_in, mark_in, ranges_of, weight_of}
use Rattle.mc_range.specs.declared.cutting.Cut.{Cut}
use Rattle.mc_cache.specs.Pruning.{CutsRange, Drops, Prunes, ahead_in}
use Rattle.mc_calls.specs.declared.waiting.Target.{Target}
use Rattle.mc_calls.specs.Demuxers.{IsPlaced}
use Rattle.mc_calls.specs.Records.{IsLimitDrop, IsLimit}
use Rattle.mc_calls.specs.Trimming.{Trims, none, more}
use Rattle.mc_calls.proofs.Pruned.{LessIn, LessAll, LessCurrent, drop_less}

-- ---- the queues that there are

own_some : (hd : Option Pos) (k : ℕ) (o n : Option QueueState) → LessIn hd o n → is_some (own k n) ≡ is_some (own k o)
own_some hd k None n h = rw h refl
own_some hd k (Some q) None h = absurd h
own_some hd k (Some q) (Some m) h =
    let e : (m.track == k) ≡ (q.track == k) = ap (λ x. x == k) h.track_is in
    elim (cases_Bool (q.track == k)) [ inl y ↦ let z : (m.track == k) ≡ true = e ∙ y in rw (y, z) refl | inr o ↦ let z : (m.track == k) ≡ false = e ∙ o in rw (o, z) refl ]

or_some : (a b c d : Option QueueState) → is_some a ≡ is_some c → is_some b ≡ is_some d → is_some (or_else a b) ≡ is_some (or_else c d)
or_some None b None d e f = f
or_some None b (Some c) d e f = absurd (cc)
or_some (Some a) b None d e f = absurd (cc)
or_some (Some a) b (Some c) d e f = refl

pub queue_some : (heads : Heads) (k : ℕ) (old new : Queues) → LessAll (Some heads) old new → is_some (queue_of k new) ≡ is_some (queue_of k old)
queue_some heads k old new l =
    or_some (own k new.video) (or_else (own k new.audio) (own k new.sub)) (own k old.video) (or_else (own k old.audio) (own k old.sub))
    (own_some (bound_under Video (Some heads)) k old.video new.video l.video)
    (or_some (own k new.audio) (own k new.sub) (own k old.audio) (own k old.sub)
    (own_some (bound_under Audio (Some heads)) k old.audio new.audio l.audio)
    (own_some (bound_under Sub (Some heads)) k old.sub new.sub l.sub))

pub placed_less : (set : Choice) (heads : Heads) (waiting : Choice) (seeking : Option Target) (o n : Option RangeState) → LessCurrent heads o n
    → IsPlaced set heads waiting seeking o → IsPlaced set heads waiting seeking n
placed_less set heads waiting (Some s) None n l p = (l, p.1)
placed_less set heads waiting (Some s) (Some r) n l p = absurd (let e = p.0 in cc)
placed_less set heads waiting None None n l p = subst (λ (x : Option RangeState). IsPlaced set heads waiting None x) (sym l) p
placed_less set heads waiting None (Some r) None l p = absurd l
placed_less set heads waiting None (Some r) (Some q) l p = (
  record {
    blank = λ k w. queue_some heads k r.queues q.queues l.3 ∙ p.0.blank k w;
    queued = λ k s w. queue_some heads k r.queues q.queues l.3 ∙ p.0.queued k s w;
  },
  λ k e. p.1 k (sym (queue_some heads k r.queues q.queues l.3) ∙ e),
)

-- ---- what stands ahead

one_ahead : (hd : Option Pos) (o n : Option QueueState) → LessIn hd o n → weight_ahead hd n ≡ weight_ahead hd o
one_ahead None o n h = refl
one_ahead (Some p) None n h = rw h refl
one_ahead (Some p) (Some q) None h = absurd h
one_ahead (Some p) (Some q) (Some m) h = ap weights h.ahead

all_ahead : (heads : Heads) (old new : Queues) → LessAll (Some heads) old new → weight_from heads new ≡ weight_from heads old
all_ahead heads old new l =
    let v = one_ahead heads.video old.video new.video l.video in
    let a = one_ahead heads.audio old.audio new.audio l.audio in
    let s = one_ahead heads.sub old.sub new.sub l.sub in
    rw (v, a, s) refl

ahead_less : (heads : Heads) (o n : Option RangeState) → LessCurrent heads o n → ahead_in heads n ≡ ahead_in heads o
ahead_less heads None n l = rw l refl
ahead_less heads (Some r) None l = absurd l
ahead_less heads (Some r) (Some q) l = all_ahead heads r.queues q.queues l.3

mark_less : (heads : Heads) (o n : Option RangeState) → LessCurrent heads o n → mark_in n ≡ mark_in o
mark_less heads None n l = rw l refl
mark_less heads (Some r) None l = absurd l
mark_less heads (Some r) (Some q) l = ap (λ (m : Mark). Some m) l.2

ending_less : (heads : Heads) (o n : Option RangeState) → LessCurrent heads o n → ending_in n ≡ ending_in o
ending_less heads None n l = rw l refl
ending_less heads (Some r) None l = absurd l
ending_less heads (Some r) (Some q) l = l.1

-- ---- all drops

pub record IsTrimmed (by : ℕ) (set : Choice) (heads : Heads) (waiting : Choice) (seeking : Option Target) (old : CacheState) (j : List DemuxRecord) (new : CacheState)
    (j' : List DemuxRecord) : Type 0 where
  pub placed : IsPlaced set heads waiting seeking old.current → IsPlaced set heads waiting seeking new.current
  pub sets : AllByRecursion (λ r. r.set ≡ set) (ranges_of old) → AllByRecursion (λ r. r.set ≡ set) (ranges_of new)
  pub alone : old.others ≡ [] → new.others ≡ []
  pub lighter : weight_of (ranges_of new) ≤ weight_of (ranges_of old)
  pub ahead : ahead_in heads new.current ≡ ahead_in heads old.current
  pub mark_is : mark_in new.current ≡ mark_in old.current
  pub ending_is : ending_in new.current ≡ ending_in old.current
  pub limits_are : new.limits ≡ old.limits
  pub drops : List DemuxRecord
  pub grows : j' ≡ j ++ drops
  pub are : AllByRecursion (IsLimitDrop by) drops

all_more : (P : DemuxRecord → Type 0) (xs : List DemuxRecord) (x : DemuxRecord) → AllByRecursion P xs → P x → AllByRecursion P (xs ++ x ∷ [])
all_more P [] x h p = (p, tt)
all_more P (y ∷ xs) x h p = (h.0, all_more P xs x h.1 p)

append_none : (xs : List DemuxRecord) → xs ≡ xs ++ []
append_none [] = refl
append_none (x ∷ xs) = ap (λ ys. x ∷ ys) (append_none xs)

limit_told : (by : ℕ) (heads : Heads) (m : Removal) (old new : CacheState) → Drops heads m old new → IsLimitDrop by (Dropped by m)
limit_told by heads m old new d = (refl, subst (λ (x : Removal). IsLimit x.cause) (sym d.told) tt)

-- without others none comes
cut_alone : (heads : Heads) (o : Option RangeState) (rs : List RangeState) (n : Option RangeState) (ns : List RangeState) (c : Cut) → rs ≡ [] → CutsRange heads o rs n ns c → ns ≡ []
cut_alone heads o [] n ns c e x = x.1
cut_alone heads o (r ∷ rs) n ns c e x = absurd (cc)

pub trimmed : (by : ℕ) (set : Choice) (heads : Heads) (waiting : Choice) (seeking : Option Target) (c₀ : CacheState) (j₀ : List DemuxRecord) (c : CacheState) (j : List DemuxRecord)
    → Trims by heads c₀ j₀ c j → IsTrimmed by set heads waiting seeking c₀ j₀ c j
trimmed by set heads waiting seeking c₀ j₀ _ _ none = record {
  placed = λ p. p;
  sets = λ p. p;
  alone = λ p. p;
  lighter = omega arith;
  ahead = refl;
  mark_is = refl;
  ending_is = refl;
  limits_are = refl;
  drops = [];
  grows = append_none j₀;
  are = tt;
}
trimmed by set heads waiting seeking c₀ j₀ _ _ (more c j m c' t i d) =
    let before = trimmed by set heads waiting seeking c₀ j₀ c j t in
    let less = drop_less set heads m c c' i d in
    let l = before.lighter in
    let n = less.ranges.lighter in
    record {
      placed = λ p. placed_less set heads waiting seeking c.current c'.current less.current (before.placed p);
      sets = λ p. less.ranges.sets (before.sets p);
      alone = λ p. cut_alone heads c.current c.others c'.current c'.others d.cut (before.alone p) d.ranges;
      lighter = omega arith;
      ahead = ahead_less heads c.current c'.current less.current ∙ before.ahead;
      mark_is = mark_less heads c.current c'.current less.current ∙ before.mark_is;
      ending_is = ending_less heads c.current c'.current less.current ∙ before.ending_is;
      limits_are = d.rest.limits_is ∙ before.limits_are;
      drops = before.drops ++ Dropped by m ∷ [];
      grows = ap (λ (xs : List DemuxRecord). xs ++ Dropped by m ∷ []) before.grows ∙ append_assoc j₀ before.drops (Dropped by m ∷ []);
      are = all_more (IsLimitDrop by) before.drops (Dropped by m) before.are (limit_told by heads m c c' d);
    }

-- ---- one drop more

pub trim_more : (by : ℕ) (heads : Heads) (c₀ : CacheState) (j₀ : List DemuxRecord) (c : CacheState) (j : List DemuxRecord) (m : Removal) (c' : CacheState) (j' : List DemuxRecord)
    → Trims by heads c₀ j₀ c j → IsCache c → Prunes heads (Some m) c c' → j' ≡ j ++ Dropped by m ∷ [] → Trims by heads c₀ j₀ c' j'
trim_more by heads c₀ j₀ c j m c' j' t i d e = subst (λ (x : List DemuxRecord). Trims by heads c₀ j₀ c' x) (sym e) (more c j m c' t i d)

pub trim_fewer : (heads : Heads) (c : CacheState) (m : Removal) (c' : CacheState) → IsCache c → Prunes heads (Some m) c c' → count_of (ranges_of c') < count_of (ranges_of c)
trim_fewer heads c m c' i d = (drop_less nothing heads m c c' i d).ranges.fewer

pub trim_none : (by : ℕ) (heads : Heads) (c₀ : CacheState) (j₀ : List DemuxRecord) (c : CacheState) → c ≡ c₀ → Trims by heads c₀ j₀ c j₀
trim_none by heads c₀ j₀ c e = subst (λ (x : CacheState). Trims by heads c₀ j₀ x j₀) (sym e) none
