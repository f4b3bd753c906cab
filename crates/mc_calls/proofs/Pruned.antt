-- A drop that the limit asks for takes packets, of the current range none at a head or behind it, and leaves each queue there.
use Rattle.std.proofs.Common.{◌≡◌, ℕ, ◌≤◌, ◌<◌, false, Option, Some, None, List, [], ◌∷◌, refl, ap, sym, subst, ◌∙◌, inl, inr, arith, length}
use Rattle.std.specs.Prelude.{if◌then◌else◌, IfSome, IsSomeAnd, nat_le, nat_lt}
use Rattle.std.specs.List.{AllByRecursion}
use Rattle.std.proofs.lemmas.Bool.{cases_Bool}
use Rattle.std.proofs.lemmas.Bool.Decides.{nat_tests}
use Rattle.std.proofs.lemmas.List.Sums.{sum_by-cons}
use Rattle.mc_packet.specs.declared.packet.Packet.{Packet}
use Rattle.mc_packet.specs.declared.packet.Pos.{Pos}
use Rattle.mc_packet.specs.declared.choice.Kind.{Kind}
use Rattle.mc_packet.specs.declared.choice.Kind.TheVariants.{Video, Audio, Sub}
use Rattle.mc_packet.specs.declared.choice.Choice.{Choice}
use Rattle.mc_packet.specs.declared.cache.Heads.{Heads}
use Rattle.mc_journal.specs.Films.{rank}
use Rattle.mc_journal.specs.declared.record.Removal.{Removal}
use Rattle.mc_queue.specs.Places.{place, weight_of as packet_weight, weights}
use Rattle.mc_journal.specs.Views.{from_place}
use Rattle.mc_queue.specs.Queue.{QueueState, IsQueue, first_of, next_cut}
use Rattle.mc_queue.specs.Union.{earlier}
use Rattle.mc_queue.proofs.Rests.{from_again}
use Rattle.mc_queue.proofs.Cutting.{cut_behind}
use Rattle.mc_range.specs.declared.queues.Queues.{Queues}
use Rattle.mc_range.specs.declared.cutting.Cut.{Cut}
use Rattle.mc_range.specs.Range.{RangeState, IsRange, count, weight_in, weight_of_all}
use Rattle.mc_range.specs.Tracks.{count_of_all, queue_under, with_queue}
use Rattle.mc_range.specs.Growing.{IsSound, AllSound}
use Rattle.mc_range.specs.Cutting.{Cuts, CutsOne, IsCut, bound_under, cut_at, cuttable, first_cuttable, victim}
use Rattle.mc_range.proofs.Dropping.{is_victim, all_sound}
use Rattle.mc_cache.specs.Cache.{CacheState, IsCache, IsOther, count_in, count_of, holds, in_front, ranges_of, weight_of, weight_in as weight_in_range}
use Rattle.mc_cache.specs.Pruning.{CutsFront, CutsLast, CutsRange, Drops}

-- ---- packets behind a place

fewer_behind : (n : ℕ) (ps : List Packet) → length (from_place n ps) ≤ length ps
fewer_behind n [] = omega arith
fewer_behind n (p ∷ ps) =
    let more = fewer_behind n ps in
    elim (cases_Bool (nat_le n (place p))) [ inl y ↦ rw y (omega arith) | inr o ↦ rw o (omega arith) ]

lighter_behind : (n : ℕ) (ps : List Packet) → weights (from_place n ps) ≤ weights ps
lighter_behind n [] = omega arith
lighter_behind n (p ∷ ps) =
    let more = lighter_behind n ps in
    let all = sum_by-cons packet_weight p ps in
    let kept = sum_by-cons packet_weight p (from_place n ps) in
    elim (cases_Bool (nat_le n (place p))) [ inl y ↦ rw y (omega arith) | inr o ↦ rw o (omega arith) ]

first_goes : (n : ℕ) (p : Packet) (ps : List Packet) → place p < n → length (from_place n (p ∷ ps)) < length (p ∷ ps)
first_goes n p ps l =
    let more = fewer_behind n ps in
    let off : nat_le n (place p) ≡ false = grind (arith, nat_tests) in
    rw off (omega arith)

earlier_first : (a b : Pos) → rank (earlier a b) ≤ rank a
earlier_first a b = elim (cases_Bool (nat_le (rank a) (rank b))) [ inl y ↦ rw y (omega arith) | inr n ↦ let l : rank b < rank a = grind (arith, nat_tests) in rw n (omega arith) ]

above_both : (a b : Pos) (n : ℕ) → n < rank a → n < rank b → n < rank (earlier a b)
above_both a b n x y = elim (cases_Bool (nat_le (rank a) (rank b))) [ inl z ↦ rw z x | inr o ↦ rw o y ]

-- ---- one queue

-- at a head and behind it nothing changes
abbrev pub SameAhead : Option Pos → QueueState → QueueState → Type 0
SameAhead None q m = Unit {0}
SameAhead (Some h) q m = from_place (rank h) m.packets ≡ from_place (rank h) q.packets

pub record IsLess (hd : Option Pos) (q m : QueueState) : Type 0 where
  pub track_is : m.track ≡ q.track
  pub fewer : length m.packets ≤ length q.packets
  pub lighter : weights m.packets ≤ weights q.packets
  pub ahead : SameAhead hd q m

abbrev pub LessIn : Option Pos → Option QueueState → Option QueueState → Type 0
LessIn hd None n = n ≡ None
LessIn hd (Some q) n = IsSomeAnd n (λ m. IsLess hd q m)

same_self : (hd : Option Pos) (q : QueueState) → SameAhead hd q q
same_self None q = tt
same_self (Some h) q = refl

less_self : (hd : Option Pos) (o : Option QueueState) → LessIn hd o o
less_self hd None = refl
less_self hd (Some q) = record { track_is = refl; fewer = omega arith; lighter = omega arith; ahead = same_self hd q }

cut_ahead : (hd : Option Pos) (q m : QueueState) → m.packets ≡ from_place (rank (cut_at hd q)) q.packets → SameAhead hd q m
cut_ahead None q m e = tt
cut_ahead (Some h) q m e =
    ap (λ (ps : List Packet). from_place (rank h) ps) e ∙ from_again (rank (earlier h (next_cut q))) (rank h) q.packets (earlier_first h (next_cut q))

cut_less : (hd : Option Pos) (o n : Option QueueState) (c : Option Cut) → CutsOne hd o n c → LessIn hd o n
cut_less hd None n c x = absurd x
cut_less hd (Some q) None c x = absurd x.1
cut_less hd (Some q) (Some m) c x =
    let packets : m.packets ≡ from_place (rank (cut_at hd q)) q.packets = ap (λ (z : QueueState). z.packets) x.1.packets_left in
    let f = fewer_behind (rank (cut_at hd q)) q.packets in
    let w = lighter_behind (rank (cut_at hd q)) q.packets in
    record {
      track_is = ap (λ (z : QueueState). z.track) x.1.packets_left;
      fewer = rw packets f;
      lighter = rw packets w;
      ahead = cut_ahead hd q m packets;
    }

-- the first packet goes
first_cut : (hd : Option Pos) (q : QueueState) (p : Packet) → IsQueue q → cuttable hd (first_of q.packets) ≡ Some p
    → length (from_place (rank (cut_at hd q)) q.packets) < length q.packets
first_cut hd q p i e = by hd q.packets refl e
  where
    goes : (n : ℕ) (x : Packet) (ps : List Packet) → q.packets ≡ x ∷ ps → place x < n → length (from_place n q.packets) < length q.packets
    goes n x ps r l = subst (λ (ys : List Packet). length (from_place n ys) < length ys) (sym r) (first_goes n x ps l)

    by : (h : Option Pos) (ps : List Packet) → q.packets ≡ ps → cuttable h (first_of ps) ≡ Some p → length (from_place (rank (cut_at h q)) q.packets) < length q.packets
    by None [] r e = absurd (cc)
    by (Some h) [] r e = absurd (cc)
    by None (x ∷ ps) r e = let b = cut_behind q x ps i r in goes (rank (next_cut q)) x ps r b
    by (Some h) (x ∷ ps) r e = elim (cases_Bool (nat_lt (place x) (rank h))) [
      | inl y ↦
          let b = cut_behind q x ps i r in
          let l : place x < rank h = grind (arith, nat_tests) in
          goes (rank (earlier h (next_cut q))) x ps r (above_both h (next_cut q) (place x) l b)
      | inr n ↦ absurd (let f : None ≡ Some p = rw n at e in cc)
    ]

-- ---- the queues of a range

pub record LessAll (heads : Option Heads) (old new : Queues) : Type 0 where
  pub video : LessIn (bound_under Video heads) old.video new.video
  pub audio : LessIn (bound_under Audio heads) old.audio new.audio
  pub sub : LessIn (bound_under Sub heads) old.sub new.sub

pub all_self : (heads : Option Heads) (qs : Queues) → LessAll heads qs qs
all_self heads qs = record {
  video = less_self (bound_under Video heads) qs.video;
  audio = less_self (bound_under Audio heads) qs.audio;
  sub = less_self (bound_under Sub heads) qs.sub;
}

less_is : (hd : Option Pos) (o n : Option QueueState) → n ≡ o → LessIn hd o n
less_is hd o n e = subst (λ (x : Option QueueState). LessIn hd o x) (sym e) (less_self hd o)

cut_under : (heads : Option Heads) (old new : Queues) (c : Option Cut) (k : Kind) → CutsOne (bound_under k heads) (queue_under k old) (queue_under k new) c
    → new ≡ with_queue k (queue_under k new) old → LessAll heads old new
cut_under heads old new c Video x e = record {
  video = cut_less (bound_under Video heads) old.video new.video c x;
  audio = less_is (bound_under Audio heads) old.audio new.audio (ap (λ (q : Queues). q.audio) e);
  sub = less_is (bound_under Sub heads) old.sub new.sub (ap (λ (q : Queues). q.sub) e);
}
cut_under heads old new c Audio x e = record {
  video = less_is (bound_under Video heads) old.video new.video (ap (λ (q : Queues). q.video) e);
  audio = cut_less (bound_under Audio heads) old.audio new.audio c x;
  sub = less_is (bound_under Sub heads) old.sub new.sub (ap (λ (q : Queues). q.sub) e);
}
cut_under heads old new c Sub x e = record {
  video = less_is (bound_under Video heads) old.video new.video (ap (λ (q : Queues). q.video) e);
  audio = less_is (bound_under Audio heads) old.audio new.audio (ap (λ (q : Queues). q.audio) e);
  sub = cut_less (bound_under Sub heads) old.sub new.sub c x;
}

pub cut_all : (heads : Option Heads) (old new : Queues) (c : Option Cut) → Cuts heads old new (victim heads old) c → LessAll heads old new
cut_all heads old new c x = elim (victim heads old) as (λ v. Cuts heads old new v c → LessAll heads old new) [
  | None ↦ λ y. subst (λ (n : Queues). LessAll heads old n) (sym y.1) (all_self heads old)
  | Some v ↦ λ y. cut_under heads old new c v.kind y.0 y.1
] x

less_count : (hd : Option Pos) (o n : Option QueueState) → LessIn hd o n → count n ≤ count o
less_count hd None n h = rw h (omega arith)
less_count hd (Some q) None h = absurd h
less_count hd (Some q) (Some m) h = h.fewer

less_weight : (hd : Option Pos) (o n : Option QueueState) → LessIn hd o n → weight_in n ≤ weight_in o
less_weight hd None n h = rw h (omega arith)
less_weight hd (Some q) None h = absurd h
less_weight hd (Some q) (Some m) h = h.lighter

pub all_lighter : (heads : Option Heads) (old new : Queues) → LessAll heads old new → weight_of_all new ≤ weight_of_all old
all_lighter heads old new h =
    let v = less_weight (bound_under Video heads) old.video new.video h.video in
    let a = less_weight (bound_under Audio heads) old.audio new.audio h.audio in
    let s = less_weight (bound_under Sub heads) old.sub new.sub h.sub in
    omega arith

-- ---- one packet goes at least

one_fewer : (hd : Option Pos) (o n : Option QueueState) (c : Option Cut) (p : Packet) → IsSound o → CutsOne hd o n c → first_cuttable hd o ≡ Some p → count n < count o
one_fewer hd None n c p s x e = absurd x
one_fewer hd (Some q) None c p s x e = absurd x.1
one_fewer hd (Some q) (Some m) c p s x e =
    let packets : m.packets ≡ from_place (rank (cut_at hd q)) q.packets = ap (λ (z : QueueState). z.packets) x.1.packets_left in
    subst (λ (ys : List Packet). length ys < length q.packets) (sym packets) (first_cut hd q p s e)

fewer_under : (heads : Option Heads) (old new : Queues) (k : Kind) → LessAll heads old new → count (queue_under k new) < count (queue_under k old)
    → count_of_all new < count_of_all old
fewer_under heads old new Video h l =
    let a = less_count (bound_under Audio heads) old.audio new.audio h.audio in
    let s = less_count (bound_under Sub heads) old.sub new.sub h.sub in
    omega arith
fewer_under heads old new Audio h l =
    let v = less_count (bound_under Video heads) old.video new.video h.video in
    let s = less_count (bound_under Sub heads) old.sub new.sub h.sub in
    omega arith
fewer_under heads old new Sub h l =
    let v = less_count (bound_under Video heads) old.video new.video h.video in
    let a = less_count (bound_under Audio heads) old.audio new.audio h.audio in
    omega arith

sound_in : (k : Kind) (qs : Queues) → AllSound qs → IsSound (queue_under k qs)
sound_in Video qs s = s.video
sound_in Audio qs s = s.audio
sound_in Sub qs s = s.sub

is_there : (o : Option Packet) (v : Pos) → IsSomeAnd o (λ p. p.pos ≡ v) → (p : Packet) × (o ≡ Some p)
is_there None v h = absurd h
is_there (Some p) v h = (p, refl)

fewer_by : (heads : Option Heads) (old new : Queues) (c : Cut) → AllSound old → LessAll heads old new → Cuts heads old new (victim heads old) (Some c)
    → count_of_all new < count_of_all old
fewer_by heads old new c s less x = elim (victim heads old) as (λ v. victim heads old ≡ v → Cuts heads old new v (Some c) → count_of_all new < count_of_all old) [
  | None ↦ λ e y. absurd (let f = y.0 in cc)
  | Some v ↦ λ e y.
      let p = is_there (first_cuttable (bound_under v.kind heads) (queue_under v.kind old)) v.place (is_victim heads old v e) in
      fewer_under heads old new v.kind less
      (one_fewer (bound_under v.kind heads) (queue_under v.kind old) (queue_under v.kind new) (Some c) p.0 (sound_in v.kind old s) y.0 p.1)
] refl x

-- a range of which packets went
pub record IsLessRange (heads : Option Heads) (old new : RangeState) : Type 0 where
  pub set_is : new.set ≡ old.set
  pub queues : LessAll heads old.queues new.queues
  pub fewer : count_of_all new.queues < count_of_all old.queues
  pub lighter : weight_of_all new.queues ≤ weight_of_all old.queues

pub range_less : (heads : Option Heads) (old new : RangeState) (c : Cut) → IsRange old → IsCut heads old new (Some c) → IsLessRange heads old new
range_less heads old new c i x =
    let less = cut_all heads old.queues new.queues (Some c) x.queues in
    record {
      set_is = x.set_is;
      queues = less;
      fewer = fewer_by heads old.queues new.queues c (all_sound old i) less x.queues;
      lighter = all_lighter heads old.queues new.queues less;
    }

-- ---- the ranges of a cache

-- the current range has the same queues at their heads and behind them
abbrev pub LessCurrent : Heads → Option RangeState → Option RangeState → Type 0
LessCurrent heads None n = n ≡ None
LessCurrent heads (Some r) n = IsSomeAnd n (λ q. (q.set ≡ r.set) × (q.ending ≡ r.ending) × (q.mark ≡ r.mark) × LessAll (Some heads) r.queues q.queues)

current_same : (heads : Heads) (o n : Option RangeState) → n ≡ o → LessCurrent heads o n
current_same heads None n e = e
current_same heads (Some r) n e =
    subst (λ (x : Option RangeState). LessCurrent heads (Some r) x) (sym e) (refl, refl, refl, all_self (Some heads) r.queues)

-- of the ranges as a whole there is less, of the same sets
pub record AreLess (set : Choice) (old new : List RangeState) : Type 0 where
  pub fewer : count_of new < count_of old
  pub lighter : weight_of new ≤ weight_of old
  pub sets : AllByRecursion (λ r. r.set ≡ set) old → AllByRecursion (λ r. r.set ≡ set) new

last_one : (set : Choice) (r q : RangeState) (new : List RangeState) → IsLessRange None r q → new ≡ (if holds q then q ∷ [] else []) → AreLess set (r ∷ []) new
last_one set r q new l e =
    let less = l.fewer in
    let light = l.lighter in
    let one = sum_by-cons count_in r [] in
    let two = sum_by-cons count_in q [] in
    let three = sum_by-cons weight_in_range r [] in
    let four = sum_by-cons weight_in_range q [] in
    elim (cases_Bool (holds q)) [
      | inl y ↦
          let f : new ≡ q ∷ [] = rw y at e in
          subst (λ (n : List RangeState). AreLess set (r ∷ []) n) (sym f) (record { fewer = omega arith; lighter = omega arith; sets = λ a. (l.set_is ∙ a.0, tt) })
      | inr n ↦
          let f : new ≡ [] = rw n at e in
          subst (λ (n : List RangeState). AreLess set (r ∷ []) n) (sym f) (record { fewer = omega arith; lighter = omega arith; sets = λ a. tt })
    ]

last_less : (set : Choice) (rs new : List RangeState) (c : Cut) → AllByRecursion IsOther rs → CutsLast rs new c → AreLess set rs new
last_less set [] new c i x = absurd x
last_less set (r ∷ []) new c i x = last_one set r x.0 new (range_less None r x.0 c i.0.range x.1) x.2
last_less set (r ∷ o ∷ rs) new c i x =
    let more = last_less set (o ∷ rs) x.0 c i.1 x.1 in
    let f = more.fewer in
    let l = more.lighter in
    let one = sum_by-cons count_in r (o ∷ rs) in
    let two = sum_by-cons count_in r x.0 in
    let three = sum_by-cons weight_in_range r (o ∷ rs) in
    let four = sum_by-cons weight_in_range r x.0 in
    subst (λ (n : List RangeState). AreLess set (r ∷ o ∷ rs) n) (sym x.2) (record { fewer = omega arith; lighter = omega arith; sets = λ a. (a.0, more.sets a.1) })

front_less : (set : Choice) (o : Option RangeState) (old new : List RangeState) → AreLess set old new → AreLess set (in_front o old) (in_front o new)
front_less set None old new l = l
front_less set (Some r) old new l =
    let f = l.fewer in
    let w = l.lighter in
    let one = sum_by-cons count_in r old in
    let two = sum_by-cons count_in r new in
    let three = sum_by-cons weight_in_range r old in
    let four = sum_by-cons weight_in_range r new in
    record { fewer = omega arith; lighter = omega arith; sets = λ a. (a.0, l.sets a.1) }

pub record IsLessCache (set : Choice) (heads : Heads) (old new : CacheState) : Type 0 where
  pub ranges : AreLess set (ranges_of old) (ranges_of new)
  pub current : LessCurrent heads old.current new.current

cut_current : (set : Choice) (heads : Heads) (o n : Option RangeState) (c : Cut) → IfSome o IsRange
    → CutsFront heads o n c → AreLess set (in_front o []) (in_front n []) × LessCurrent heads o n
cut_current set heads None n c i x = absurd x
cut_current set heads (Some r) None c i x = absurd x
cut_current set heads (Some r) (Some q) c i x =
    let l = range_less (Some heads) r q c i x in
    let f = l.fewer in
    let w = l.lighter in
    let one = sum_by-cons count_in r [] in
    let two = sum_by-cons count_in q [] in
    let three = sum_by-cons weight_in_range r [] in
    let four = sum_by-cons weight_in_range q [] in
    (record { fewer = omega arith; lighter = omega arith; sets = λ a. (l.set_is ∙ a.0, tt) }, (l.set_is, x.ending_is, x.mark_is, l.queues))

cut_ranges : (set : Choice) (heads : Heads) (current current' : Option RangeState) (others others' : List RangeState) (c : Cut) → IfSome current IsRange
    → AllByRecursion IsOther others → CutsRange heads current others current' others' c
    → AreLess set (in_front current others) (in_front current' others') × LessCurrent heads current current'
cut_ranges set heads current current' [] others' c i j x =
    let both = cut_current set heads current current' c i x.0 in
    (subst (λ (rs : List RangeState). AreLess set (in_front current []) (in_front current' rs)) (sym x.1) both.0, both.1)
cut_ranges set heads current current' (r ∷ rs) others' c i j x =
    let less = front_less set current (r ∷ rs) others' (last_less set (r ∷ rs) others' c j x.0) in
    (subst (λ (o : Option RangeState). AreLess set (in_front current (r ∷ rs)) (in_front o others')) (sym x.1) less, current_same heads current current' x.1)

pub drop_less : (set : Choice) (heads : Heads) (m : Removal) (old new : CacheState) → IsCache old → Drops heads m old new → IsLessCache set heads old new
drop_less set heads m old new i d =
    let both = cut_ranges set heads old.current new.current old.others new.others d.cut i.current i.others d.ranges in
    record { ranges = both.0; current = both.1 }
