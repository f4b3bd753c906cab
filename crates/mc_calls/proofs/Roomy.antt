-- A cache with more room holds the same, and so a demuxer with it is one, of the same film.
use Rattle.std.proofs.Common.{◌≡◌, ℕ, ◌+◌, ◌*◌, ◌≤◌, ◌<◌, ◌-◌, Option, Some, None, List, refl, ap, sym, subst, ◌∙◌, arith, length}
use Rattle.std.specs.Prelude.{IfSome, IsSomeAnd}
use Rattle.std.specs.List.{AllByRecursion}
use Rattle.mc_packet.specs.declared.choice.Choice.{Choice}
use Rattle.mc_packet.specs.declared.cache.Heads.{Heads}
use Rattle.mc_packet.specs.declared.cache.Limits.{Limits}
use Rattle.mc_packet.specs.declared.packet.Pos.{Pos}
use Rattle.mc_packet.specs.declared.walk.Ending.{Ending}
use Rattle.mc_packet.specs.declared.walk.Mark.{Mark}
use Rattle.mc_journal.specs.declared.record.Removal.{Removal}
use Rattle.mc_journal.specs.Films.{rank}
use Rattle.mc_journal.specs.Views.{from_place}
use Rattle.mc_queue.specs.Places.{weights}
use Rattle.mc_queue.specs.Queue.{QueueState}
use Rattle.mc_range.specs.Range.{RangeState, IsRange, Roomier}
use Rattle.mc_range.specs.Cutting.{weight_ahead}
use Rattle.mc_range.proofs.Unions.{roomier_range}
use Rattle.mc_cache.specs.Cache.{CacheState, IsCache, IsOther, count_of, in_front, mark_in, ranges_of, weight_of}
use Rattle.mc_cache.specs.Changing.{IsSameButRoom, RoomierIn}
use Rattle.mc_cache.specs.Joining.{IsJoinedUp, JoinsFrom}
use Rattle.mc_cache.specs.Pruning.{ahead_in, back_of}
use Rattle.mc_cache.proofs.United.{roomier_weighs}
use Rattle.mc_calls.specs.declared.job.Job.{Job}
use Rattle.mc_calls.specs.declared.job.Job.TheVariants.{SeekTo, Refresh, Resume, Read, Idle}
use Rattle.mc_calls.specs.State.{DemuxState}
use Rattle.mc_calls.specs.Demuxers.{AreAwaited, AreLimits, IsDemux, IsKept, KeepsJob, heaviest}
use Rattle.mc_calls.proofs.SameTracks.{SameTracks, placed_same, roomier_tracks, same_both}
use Rattle.mc_calls.proofs.Tied.{roomier_counts, tied}

-- ---- the current range

pub roomier_current : (o n : Option RangeState) → RoomierIn o n → SameTracks o n
roomier_current None n r = r
roomier_current (Some a) None r = absurd r
roomier_current (Some a) (Some b) r = roomier_tracks a b r

pub range_roomier : (o n : Option RangeState) → RoomierIn o n → IfSome o IsRange → IfSome n IsRange
range_roomier None n r i = subst (λ (x : Option RangeState). IfSome x IsRange) (sym r) tt
range_roomier (Some a) None r i = absurd r
range_roomier (Some a) (Some b) r i =
    let z = roomier_range a b.queues i r.queues in
    let s = r.set_is in
    let m = r.mark_is in
    let e = r.ending_is in
    let same : (let x : RangeState = record { set = a.set; queues = b.queues; mark = a.mark; ending = a.ending } in x) ≡ b =
    λ j. record { set = sym s j; queues = b.queues; mark = sym m j; ending = sym e j } in
    subst (λ (x : RangeState). IsRange x) same z

weight_roomier : (o n : Option RangeState) (rs : List RangeState) → RoomierIn o n → weight_of (in_front n rs) ≡ weight_of (in_front o rs)
weight_roomier None n rs r = rw r refl
weight_roomier (Some a) None rs r = absurd r
weight_roomier (Some a) (Some b) rs r = let w = roomier_weighs a b r in omega arith

count_roomier : (o n : Option RangeState) (rs : List RangeState) → RoomierIn o n → count_of (in_front n rs) ≡ count_of (in_front o rs)
count_roomier None n rs r = rw r refl
count_roomier (Some a) None rs r = absurd r
count_roomier (Some a) (Some b) rs r = let w = roomier_counts a b r in omega arith

one_ahead : (hd : Option Pos) (o n : Option QueueState) → Roomier o n → weight_ahead hd n ≡ weight_ahead hd o
one_ahead None o n h = refl
one_ahead (Some p) None n h = rw h refl
one_ahead (Some p) (Some q) None h = absurd h
one_ahead (Some p) (Some q) (Some m) h = ap (λ (x : QueueState). weights (from_place (rank p) x.packets)) h.0

ahead_roomier : (heads : Heads) (o n : Option RangeState) → RoomierIn o n → ahead_in heads n ≡ ahead_in heads o
ahead_roomier heads None n r = rw r refl
ahead_roomier heads (Some a) None r = absurd r
ahead_roomier heads (Some a) (Some b) r =
    let v = one_ahead heads.video a.queues.video b.queues.video r.queues.video in
    let u = one_ahead heads.audio a.queues.audio b.queues.audio r.queues.audio in
    let s = one_ahead heads.sub a.queues.sub b.queues.sub r.queues.sub in
    rw (v, u, s) refl

sets_roomier : (set : Choice) (o n : Option RangeState) (rs : List RangeState) → RoomierIn o n → AllByRecursion (λ r. r.set ≡ set) (in_front o rs) → AllByRecursion (λ r. r.set ≡ set) (in_front n rs)
sets_roomier set None n rs r a = subst (λ (x : Option RangeState). AllByRecursion (λ r. r.set ≡ set) (in_front x rs)) (sym r) a
sets_roomier set (Some x) None rs r a = absurd r
sets_roomier set (Some x) (Some y) rs r a = (r.set_is ∙ a.0, a.1)

-- the mark and the ending are those
marked : (o n : Option RangeState) (P : Mark → Option Ending → Type 0) → RoomierIn o n → IsSomeAnd o (λ r. P r.mark r.ending) → IsSomeAnd n (λ r. P r.mark r.ending)
marked None n P r h = absurd h
marked (Some a) None P r h = absurd r
marked (Some a) (Some b) P r h = subst (λ (m : Mark). P m b.ending) (sym r.mark_is) (subst (λ (e : Option Ending). P a.mark e) (sym r.ending_is) h)

pub mark_roomier : (o n : Option RangeState) → RoomierIn o n → mark_in n ≡ mark_in o
mark_roomier None n r = rw r refl
mark_roomier (Some a) None r = absurd r
mark_roomier (Some a) (Some b) r = ap (λ (m : Mark). Some m) r.mark_is

-- ---- a cache

pub record HoldsSame (old new : CacheState) : Type 0 where
  pub weight_is : weight_of (ranges_of new) ≡ weight_of (ranges_of old)
  pub count_is : count_of (ranges_of new) ≡ count_of (ranges_of old)
  pub ahead_is : (heads : Heads) → ahead_in heads new.current ≡ ahead_in heads old.current
  pub back_is : (heads : Heads) → back_of heads new ≡ back_of heads old

beside : (o n : Option RangeState) (rs qs : List RangeState) → RoomierIn o n → qs ≡ rs → weight_of (in_front n qs) ≡ weight_of (in_front o rs)
beside o n rs qs r e = ap (λ (xs : List RangeState). weight_of (in_front n xs)) e ∙ weight_roomier o n rs r

pub holds_same : (old new : CacheState) → IsSameButRoom old new → HoldsSame old new
holds_same old new s =
    let w = beside old.current new.current old.others new.others s.current s.others_is in
    record {
      weight_is = w;
      count_is = ap (λ (xs : List RangeState). count_of (in_front new.current xs)) s.others_is ∙ count_roomier old.current new.current old.others s.current;
      ahead_is = λ heads. ahead_roomier heads old.current new.current s.current;
      back_is = λ heads.
          ap (λ n. n - ahead_in heads new.current) w ∙ ap (λ n. weight_of (ranges_of old) - n) (ahead_roomier heads old.current new.current s.current);
    }

pub sets_same : (set : Choice) (old new : CacheState) → IsSameButRoom old new → AllByRecursion (λ r. r.set ≡ set) (ranges_of old) → AllByRecursion (λ r. r.set ≡ set) (ranges_of new)
sets_same set old new s a =
    subst (λ (xs : List RangeState). AllByRecursion (λ r. r.set ≡ set) (in_front new.current xs)) (sym s.others_is) (sets_roomier set old.current new.current old.others s.current a)

-- ---- a demuxer

kept_one : (old : DemuxState) (c : CacheState) (n : ℕ) (job : Job) → IsSameButRoom old.cache c → IsKept old job → IsKept (record old { cache = c; spare = n }) job
kept_one old c n (SeekTo m set t dir) s k = k
kept_one old c n (Refresh m added lead at) s k = k
kept_one old c n (Resume m mark) s k =
    let a = (holds_same old.cache c s).ahead_is old.heads in
    let less = k.3 in
    let below : ahead_in old.heads c.current < old.cache.limits.forward = omega arith in
    (k.0, marked old.cache.current c.current (λ x y. (x ≡ mark) × (y ≡ None)) s.current k.1, k.2, subst (λ (l : Limits). ahead_in old.heads c.current < l.forward) (sym s.limits_is) below)
kept_one old c n (Read m) s k =
    let a = (holds_same old.cache c s).ahead_is old.heads in
    let less = k.3 in
    let below : ahead_in old.heads c.current < old.cache.limits.forward = omega arith in
    (k.0, marked old.cache.current c.current (λ x y. y ≡ None) s.current k.1, k.2, subst (λ (l : Limits). ahead_in old.heads c.current < l.forward) (sym s.limits_is) below)
kept_one old c n Idle s k = k

kept_all : (old : DemuxState) (c : CacheState) (n : ℕ) (o : Option Job) → IsSameButRoom old.cache c → 2 ≤ n → IfSome o (KeepsJob old) → IfSome o (KeepsJob (record old { cache = c; spare = n }))
kept_all old c n None s r k = tt
kept_all old c n (Some job) s r k = record { is = kept_one old c n job s k.is; some = k.some; sound = k.sound; room = r }

kept_roomy : (old : DemuxState) (c : CacheState) (n : ℕ) (o : Option Job) → IsSameButRoom old.cache c → old.spare ≤ n → IfSome o (KeepsJob old) → IfSome o (KeepsJob (record old { cache = c; spare = n }))
kept_roomy old c n None s r k = tt
kept_roomy old c n (Some job) s r k = let room = k.room in kept_all old c n (Some job) s (omega arith) k

pub roomy_is : (old : DemuxState) (c : CacheState) (n : ℕ) → IsSameButRoom old.cache c → IsCache c → old.spare ≤ n → IsDemux old → IsDemux (record old { cache = c; spare = n })
roomy_is old c n s ic more i =
    let h = holds_same old.cache c s in
    let w = h.weight_is in
    let b = h.back_is old.heads in
    let e = s.limits_is in
    let heavy = i.weight in
    let within = i.within in
    let light : weight_of (ranges_of c) ≤ old.cache.limits.forward + old.cache.limits.back + heaviest = rw w heavy in
    let behind : back_of old.heads c ≤ old.cache.limits.back = rw b within in
    record {
      cache = ic;
      limits = subst (λ (l : Limits). AreLimits l) (sym e) i.limits;
      distinct = i.distinct;
      known = i.known;
      sets = sets_same old.set old.cache c s i.sets;
      placed = placed_same old.set old.heads old.waiting old.seeking old.cache.current c.current (roomier_current old.cache.current c.current s.current) i.placed;
      waits = subst (λ (rs : List RangeState). AreAwaited old.set old.waiting rs) (sym s.others_is) i.waits;
      numbered = i.numbered;
      kept = kept_roomy old c n old.kept s more i.kept;
      within = subst (λ (l : Limits). back_of old.heads c ≤ l.back) (sym e) behind;
      weight = subst (λ (l : Limits). weight_of (ranges_of c) ≤ l.forward + l.back + heaviest) (sym e) light;
    }

-- ---- joins, with the room that they make

pub record IsTied (old new : CacheState) (n : ℕ) (drops : List Removal) : Type 0 where
  pub same : SameTracks old.current new.current
  pub lighter : weight_of (ranges_of new) ≤ weight_of (ranges_of old)
  pub fewer : count_of (ranges_of new) ≤ count_of (ranges_of old)
  pub short : n + length drops ≤ 30
  pub sets : (set : Choice) → AllByRecursion (λ r. r.set ≡ set) (ranges_of old) → AllByRecursion (λ r. r.set ≡ set) (ranges_of new)

-- the same of the ranges alone
record TiedFrom (o : Option RangeState) (rs : List RangeState) (n : Option RangeState) (ns : List RangeState) (k : ℕ) (drops : List Removal) : Type 0 where
  same : SameTracks o n
  lighter : weight_of (in_front n ns) ≤ weight_of (in_front o rs)
  fewer : count_of (in_front n ns) ≤ count_of (in_front o rs)
  short : k + length drops ≤ 3 * length rs
  sets : (set : Choice) → AllByRecursion (λ r. r.set ≡ set) (in_front o rs) → AllByRecursion (λ r. r.set ≡ set) (in_front n ns)

tied_from : (o : Option RangeState) (rs : List RangeState) (n : Option RangeState) (ns : List RangeState) (k : ℕ) (drops : List Removal) → IfSome o IsRange → AllByRecursion IsOther rs
    → JoinsFrom o rs n ns k drops → TiedFrom o rs n ns k drops
tied_from None rs n ns k drops i a j =
    let e = j.0 in
    let f = j.1 in
    let g = j.2 in
    let h = j.3 in
    rw (e, f, g, h) (record { same = refl; lighter = omega arith; fewer = omega arith; short = omega arith; sets = λ set x. x })
tied_from (Some r) rs None ns k drops i a j = absurd j
tied_from (Some r) rs (Some q) ns k drops i a j =
    let t = tied r rs q ns k drops i a j.0 in
    let s = t.short in
    record { same = t.same; lighter = t.lighter; fewer = t.fewer; short = omega arith; sets = λ set x. (t.same.set_is ∙ x.0, t.sets set x.1) }

short_others : (o : Option RangeState) (rs : List RangeState) → length (in_front o rs) ≤ 10 → length rs ≤ 10
short_others None rs l = l
short_others (Some r) rs l = omega arith

pub tied_up : (old new : CacheState) (n : ℕ) (drops : List Removal) → IsCache old → IsJoinedUp n drops old new → IsTied old new n drops
tied_up old new n drops i j =
    let s = j.room in
    let h = holds_same old j.roomy s in
    let w = h.weight_is in
    let c = h.count_is in
    let others : AllByRecursion IsOther j.roomy.others = subst (λ (xs : List RangeState). AllByRecursion IsOther xs) (sym s.others_is) i.others in
    let t = tied_from j.roomy.current j.roomy.others new.current new.others n drops (range_roomier old.current j.roomy.current s.current i.current) others j.joins in
    let l = t.lighter in
    let f = t.fewer in
    let k = t.short in
    let few = short_others old.current old.others i.few in
    let e = ap (λ (xs : List RangeState). length xs) s.others_is in
    record {
      same = same_both old.current j.roomy.current new.current (roomier_current old.current j.roomy.current s.current) t.same;
      lighter = omega arith;
      fewer = omega arith;
      short = omega arith;
      sets = λ set x. t.sets set (sets_same set old j.roomy s x);
    }
