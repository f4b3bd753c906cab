-- A new range that begins where starts were found.
use Rattle.std.proofs.Common.{◌≡◌, ℕ, zero, suc, ◌+◌, ◌*◌, ◌≤◌, true, false, Option, Some, None, List, [], ◌∷◌, refl, ap, sym, subst, ◌∙◌, arith, length, take, drop, length-append}
use Rattle.std.specs.Prelude.{is_some, IfSome, IsSomeAnd}
use Rattle.std.specs.List.{AllByRecursion}
use Rattle.std.specs.Option.{option_map_or}
use Rattle.mc_packet.specs.declared.packet.Packet.{Packet}
use Rattle.mc_packet.specs.declared.packet.Pos.{Pos}
use Rattle.mc_packet.specs.declared.choice.Choice.{Choice}
use Rattle.mc_packet.specs.declared.choice.Starts.{Starts}
use Rattle.mc_packet.specs.declared.cache.Heads.{Heads}
use Rattle.mc_journal.specs.declared.record.Cause.{Cause}
use Rattle.mc_journal.specs.declared.record.Cause.TheVariants.{TooMany}
use Rattle.mc_journal.specs.declared.record.Removal.{Removal}
use Rattle.mc_packet.specs.Choices.{AreAtMark, AtMark, is_empty, nothing}
use Rattle.mc_journal.specs.Used.{least_start}
use Rattle.mc_queue.specs.Queue.{QueueState}
use Rattle.mc_range.specs.Range.{RangeState, IsBegun, IsRange, StartsAt, count}
use Rattle.mc_cache.specs.Cache.{CacheState, IsCache, count_in, count_of, in_front, left_with, ranges_of, weight_of}
use Rattle.mc_cache.specs.Changing.{IsStarted}
use Rattle.mc_cache.specs.Removals.{removals_of, removals_of_all}
use Rattle.mc_cache.proofs.Started.{begun_light}
use Rattle.mc_calls.specs.declared.job.Job.{Job}
use Rattle.mc_calls.specs.declared.job.Job.TheVariants.{SeekTo, Refresh, Resume, Read, Idle}
use Rattle.mc_calls.specs.declared.waiting.Target.{Target}
use Rattle.mc_calls.specs.State.{DemuxState}
use Rattle.mc_calls.specs.Demuxers.{IsDemux, IsPlaced, KeepsJob}
use Rattle.mc_calls.specs.Outcomes.{AreStartsFor, StartsFit, head_at, heads_at}
use Rattle.mc_calls.proofs.Placing.{IsThere, kinds_placed}
use Rattle.mc_calls.proofs.Tied.{few_told}

-- ---- how much is told

drops_told : (cause : Cause) (rs : List RangeState) → length (removals_of_all cause rs) ≤ 3 * length rs
drops_told cause [] = omega arith
drops_told cause (r ∷ rs) =
    let one = few_told cause r in
    let more = drops_told cause rs in
    let all = length-append (removals_of cause r) (removals_of_all cause rs) in
    omega arith

last_few : (n : ℕ) (rs : List RangeState) → length rs ≤ n + 1 → length (drop n rs) ≤ 1
last_few zero rs l = omega arith
last_few (suc n) [] l = omega arith
last_few (suc n) (r ∷ rs) l = last_few n rs (omega arith)

others_few : (o : Option RangeState) (rs : List RangeState) → length (in_front o rs) ≤ 10 → length rs ≤ 9 + 1
others_few None rs l = omega arith
others_few (Some r) rs l = omega arith

pub few_drops : (set : Choice) (starts : Starts) (drops : List Removal) (old new : CacheState) → IsCache old → old.current ≡ None → IsStarted set starts drops old new → length drops ≤ 3
few_drops set starts drops old new i n s =
    let same : drops ≡ removals_of_all (TooMany 11) (drop 9 old.others) =
    s.told ∙ ap (λ (c : Option RangeState). removals_of_all (TooMany 11) (drop 9 (left_with c old.others))) n in
    let e = ap (λ (xs : List Removal). length xs) same in
    let t = drops_told (TooMany 11) (drop 9 old.others) in
    let f = last_few 9 old.others (others_few old.current old.others i.few) in
    omega arith

-- ---- how much is held

start_count : (track start : Option ℕ) (q : Option QueueState) → StartsAt track start q → count q ≡ 0
start_count None start q s = rw s refl
start_count (Some k) None q s = rw s refl
start_count (Some k) (Some at) None s = absurd s
start_count (Some k) (Some at) (Some q) s = ap (λ (ps : List Packet). length ps) s.none_yet

begun_count : (set : Choice) (starts : Starts) (r : RangeState) → IsBegun set starts r → count_in r ≡ 0
begun_count set starts r b =
    let v = start_count set.video starts.video r.queues.video b.video in
    let a = start_count set.audio starts.audio r.queues.audio b.audio in
    let s = start_count set.sub starts.sub r.queues.sub b.sub in
    omega arith

weight_taken : (n : ℕ) (rs : List RangeState) → weight_of (take n rs) ≤ weight_of rs
weight_taken zero rs = omega arith
weight_taken (suc n) [] = omega arith
weight_taken (suc n) (r ∷ rs) = let m = weight_taken n rs in omega arith

count_taken : (n : ℕ) (rs : List RangeState) → count_of (take n rs) ≤ count_of rs
count_taken zero rs = omega arith
count_taken (suc n) [] = omega arith
count_taken (suc n) (r ∷ rs) = let m = count_taken n rs in omega arith

pub all_taken : (P : RangeState → Type 0) (n : ℕ) (rs : List RangeState) → AllByRecursion P rs → AllByRecursion P (take n rs)
all_taken P zero rs a = tt
all_taken P (suc n) [] a = tt
all_taken P (suc n) (r ∷ rs) a = (a.0, all_taken P n rs a.1)

-- ---- which tracks the starts are for

pub record StartsAwaited (d : DemuxState) (starts : Starts) : Type 0 where
  pub sound : d.failure ≡ None
  pub of_set : d.cache.current ≡ None → AreStartsFor d.set starts
  pub of_waiting : is_some d.cache.current ≡ true → AreStartsFor d.waiting starts × (is_empty d.waiting ≡ false) × (d.seeking ≡ None)

no_current : (set : Choice) (heads : Heads) (waiting : Choice) (s o : Option Target) (c : Option RangeState) (t : Target) → IsPlaced set heads waiting o c → o ≡ Some t → is_some c ≡ true → ⊥
no_current set heads waiting s None c t p e h = cc
no_current set heads waiting s (Some x) c t p e h = let f : is_some c ≡ false = ap (λ (y : Option RangeState). is_some y) p.0 in cc

all_wait : (set : Choice) (heads : Heads) (waiting : Choice) (o : Option Target) (c : Option RangeState) → IsPlaced set heads waiting o c → c ≡ None → is_empty waiting ≡ false → waiting ≡ set
all_wait set heads waiting (Some s) c p e n = absurd (let f : is_empty waiting ≡ true = ap (λ (w : Choice). is_empty w) p.1 in cc)
all_wait set heads waiting None None p e n = p
all_wait set heads waiting None (Some r) p e n = absurd (cc)

pub no_seek : (set : Choice) (heads : Heads) (waiting : Choice) (o : Option Target) (c : Option RangeState) → IsPlaced set heads waiting o c → is_empty waiting ≡ false → o ≡ None
no_seek set heads waiting (Some s) c p n = absurd (let f : is_empty waiting ≡ true = ap (λ (w : Choice). is_empty w) p.1 in cc)
no_seek set heads waiting None c p n = refl

awaited_job : (d : DemuxState) (starts : Starts) (job : Job) → IsDemux d → KeepsJob d job → StartsFit starts job → StartsAwaited d starts
awaited_job d starts (SeekTo n set t dir) i k f = record {
  sound = k.sound;
  of_set = λ e. subst (λ (s : Choice). AreStartsFor s starts) k.is.1 f;
  of_waiting = λ h. absurd (no_current d.set d.heads d.waiting d.seeking d.seeking d.cache.current (record { t = t; dir = dir }) i.placed k.is.2 h);
}
awaited_job d starts (Refresh n added lead at) i k f =
    let some : is_empty d.waiting ≡ false = subst (λ (w : Choice). is_empty w ≡ false) k.is.1 k.is.2 in
    let own : AreStartsFor d.waiting starts = subst (λ (w : Choice). AreStartsFor w starts) k.is.1 f in
    record {
      sound = k.sound;
      of_set = λ e. subst (λ (w : Choice). AreStartsFor w starts) (all_wait d.set d.heads d.waiting d.seeking d.cache.current i.placed e some) own;
      of_waiting = λ h. (own, some, no_seek d.set d.heads d.waiting d.seeking d.cache.current i.placed some);
    }
awaited_job d starts (Resume n mark) i k f = absurd f
awaited_job d starts (Read n) i k f = absurd f
awaited_job d starts Idle i k f = absurd f

awaited_kept : (d : DemuxState) (starts : Starts) (o : Option Job) → IsDemux d → IfSome o (KeepsJob d) → IsSomeAnd o (StartsFit starts) → StartsAwaited d starts
awaited_kept d starts None i k f = absurd f
awaited_kept d starts (Some job) i k f = awaited_job d starts job i k f

pub starts_awaited : (d : DemuxState) (starts : Starts) → IsDemux d → IsSomeAnd d.kept (StartsFit starts) → StartsAwaited d starts
starts_awaited d starts i f = awaited_kept d starts d.kept i i.kept f

least_first : (v a s : Option ℕ) → IfSome v (λ at. option_map_or (λ block. block) (least_start v (least_start a s)) 0 ≤ at)
least_first None a s = tt
least_first (Some x) None None = omega arith
least_first (Some x) None (Some z) = omega arith
least_first (Some x) (Some y) None = omega arith
least_first (Some x) (Some y) (Some z) = omega arith

least_second : (v a s : Option ℕ) → IfSome a (λ at. option_map_or (λ block. block) (least_start v (least_start a s)) 0 ≤ at)
least_second v None s = tt
least_second None (Some y) None = omega arith
least_second None (Some y) (Some z) = omega arith
least_second (Some x) (Some y) None = omega arith
least_second (Some x) (Some y) (Some z) = omega arith

least_third : (v a s : Option ℕ) → IfSome s (λ at. option_map_or (λ block. block) (least_start v (least_start a s)) 0 ≤ at)
least_third v a None = tt
least_third None None (Some z) = omega arith
least_third None (Some y) (Some z) = omega arith
least_third (Some x) None (Some z) = omega arith
least_third (Some x) (Some y) (Some z) = omega arith

pub at_mark : (set : Choice) (starts : Starts) → AreStartsFor set starts → AreAtMark starts
at_mark set starts f = record {
  video = subst (λ (n : ℕ). AtMark n starts.video) (sym f.least) (least_first starts.video starts.audio starts.sub);
  audio = subst (λ (n : ℕ). AtMark n starts.audio) (sym f.least) (least_second starts.video starts.audio starts.sub);
  sub = subst (λ (n : ℕ). AtMark n starts.sub) (sym f.least) (least_third starts.video starts.audio starts.sub);
}

-- ---- a range that begins

-- what a cache has to be for a demuxer, once starts were found
pub record HasBegun (set : Choice) (heads : Heads) (old new : CacheState) : Type 0 where
  pub placed : IsPlaced set heads nothing None new.current
  pub sets : AllByRecursion (λ r. r.set ≡ set) (ranges_of old) → AllByRecursion (λ r. r.set ≡ set) (ranges_of new)
  pub lighter : weight_of (ranges_of new) ≤ weight_of (ranges_of old)
  pub fewer : count_of (ranges_of new) ≤ count_of (ranges_of old)
  pub limits_are : new.limits ≡ old.limits

start_there : (t s : Option ℕ) (q : Option QueueState) (hd : Option Pos) → StartsAt t s q → is_some s ≡ is_some t → IsThere t q (head_at s hd)
start_there None s q hd h e = λ k f. absurd (cc)
start_there (Some t) None q hd h e = λ k f. absurd (cc)
start_there (Some t) (Some at) None hd h e = absurd h
start_there (Some t) (Some at) (Some q) hd h e = λ k f. (refl, refl)

range_begins : (set : Choice) (starts : Starts) (heads : Heads) (n : Option RangeState) (old new : CacheState) → new.current ≡ n → IsCache new → old.current ≡ None → AreStartsFor set starts
    → new.others ≡ take 9 old.others → new.limits ≡ old.limits → IfSome n IsRange → IsSomeAnd n (λ r. IsBegun set starts r) → HasBegun set (heads_at starts heads) old new
range_begins set starts heads None old new e i o f rest lim r b = absurd b
range_begins set starts heads (Some r) old new e i o f rest lim ir b =
    let w = begun_light set starts r b in
    let c = begun_count set starts r b in
    let wt = weight_taken 9 old.others in
    let ct = count_taken 9 old.others in
    let before : ranges_of old ≡ old.others = ap (λ (x : Option RangeState). in_front x old.others) o in
    let after : ranges_of new ≡ r ∷ take 9 old.others = ap (λ (x : Option RangeState). in_front x new.others) e ∙ ap (λ (rs : List RangeState). r ∷ rs) rest in
    record {
      placed = subst (λ (x : Option RangeState). IsPlaced set (heads_at starts heads) nothing None x) (sym e)
          (kinds_placed set (heads_at starts heads) r ir b.set_is (start_there set.video starts.video r.queues.video heads.video b.video f.video)
          (start_there set.audio starts.audio r.queues.audio heads.audio b.audio f.audio) (start_there set.sub starts.sub r.queues.sub heads.sub b.sub f.sub));
      sets = λ a. subst (λ (rs : List RangeState). AllByRecursion (λ r. r.set ≡ set) rs) (sym after)
          (b.set_is, all_taken (λ r. r.set ≡ set) 9 old.others (subst (λ (rs : List RangeState). AllByRecursion (λ r. r.set ≡ set) rs) before a));
      lighter = rw (before, after) (omega arith);
      fewer = rw (before, after) (omega arith);
      limits_are = lim;
    }

pub start_begins : (set : Choice) (starts : Starts) (heads : Heads) (drops : List Removal) (old new : CacheState) → IsCache new → old.current ≡ None → AreStartsFor set starts
    → IsStarted set starts drops old new → HasBegun set (heads_at starts heads) old new
start_begins set starts heads drops old new i o f s =
    range_begins set starts heads new.current old new refl i o f (s.others_is ∙ ap (λ (c : Option RangeState). take 9 (left_with c old.others)) o) s.limits_is i.current s.current
