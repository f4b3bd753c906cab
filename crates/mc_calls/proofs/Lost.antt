-- How much is left, and how much is told, when other tracks are selected.
use Rattle.std.proofs.Common.{◌≡◌, ℕ, ◌+◌, ◌*◌, ◌≤◌, Bool, true, false, ◌||◌, not, Option, Some, None, List, [], ◌∷◌, ◌++◌, ℤ, refl, ap, sym, subst, ◌∙◌, inl, inr, arith, length, length-append}
use Rattle.std.specs.Prelude.{if◌then◌else◌, nat_le}
use Rattle.std.specs.List.{AllByRecursion}
use Rattle.std.specs.Option.{option_map}
use Rattle.std.proofs.lemmas.Bool.{cases_Bool}
use Rattle.mc_packet.specs.declared.packet.Packet.{Packet}
use Rattle.mc_packet.specs.declared.packet.Pos.{Pos}
use Rattle.mc_packet.specs.declared.choice.Choice.{Choice}
use Rattle.mc_packet.specs.declared.cache.Limits.{Limits}
use Rattle.mc_journal.specs.declared.record.Cause.{Cause}
use Rattle.mc_journal.specs.declared.record.Cause.TheVariants.{TrackChanged}
use Rattle.mc_journal.specs.declared.record.DemuxRecord.{DemuxRecord}
use Rattle.mc_journal.specs.declared.record.DemuxRecord.TheVariants.{Switched}
use Rattle.mc_journal.specs.declared.record.Removal.{Removal}
use Rattle.mc_packet.specs.Choices.{has, is_empty, is_known, is_track, lead_of}
use Rattle.mc_queue.specs.Queue.{QueueState}
use Rattle.mc_range.specs.declared.queues.Queues.{Queues}
use Rattle.mc_range.specs.Range.{RangeState, count}
use Rattle.mc_range.specs.Filmed.{same_kinds}
use Rattle.mc_range.specs.Tracks.{kept_queue, retracked}
use Rattle.mc_cache.specs.Cache.{CacheState, IsCache, count_in, count_of, in_front, ranges_of, weight_in, weight_of}
use Rattle.mc_cache.specs.Changing.{IsRetracked}
use Rattle.mc_cache.specs.Pruning.{back_of}
use Rattle.mc_cache.specs.Removals.{lost_queues, put_all, put_in, removal_if, removal_in, removals_in, removals_lost, removals_of_all}
use Rattle.mc_cache.proofs.Reselected.{retracked_weighs}
use Rattle.mc_calls.specs.declared.waiting.Target.{Target}
use Rattle.mc_calls.specs.State.{DemuxState}
use Rattle.mc_calls.specs.Demuxers.{AreAwaited, AreLimits, IsDemux, IsPlaced, heaviest}
use Rattle.mc_tracks.specs.Selection.{knows}
use Rattle.mc_calls.specs.Selecting.{added_to, own_records, sought_again, told_drops, waiting_after}
use Rattle.mc_calls.specs.Trimming.{Trims}
use Rattle.mc_calls.proofs.Awaited.{kept_await, none_await}
use Rattle.mc_calls.proofs.Kept.{still_placed}
use Rattle.mc_calls.proofs.Known.{known_distinct, known_same}
use Rattle.mc_calls.proofs.Resting.{own_set}
use Rattle.mc_calls.proofs.Trimmed.{trimmed}

-- ---- what is left

kept_counts : (track : Option ℕ) (q : Option QueueState) → count (kept_queue track q) ≤ count q
kept_counts track None = omega arith
kept_counts track (Some q) = elim (cases_Bool (is_track track q.track)) [ inl y ↦ rw y (omega arith) | inr n ↦ rw n (omega arith) ]

retracked_counts : (set : Choice) (r : RangeState) → count_in (retracked set r) ≤ count_in r
retracked_counts set r =
    let v = kept_counts set.video r.queues.video in
    let a = kept_counts set.audio r.queues.audio in
    let s = kept_counts set.sub r.queues.sub in
    omega arith

-- of a sum over ranges
less_of : (f : RangeState → ℕ) (total : List RangeState → ℕ) (set : Choice) (o : Option RangeState) (rs : List RangeState)
    → total [] ≡ 0 → ((r : RangeState) (qs : List RangeState) → total (r ∷ qs) ≡ f r + total qs) → ((r : RangeState) → f (retracked set r) ≤ f r)
    → total (in_front (if is_empty set then None else option_map (retracked set) o) []) ≤ total (in_front o rs)
less_of f total set o rs none more less = elim (cases_Bool (is_empty set)) [
  | inl y ↦ rw y (omega (arith, none))
  | inr n ↦ rw n (by_range o)
]
  where
    by_range : (o : Option RangeState) → total (in_front (option_map (retracked set) o) []) ≤ total (in_front o rs)
    by_range None = omega (arith, none)
    by_range (Some r) =
        let a = more (retracked set r) [] in
        let b = more r rs in
        let l = less r in
        omega (arith, none)

left_is : (set : Choice) (drops : List Removal) (old left : CacheState) → IsRetracked set drops old left
    → ranges_of left ≡ in_front (if is_empty set then None else option_map (retracked set) old.current) []
left_is set drops old left r =
    ap (λ (o : Option RangeState). in_front o left.others) r.current_is
    ∙ ap (λ (rs : List RangeState). in_front (if is_empty set then None else option_map (retracked set) old.current) rs) r.no_others

pub left_weighs : (set : Choice) (drops : List Removal) (old left : CacheState) → IsRetracked set drops old left → weight_of (ranges_of left) ≤ weight_of (ranges_of old)
left_weighs set drops old left r =
    subst (λ (rs : List RangeState). weight_of rs ≤ weight_of (ranges_of old)) (sym (left_is set drops old left r))
    (less_of weight_in weight_of set old.current old.others refl (λ x xs. refl) (retracked_weighs set))

pub left_counts : (set : Choice) (drops : List Removal) (old left : CacheState) → IsRetracked set drops old left → count_of (ranges_of left) ≤ count_of (ranges_of old)
left_counts set drops old left r =
    subst (λ (rs : List RangeState). count_of rs ≤ count_of (ranges_of old)) (sym (left_is set drops old left r))
    (less_of count_in count_of set old.current old.others refl (λ x xs. refl) (retracked_counts set))

-- ---- what is told

one_more : (d : Removal) (es : List Removal) → length (put_in d es) ≡ length es + 1
one_more d [] = refl
one_more d (e ∷ es) = elim (cases_Bool (nat_le d.track e.track)) [
  | inl y ↦ rw y (omega arith)
  | inr n ↦ let m = one_more d es in rw n (omega arith)
]

all_more : (ds es : List Removal) → length (put_all ds es) ≡ length ds + length es
all_more [] es = omega arith
all_more (d ∷ ds) es = let m = all_more ds es in let n = one_more d (put_all ds es) in omega arith

one_told : (cause : Cause) (track : ℕ) (from to : Pos) (ps : List Packet) → length (removal_if cause track from to ps) ≤ 1
one_told cause track from to [] = omega arith
one_told cause track from to (p ∷ ps) = omega arith

queue_told : (cause : Cause) (o : Option QueueState) → length (removal_in cause o) ≤ 1
queue_told cause None = omega arith
queue_told cause (Some q) = one_told cause q.track q.from q.to q.packets

queues_told : (cause : Cause) (qs : Queues) → length (removals_in cause qs) ≤ 3
queues_told cause qs =
    let v = queue_told cause qs.video in
    let a = queue_told cause qs.audio in
    let s = queue_told cause qs.sub in
    let m = all_more (removal_in cause qs.audio) (removal_in cause qs.sub) in
    let n = all_more (removal_in cause qs.video) (put_all (removal_in cause qs.audio) (removal_in cause qs.sub)) in
    omega arith

all_told : (cause : Cause) (rs : List RangeState) → length (removals_of_all cause rs) ≤ 3 * length rs
all_told cause [] = omega arith
all_told cause (r ∷ rs) =
    let one = queues_told cause r.queues in
    let more = all_told cause rs in
    let n = length-append (removals_in cause r.queues) (removals_of_all cause rs) in
    omega arith

lost_told : (cause : Cause) (set : Choice) (o : Option RangeState) (rs : List RangeState) → length (removals_lost cause set o ++ removals_of_all cause rs) ≤ 3 * length (in_front o rs)
lost_told cause set None rs = all_told cause rs
lost_told cause set (Some r) rs =
    let one = queues_told cause (lost_queues set r.queues) in
    let more = all_told cause rs in
    let n = length-append (removals_in cause (lost_queues set r.queues)) (removals_of_all cause rs) in
    omega arith

pub few_told : (set : Choice) (drops : List Removal) (old left : CacheState) → IsCache old → IsRetracked set drops old left → length drops ≤ 30
few_told set drops old left i r =
    let n = lost_told TrackChanged set old.current old.others in
    let e = ap (λ (ds : List Removal). length ds) r.told in
    let few = i.few in
    omega arith

-- ---- it is a demuxer

no_more : (P : RangeState → Type 0) (rs : List RangeState) (o : Option RangeState) → rs ≡ in_front o [] → ((r : RangeState) → o ≡ Some r → P r) → AllByRecursion P rs
no_more P rs None e h = subst (λ (x : List RangeState). AllByRecursion P x) (sym e) tt
no_more P rs (Some r) e h = subst (λ (x : List RangeState). AllByRecursion P x) (sym e) (h r refl, tt)

set_is : (set : Choice) (b : Bool) (o : Option RangeState) (r : RangeState) → (if b then None else option_map (retracked set) o) ≡ Some r → r.set ≡ set
set_is set true o r e = absurd (cc)
set_is set false None r e = absurd (cc)
set_is set false (Some q) r e = let f : retracked set q ≡ r = cc in ap (λ (x : RangeState). x.set) (sym f)

grows_by : (xs ys drops j : List DemuxRecord) (r : DemuxRecord) → j ≡ (xs ++ (r ∷ ys)) ++ drops → length xs + 1 ≤ length j
grows_by xs ys drops j r e =
    let one = ap (λ (l : List DemuxRecord). length l) e in
    let two = length-append (xs ++ (r ∷ ys)) drops in
    let three = length-append xs (r ∷ ys) in
    omega arith

light : (old left new : ℕ) (limits before : Limits) → limits ≡ before → new ≤ left → left ≤ old → old ≤ before.forward + before.back + heaviest → new ≤ limits.forward + limits.back + heaviest
light old left new limits before e a b h = subst (λ (l : Limits). new ≤ l.forward + l.back + heaviest) (sym e) (omega arith)

pub left_sets : (set : Choice) (drops : List Removal) (old left : CacheState) → IsRetracked set drops old left → AllByRecursion (λ r. r.set ≡ set) (ranges_of left)
left_sets set drops old left r =
    no_more (λ x. x.set ≡ set) (ranges_of left) (if is_empty set then None else option_map (retracked set) old.current) (left_is set drops old left r) (set_is set (is_empty set) old.current)

pub left_placed : (old : DemuxState) (set : Choice) (drops : List Removal) (left : CacheState) → IsDemux old → same_kinds old.set set ≡ true → IsRetracked set drops old.cache left
    → IsPlaced set old.heads (waiting_after old.seeking (added_to set old)) old.seeking left.current
left_placed old set drops left i kinds r =
    subst (λ (o : Option RangeState). IsPlaced set old.heads (waiting_after old.seeking (added_to set old)) old.seeking o) (sym r.current_is)
    (still_placed old set old.seeking old.cache.current i.cache.current (own_set old i) kinds i.placed)

left_await : (old : DemuxState) (set : Choice) (o : Option Target) → AreAwaited set (waiting_after o (added_to set old)) []
left_await old set None = kept_await set (λ k. not (has old.set k) || has old.waiting k)
left_await old set (Some s) = none_await set []

pub switched_is : (old : DemuxState) (by : ℕ) (set : Choice) (at : ℤ) (drops : List Removal) (left c : CacheState) (j : List DemuxRecord) (ended : Choice) (spare : ℕ)
    → IsDemux old → is_known (knows old.list) set ≡ true → IsRetracked set drops old.cache left
    → Trims by old.heads left (old.journal ++ (own_records by set at old ++ told_drops by drops)) c j → IsCache c → back_of old.heads c ≤ c.limits.back
    → IsDemux (record old {
      cache = c;
      set = set;
      waiting = waiting_after old.seeking (added_to set old);
      switch = record { lead = lead_of set; at = at };
      failure = None;
      ended = ended;
      number = old.number + 1;
      kept = None;
      fed = false;
      journal = j;
      spare = spare;
    })
switched_is old by set at drops left c j ended spare i k r t ic w =
    let waits = waiting_after old.seeking (added_to set old) in
    let d = trimmed by set old.heads waits old.seeking left (old.journal ++ (own_records by set at old ++ told_drops by drops)) c j t in
    let kinds = known_same old.list old.set set i.known k in
    let lim : c.limits ≡ old.cache.limits = d.limits_are ∙ r.rest.limits_is in
    let placed = left_placed old set drops left i kinds r in
    let n = grows_by old.journal (sought_again by set old.seeking ++ told_drops by drops) d.drops j _ d.grows in
    let m = i.numbered in
    record {
      cache = ic;
      limits = subst (λ (l : Limits). AreLimits l) (sym lim) i.limits;
      distinct = known_distinct old.list set k;
      known = k;
      sets = d.sets (left_sets set drops old.cache left r);
      placed = d.placed placed;
      waits = subst (λ (rs : List RangeState). AreAwaited set waits rs) (sym (d.alone r.no_others)) (left_await old set old.seeking);
      numbered = omega arith;
      kept = tt;
      within = w;
      weight = light (weight_of (ranges_of old.cache)) (weight_of (ranges_of left)) (weight_of (ranges_of c)) c.limits old.cache.limits lim d.lighter (left_weighs set drops old.cache left r) i.weight;
    }

-- the same, where what was put in is known by equations
pub switched_inside : (old : DemuxState) (by : ℕ) (set : Choice) (at same : ℤ) (added waits : Choice) (lead : Option ℕ) (drops told : List Removal) (left c : CacheState)
    (written j : List DemuxRecord) (ended : Choice) (spare : ℕ)
    → IsDemux old → is_known (knows old.list) set ≡ true → IsRetracked set drops old.cache left → told ≡ drops
    → written ≡ old.journal ++ ((Switched by set added same ∷ sought_again by set old.seeking) ++ told_drops by told)
    → Trims by old.heads left written c j → IsCache c → back_of old.heads c ≤ c.limits.back
    → same ≡ at → added ≡ added_to set old → waits ≡ waiting_after old.seeking added → lead ≡ lead_of set
    → IsDemux (record old {
      cache = c;
      set = set;
      waiting = waits;
      switch = record { lead = lead; at = same };
      failure = None;
      ended = ended;
      number = old.number + 1;
      kept = None;
      fed = false;
      journal = j;
      spare = spare;
    })
switched_inside old by set at same added waits lead drops told left c written j ended spare i k r td w t ic b ea ed ew el =
    let all : old.journal ++ ((Switched by set added same ∷ sought_again by set old.seeking) ++ told_drops by told) ≡ old.journal ++ (own_records by set same old ++ told_drops by drops) =
    ap (λ (x : Choice). old.journal ++ ((Switched by set x same ∷ sought_again by set old.seeking) ++ told_drops by told)) ed
    ∙ ap (λ (x : List Removal). old.journal ++ (own_records by set same old ++ told_drops by x)) td in
    let trims = subst (λ (x : List DemuxRecord). Trims by old.heads left x c j) (w ∙ all) t in
    let waiting : waits ≡ waiting_after old.seeking (added_to set old) = ew ∙ ap (λ (x : Choice). waiting_after old.seeking x) ed in
    subst (λ (x : Choice). IsDemux (record old {
      cache = c;
      set = set;
      waiting = x;
      switch = record { lead = lead; at = same };
      failure = None;
      ended = ended;
      number = old.number + 1;
      kept = None;
      fed = false;
      journal = j;
      spare = spare;
    })) (sym waiting)
    (subst (λ (x : Option ℕ). IsDemux (record old {
      cache = c;
      set = set;
      waiting = waiting_after old.seeking (added_to set old);
      switch = record { lead = x; at = same };
      failure = None;
      ended = ended;
      number = old.number + 1;
      kept = None;
      fed = false;
      journal = j;
      spare = spare;
    })) (sym el) (switched_is old by set same drops left c j ended spare i k r trims ic b))
