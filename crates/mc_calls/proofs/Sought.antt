-- A seek turns the cache to the range that serves it, and leaves a demuxer.
use Rattle.std.proofs.Common.{◌≡◌, ℕ, ◌+◌, ◌≤◌, Bool, true, false, Option, Some, None, List, [], ◌∷◌, ◌++◌, append_assoc, length, length-append, refl, ap, sym, subst, ◌∙◌, inl, inr, arith}
use Rattle.std.specs.Prelude.{is_some, IfSome, ℤ}
use Rattle.std.specs.List.{AllByRecursion, filter, find}
use Rattle.std.proofs.lemmas.Bool.{cases_Bool}
use Rattle.mc_packet.specs.declared.choice.Choice.{Choice}
use Rattle.mc_packet.specs.declared.choice.Dir.{Dir}
use Rattle.mc_packet.specs.declared.cache.Heads.{Heads}
use Rattle.mc_packet.specs.declared.cache.Limits.{Limits}
use Rattle.mc_journal.specs.declared.record.Sought.{Sought as How}
use Rattle.mc_journal.specs.declared.record.Sought.TheVariants.{Cached, Sent}
use Rattle.mc_journal.specs.declared.record.DemuxRecord.{DemuxRecord}
use Rattle.mc_journal.specs.declared.record.DemuxRecord.TheVariants.{Sought}
use Rattle.mc_packet.specs.Choices.{is_distinct, nothing, is_known}
use Rattle.mc_journal.specs.Allowed.{how_by}
use Rattle.mc_range.specs.Range.{RangeState, IsRange}
use Rattle.mc_range.specs.Serving.{heads_of}
use Rattle.mc_cache.specs.Cache.{CacheState, IsCache, count_in, count_of, holds, in_front, left_with, ranges_of, weight_in, weight_of, without_first}
use Rattle.mc_cache.specs.Changing.{heads_in, serves, server}
use Rattle.mc_cache.proofs.Lists.{found_passes}
use Rattle.mc_cache.proofs.Standing.{all_find, all_without}
use Rattle.mc_cache.specs.Pruning.{back_of}
use Rattle.mc_calls.specs.declared.job.Job.{Job}
use Rattle.mc_calls.specs.declared.waiting.Target.{Target}
use Rattle.mc_calls.specs.State.{DemuxState}
use Rattle.mc_calls.specs.Demuxers.{AreAwaited, AreLimits, IsDemux, IsPlaced, KeepsJob, heaviest}
use Rattle.mc_tracks.specs.Selection.{knows}
use Rattle.mc_calls.specs.Seeking.{Goes, Turns, heads_or, target_after}
use Rattle.mc_calls.specs.Trimming.{Trims}
use Rattle.mc_calls.proofs.Awaited.{less_await, none_await}
use Rattle.mc_calls.proofs.Places.{serving_places}
use Rattle.mc_calls.proofs.Trimmed.{trimmed}

-- ---- how it is answered

served_in : (set : Choice) (t : ℤ) (dir : Dir) (o : Option RangeState) (h : Heads) → Some h ≡ heads_in set t dir o → Cached ≡ how_by (is_some o)
served_in set t dir None h e = absurd (cc)
served_in set t dir (Some r) h e = refl

pub served_by : (set : Choice) (t : ℤ) (dir : Dir) (c : CacheState) (h : Heads) → Some h ≡ heads_in set t dir (server set t dir c) → Cached ≡ how_by (is_some (server set t dir c))
served_by set t dir c h e = served_in set t dir (server set t dir c) h e

unserved_in : (set : Choice) (t : ℤ) (dir : Dir) (rs : List RangeState) (o : Option RangeState) → find (serves set t dir) rs ≡ o → None ≡ heads_in set t dir o → Sent ≡ how_by (is_some o)
unserved_in set t dir rs None f e = refl
unserved_in set t dir rs (Some r) f e =
    let y : is_some (heads_of r set t dir) ≡ true = found_passes (serves set t dir) rs r f in
    absurd (let n : is_some (heads_of r set t dir) ≡ false = rw (← e) refl in cc)

pub unserved_by : (set : Choice) (t : ℤ) (dir : Dir) (c : CacheState) → None ≡ heads_in set t dir (server set t dir c) → Sent ≡ how_by (is_some (server set t dir c))
unserved_by set t dir c e = unserved_in set t dir (ranges_of c) (server set t dir c) refl e

-- ---- the ranges, in another order

pub all_front : (P : RangeState → Type 0) (o : Option RangeState) (rs : List RangeState) → IfSome o P → AllByRecursion P rs → AllByRecursion P (in_front o rs)
all_front P None rs h a = a
all_front P (Some r) rs h a = (h, a)

pub all_left : (P : RangeState → Type 0) (o : Option RangeState) (rs : List RangeState) → AllByRecursion P (in_front o rs) → AllByRecursion P (left_with o rs)
all_left P None rs a = a
all_left P (Some r) rs a = elim (cases_Bool (holds r)) [ inl y ↦ rw y a | inr n ↦ rw n a.1 ]

all_held : (P : RangeState → Type 0) (test : RangeState → Bool) (rs : List RangeState) → AllByRecursion P rs → AllByRecursion P (filter test rs)
all_held P test [] a = tt
all_held P test (r ∷ rs) a = elim (cases_Bool (test r)) [ inl y ↦ rw y (a.0, all_held P test rs a.1) | inr n ↦ rw n (all_held P test rs a.1) ]

pub turned_all : (P : RangeState → Type 0) (set : Choice) (t : ℤ) (dir : Dir) (how : How) (old new : CacheState) → Turns set t dir how old new
    → AllByRecursion P (ranges_of old) → AllByRecursion P (ranges_of new)
turned_all P set t dir Cached old new c a =
    subst (λ (o : Option RangeState). AllByRecursion P (in_front o new.others)) (sym c.current_is)
    (subst (λ (rs : List RangeState). AllByRecursion P (in_front (server set t dir old) rs)) (sym c.others_is)
    (all_front P (server set t dir old) (filter holds (without_first (serves set t dir) (ranges_of old))) (all_find P (serves set t dir) (ranges_of old) a)
    (all_held P holds (without_first (serves set t dir) (ranges_of old)) (all_without P (serves set t dir) (ranges_of old) a))))
turned_all P set t dir Sent old new l a =
    subst (λ (o : Option RangeState). AllByRecursion P (in_front o new.others)) (sym l.no_current)
    (subst (λ (rs : List RangeState). AllByRecursion P rs) (sym l.others_is) (all_left P old.current old.others a))

-- ---- no number of them is greater

-- a number that adds up over ranges
record AddsUp (sum : List RangeState → ℕ) (of_one : RangeState → ℕ) : Type 0 where
  more : (r : RangeState) (rs : List RangeState) → sum (r ∷ rs) ≡ of_one r + sum rs

left_less : (sum : List RangeState → ℕ) (of_one : RangeState → ℕ) (o : Option RangeState) (rs : List RangeState) → AddsUp sum of_one → sum (left_with o rs) ≤ sum (in_front o rs)
left_less sum of_one None rs a = omega arith
left_less sum of_one (Some r) rs a = let m = a.more r rs in elim (cases_Bool (holds r)) [ inl y ↦ rw y (omega arith) | inr n ↦ rw n (omega arith) ]

held_less : (sum : List RangeState → ℕ) (of_one : RangeState → ℕ) (test : RangeState → Bool) (rs : List RangeState) → AddsUp sum of_one → sum (filter test rs) ≤ sum rs
held_less sum of_one test [] a = omega arith
held_less sum of_one test (r ∷ rs) a =
    let l = held_less sum of_one test rs a in
    let m = a.more r rs in
    let k = a.more r (filter test rs) in
    elim (cases_Bool (test r)) [ inl y ↦ rw y (omega arith) | inr n ↦ rw n (omega arith) ]

front_more : (sum : List RangeState → ℕ) (of_one : RangeState → ℕ) (o : Option RangeState) (r : RangeState) (rs : List RangeState) → AddsUp sum of_one
    → sum (in_front o (r ∷ rs)) ≡ of_one r + sum (in_front o rs)
front_more sum of_one None r rs a = a.more r rs
front_more sum of_one (Some q) r rs a = let m = a.more q (r ∷ rs) in let k = a.more r rs in let n = a.more q rs in omega arith

found_same : (sum : List RangeState → ℕ) (of_one : RangeState → ℕ) (test : RangeState → Bool) (rs : List RangeState) → AddsUp sum of_one
    → sum (in_front (find test rs) (without_first test rs)) ≡ sum rs
found_same sum of_one test [] a = refl
found_same sum of_one test (r ∷ rs) a = elim (cases_Bool (test r)) [
  | inl y ↦ rw y refl
  | inr n ↦ rw n (front_more sum of_one (find test rs) r (without_first test rs) a ∙ ap (λ n. of_one r + n) (found_same sum of_one test rs a) ∙ sym (a.more r rs))
]

front_less : (sum : List RangeState → ℕ) (of_one : RangeState → ℕ) (o : Option RangeState) (xs ys : List RangeState) → AddsUp sum of_one → sum xs ≤ sum ys
    → sum (in_front o xs) ≤ sum (in_front o ys)
front_less sum of_one None xs ys a l = l
front_less sum of_one (Some r) xs ys a l = let m = a.more r xs in let k = a.more r ys in omega arith

turned_less : (sum : List RangeState → ℕ) (of_one : RangeState → ℕ) (set : Choice) (t : ℤ) (dir : Dir) (how : How) (old new : CacheState) → AddsUp sum of_one → Turns set t dir how old new
    → sum (ranges_of new) ≤ sum (ranges_of old)
turned_less sum of_one set t dir Cached old new a c =
    let test = serves set t dir in
    let e : ranges_of new ≡ in_front (server set t dir old) (filter holds (without_first test (ranges_of old))) =
    ap (λ (o : Option RangeState). in_front o new.others) c.current_is ∙ ap (λ (rs : List RangeState). in_front (server set t dir old) rs) c.others_is in
    let l = front_less sum of_one (server set t dir old) (filter holds (without_first test (ranges_of old))) (without_first test (ranges_of old)) a
    (held_less sum of_one holds (without_first test (ranges_of old)) a) in
    let w : sum (in_front (server set t dir old) (without_first test (ranges_of old))) ≡ sum (ranges_of old) = found_same sum of_one test (ranges_of old) a in
    rw e (omega arith)
turned_less sum of_one set t dir Sent old new a l =
    let e : ranges_of new ≡ left_with old.current old.others = ap (λ (o : Option RangeState). in_front o new.others) l.no_current ∙ l.others_is in
    rw e (left_less sum of_one old.current old.others a)

pub turned_lighter : (set : Choice) (t : ℤ) (dir : Dir) (how : How) (old new : CacheState) → Turns set t dir how old new → weight_of (ranges_of new) ≤ weight_of (ranges_of old)
turned_lighter set t dir how old new c = turned_less weight_of weight_in set t dir how old new (record { more = λ r rs. refl }) c

pub turned_fewer : (set : Choice) (t : ℤ) (dir : Dir) (how : How) (old new : CacheState) → Turns set t dir how old new → count_of (ranges_of new) ≤ count_of (ranges_of old)
turned_fewer set t dir how old new c = turned_less count_of count_in set t dir how old new (record { more = λ r rs. refl }) c

pub turned_limits : (set : Choice) (t : ℤ) (dir : Dir) (how : How) (old new : CacheState) → Turns set t dir how old new → new.limits ≡ old.limits
turned_limits set t dir Cached old new c = c.rest.limits_is
turned_limits set t dir Sent old new l = l.rest.limits_is

-- ---- it is a demuxer

placed_served : (set : Choice) (heads : Heads) (t : ℤ) (dir : Dir) (rs : List RangeState) (o : Option RangeState) → find (serves set t dir) rs ≡ o → Cached ≡ how_by (is_some o)
    → IfSome o IsRange → IfSome o (λ r. r.set ≡ set) → IsPlaced set (heads_or heads (heads_in set t dir o)) nothing None o
placed_served set heads t dir rs None f h i e = absurd (cc)
placed_served set heads t dir rs (Some r) f h i e = serving_places set heads t dir r i e (found_passes (serves set t dir) rs r f)

current_of : (P : RangeState → Type 0) (o : Option RangeState) (rs : List RangeState) → AllByRecursion P (in_front o rs) → IfSome o P
current_of P None rs a = tt
current_of P (Some r) rs a = a.0

pub turned_placed : (set : Choice) (heads : Heads) (t : ℤ) (dir : Dir) (how : How) (old new : CacheState) → Turns set t dir how old new → how ≡ how_by (is_some (server set t dir old)) → IsCache new
    → AllByRecursion (λ r. r.set ≡ set) (ranges_of new)
    → IsPlaced set (heads_or heads (heads_in set t dir (server set t dir old))) nothing (target_after t dir how) new.current
turned_placed set heads t dir Cached old new c h i e =
    let range = subst (λ (o : Option RangeState). IfSome o IsRange) c.current_is i.current in
    let own = subst (λ (o : Option RangeState). IfSome o (λ r. r.set ≡ set)) c.current_is (current_of (λ r. r.set ≡ set) new.current new.others e) in
    subst (λ (o : Option RangeState). IsPlaced set (heads_or heads (heads_in set t dir (server set t dir old))) nothing None o) (sym c.current_is)
    (placed_served set heads t dir (ranges_of old) (server set t dir old) refl h range own)
turned_placed set heads t dir Sent old new l h i e = (l.no_current, refl)

-- drops leave a demuxer of what was one but for the octets behind the readers
pub trims_is : (d : DemuxState) (by : ℕ) (c₀ : CacheState) (j₀ : List DemuxRecord) (c : CacheState) (j : List DemuxRecord) → AreLimits c₀.limits → is_distinct d.set ≡ true → is_known (knows d.list) d.set ≡ true
    → AllByRecursion (λ r. r.set ≡ d.set) (ranges_of c₀) → IsPlaced d.set d.heads d.waiting d.seeking c₀.current → AreAwaited d.set d.waiting c₀.others → d.number ≤ length j₀
    → weight_of (ranges_of c₀) ≤ c₀.limits.forward + c₀.limits.back + heaviest → d.kept ≡ None
    → Trims by d.heads c₀ j₀ c j → IsCache c → back_of d.heads c ≤ c.limits.back → IsDemux (record d { cache = c; journal = j })
trims_is d by c₀ j₀ c j l dist known sets placed waits n w k t ic b =
    let m = trimmed by d.set d.heads d.waiting d.seeking c₀ j₀ c j t in
    let lim : c₀.limits ≡ c.limits = sym m.limits_are in
    let light = m.lighter in
    let heavy : weight_of (ranges_of c) ≤ c₀.limits.forward + c₀.limits.back + heaviest = omega arith in
    let long : length j ≡ length j₀ + length m.drops = ap (λ (l : List DemuxRecord). length l) m.grows ∙ length-append j₀ m.drops in
    record {
      cache = ic;
      limits = subst (λ (x : Limits). AreLimits x) lim l;
      distinct = dist;
      known = known;
      sets = m.sets sets;
      placed = m.placed placed;
      waits = less_await d.set d.waiting c₀.others c.others waits m.alone;
      numbered = omega arith;
      kept = subst (λ (o : Option Job). IfSome o (KeepsJob (record d { cache = c; journal = j }))) (sym k) tt;
      within = b;
      weight = subst (λ (x : Limits). weight_of (ranges_of c) ≤ x.forward + x.back + heaviest) lim heavy;
    }

pub goes_is : (old : DemuxState) (by : ℕ) (t : ℤ) (dir : Dir) (how : How) (turned c : CacheState) (heads : Heads) (j j' : List DemuxRecord) (own : DemuxRecord) (seeking : Option Target) (none ended : Choice) (spare : ℕ) → IsDemux old
    → IsCache turned → Turns old.set t dir how old.cache turned → how ≡ how_by (is_some (server old.set t dir old.cache))
    → heads ≡ heads_or old.heads (heads_in old.set t dir (server old.set t dir old.cache)) → seeking ≡ target_after t dir how → none ≡ nothing
    → j ≡ old.journal ++ own ∷ [] → Trims by heads turned j c j' → IsCache c → back_of heads c ≤ c.limits.back
    → IsDemux (record old { cache = c; heads = heads; seeking = seeking; waiting = none; failure = None; ended = ended; number = old.number + 1; kept = None; fed = false; journal = j'; spare = spare })
goes_is old by t dir how turned c heads j j' own seeking none ended spare i it turns how_is heads_are seeking_is none_is pushed trims ic b =
    let lim = turned_limits old.set t dir how old.cache turned turns in
    let sets = turned_all (λ r. r.set ≡ old.set) old.set t dir how old.cache turned turns i.sets in
    let light = turned_lighter old.set t dir how old.cache turned turns in
    let heavy = i.weight in
    let all : weight_of (ranges_of turned) ≤ old.cache.limits.forward + old.cache.limits.back + heaviest = omega arith in
    let placed = turned_placed old.set old.heads t dir how old.cache turned turns how_is it sets in
    let here : IsPlaced old.set heads none seeking turned.current =
    subst (λ (h : Heads). IsPlaced old.set h none seeking turned.current) (sym heads_are)
    (subst (λ (s : Option Target). IsPlaced old.set (heads_or old.heads (heads_in old.set t dir (server old.set t dir old.cache))) none s turned.current) (sym seeking_is)
    (subst (λ (w : Choice). IsPlaced old.set (heads_or old.heads (heads_in old.set t dir (server old.set t dir old.cache))) w (target_after t dir how) turned.current) (sym none_is) placed)) in
    let long : length j ≡ length old.journal + 1 = ap (λ (l : List DemuxRecord). length l) pushed ∙ length-append old.journal (own ∷ []) in
    let n = i.numbered in
    trims_is (record old { heads = heads; seeking = seeking; waiting = none; failure = None; ended = ended; number = old.number + 1; kept = None; fed = false; spare = spare }) by turned j c j'
    (subst (λ (l : Limits). AreLimits l) (sym lim) i.limits) i.distinct i.known sets here (subst (λ (w : Choice). AreAwaited old.set w turned.others) (sym none_is) (none_await old.set turned.others)) (omega arith)
    (subst (λ (l : Limits). weight_of (ranges_of turned) ≤ l.forward + l.back + heaviest) (sym lim) all) refl trims ic b

-- what was done by steps is the seek
pub goes_told : (old now : DemuxState) (by : ℕ) (t same : ℤ) (dir : Dir) (how : How) (turned c : CacheState) (heads : Heads) (j j' : List DemuxRecord) (seeking : Option Target) (none ended : Choice) (spare : ℕ)
    → old ≡ now → same ≡ t → IsCache turned → Turns old.set same dir how old.cache turned → how ≡ how_by (is_some (server old.set same dir old.cache))
    → heads ≡ heads_or old.heads (heads_in old.set same dir (server old.set same dir old.cache)) → seeking ≡ target_after same dir how → none ≡ nothing → ended ≡ nothing
    → j ≡ old.journal ++ Sought by old.set same dir how ∷ [] → Trims by heads turned j c j'
    → Goes by t dir how now (record old { cache = c; heads = heads; seeking = seeking; waiting = none; failure = None; ended = ended; number = old.number + 1; kept = None; fed = false; journal = j'; spare = spare })
goes_told old now by t same dir how turned c heads j j' seeking none ended spare was e it turns how_is heads_are seeking_is none_is ended_is pushed trims =
    let after = heads_or old.heads (heads_in old.set same dir (server old.set same dir old.cache)) in
    let went = subst (λ (h : Heads). Trims by h turned (old.journal ++ Sought by old.set same dir how ∷ []) c j') heads_are (subst (λ (x : List DemuxRecord). Trims by heads turned x c j') pushed trims) in
    let own : DemuxRecord = Sought by old.set same dir how in
    let d = trimmed by old.set after nothing (target_after same dir how) turned (old.journal ++ own ∷ []) c j' went in
    let new : Heads → Option Target → Choice → Choice → DemuxState =
    λ (h : Heads) (s : Option Target) (w n : Choice). record old { cache = c; heads = h; seeking = s; waiting = w; failure = None; ended = n; number = old.number + 1; kept = None; fed = false; journal = j'; spare = spare } in
    let all : new heads seeking none ended ≡ new after (target_after same dir how) nothing nothing =
    ap (λ (h : Heads). new h seeking none ended) heads_are ∙ ap (λ (s : Option Target). new after s none ended) seeking_is
    ∙ ap (λ (w : Choice). new after (target_after same dir how) w ended) none_is ∙ ap (λ (n : Choice). new after (target_after same dir how) nothing n) ended_is in
    subst (λ (d : DemuxState). Goes by t dir how d (new heads seeking none ended)) was
    (subst (λ (z : ℤ). Goes by z dir how old (new heads seeking none ended)) e
    (record {
      turned = turned;
      is_cache = it;
      turns = turns;
      how_is = how_is;
      trims = went;
      changed = all;
      limits_are = d.limits_are ∙ turned_limits old.set same dir how old.cache turned turns;
      wrote = record { drops = d.drops; grows = d.grows ∙ append_assoc old.journal (own ∷ []) d.drops; are = d.are };
    }))
