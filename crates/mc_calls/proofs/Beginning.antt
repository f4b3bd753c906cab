-- Starts that are taken leave a demuxer.
use Rattle.std.proofs.Common.{◌≡◌, ℕ, ◌+◌, ◌≤◌, true, false, Option, Some, None, List, [], ◌∷◌, ◌++◌, refl, ap, sym, subst, ◌∙◌, arith, length-append}
use Rattle.std.specs.Prelude.{is_some, IfNone, IfSome, IsSomeAnd}
use Rattle.std.proofs.lemmas.List.{append-nil}
use Rattle.mc_packet.specs.declared.choice.Choice.{Choice}
use Rattle.mc_packet.specs.declared.choice.Starts.{Starts}
use Rattle.mc_packet.specs.declared.cache.Heads.{Heads}
use Rattle.mc_packet.specs.declared.cache.Limits.{Limits}
use Rattle.mc_journal.specs.declared.record.DemuxRecord.{DemuxRecord}
use Rattle.mc_journal.specs.declared.record.DemuxRecord.TheVariants.{Found}
use Rattle.mc_packet.specs.Choices.{AreAtMark, is_empty, nothing}
use Rattle.mc_range.specs.Range.{RangeState, IsRange}
use Rattle.mc_cache.specs.Cache.{CacheState, IsCache, mark_in, ranges_of, weight_of}
use Rattle.mc_cache.specs.Changing.{IsSameButRoom}
use Rattle.mc_cache.specs.Pruning.{back_of}
use Rattle.mc_cache.specs.Rooms.{HasRoomToJoin, IsPrepared, MayTake}
use Rattle.mc_calls.specs.declared.waiting.Target.{Target}
use Rattle.mc_calls.specs.State.{DemuxState}
use Rattle.mc_calls.specs.Demuxers.{AreLimits, AreQueued, HaveHeads, IsDemux, IsPlaced, heaviest}
use Rattle.mc_calls.specs.Finding.{AddsTracks, Begins, BeginsBy, BeginsRange, IsReadyToBegin, MayAddAll, TakesStarts}
use Rattle.mc_calls.specs.Outcomes.{AreStartsFor, StartsFit, heads_at}
use Rattle.mc_calls.specs.Settling.{Settles}
use Rattle.mc_calls.proofs.Adding.{add_begins, may_add, tracks_added}
use Rattle.mc_calls.proofs.Awaited.{none_await}
use Rattle.mc_calls.proofs.Resting.{own_set}
use Rattle.mc_calls.proofs.Roomy.{roomy_is}
use Rattle.mc_calls.proofs.Settled.{WritesExtras, drops_extras, longer, settled}
use Rattle.mc_calls.proofs.Starting.{HasBegun, StartsAwaited, at_mark, start_begins, starts_awaited}

-- ---- whether a range is current

pub no_mark : (o : Option RangeState) → is_some (mark_in o) ≡ false → o ≡ None
no_mark None e = refl
no_mark (Some r) e = absurd (cc)

pub a_mark : (o : Option RangeState) → is_some (mark_in o) ≡ true → is_some o ≡ true
a_mark None e = absurd (cc)
a_mark (Some r) e = refl

pub begins_none : (set added : Choice) (starts : Starts) (c₀ : CacheState) (j₀ : List DemuxRecord) (c : CacheState) (j : List DemuxRecord) → c₀.current ≡ None → BeginsRange set starts c₀ j₀ c j
    → Begins set added starts c₀ j₀ c j
begins_none set added starts c₀ j₀ c j e b = subst (λ (o : Option RangeState). BeginsBy set added starts o c₀ j₀ c j) (sym e) b

adds_by : (set added : Choice) (starts : Starts) (o : Option RangeState) (c₀ : CacheState) (j₀ : List DemuxRecord) (c : CacheState) (j : List DemuxRecord) → is_some o ≡ true
    → AddsTracks added starts c₀ c → j ≡ j₀ ++ Found 5 starts ∷ [] → BeginsBy set added starts o c₀ j₀ c j
adds_by set added starts None c₀ j₀ c j e a t = absurd (cc)
adds_by set added starts (Some r) c₀ j₀ c j e a t = (a, t)

pub begins_some : (set added : Choice) (starts : Starts) (c₀ : CacheState) (j₀ : List DemuxRecord) (c : CacheState) (j : List DemuxRecord) → is_some (mark_in c₀.current) ≡ true
    → AddsTracks added starts c₀ c → j ≡ j₀ ++ Found 5 starts ∷ [] → Begins set added starts c₀ j₀ c j
begins_some set added starts c₀ j₀ c j e a t = adds_by set added starts c₀.current c₀ j₀ c j (a_mark c₀.current e) a t

-- ---- joins

lone_in : (n : ℕ) (o : Option RangeState) (rs : List RangeState) → rs ≡ [] → IfSome o (MayTake n rs)
lone_in n None rs e = tt
lone_in n (Some r) rs e = subst (λ (xs : List RangeState). MayTake n xs r) (sym e) (λ t. absurd (cc))

pub lone_joins : (st : CacheState) → st.others ≡ [] → HasRoomToJoin st
lone_joins st e = lone_in st.join_room st.current st.others e

ready_joins : (set added : Choice) (starts : Starts) (o : Option RangeState) (old new : CacheState) → old.current ≡ o → is_some o ≡ true → AddsTracks added starts old new
    → IsReadyToBegin set starts o old → HasRoomToJoin new
ready_joins set added starts None old new e f a r = absurd (cc)
ready_joins set added starts (Some x) old new e f a r = lone_joins new ((tracks_added added starts x old new e a).others_is ∙ r)

pub added_joins : (set added : Choice) (starts : Starts) (old new : CacheState) → is_some (mark_in old.current) ≡ true → AddsTracks added starts old new
    → IsReadyToBegin set starts old.current old → HasRoomToJoin new
added_joins set added starts old new e a r = ready_joins set added starts old.current old new refl (a_mark old.current e) a r

pub range_joins : (set : Choice) (starts : Starts) (old new : CacheState) → old.current ≡ None → (IsPrepared set starts old → HasRoomToJoin new)
    → IsReadyToBegin set starts old.current old → HasRoomToJoin new
range_joins set starts old new e f r = f (subst (λ (o : Option RangeState). IsReadyToBegin set starts o old) e r)

pub may_none : (o : Option RangeState) (P : Type 0) → is_some (mark_in o) ≡ true → IfSome o (λ r. P) → P
may_none None P e h = absurd (cc)
may_none (Some r) P e h = h

-- ---- what starts rest on

marks_by : (d : DemuxState) (starts : Starts) (o : Option RangeState) → d.cache.current ≡ o → StartsAwaited d starts → AreAtMark starts
marks_by d starts None e a = at_mark d.set starts (a.of_set e)
marks_by d starts (Some r) e a = at_mark d.waiting starts (a.of_waiting (ap (λ (o : Option RangeState). is_some o) e)).0

pub at_marks : (d : DemuxState) (starts : Starts) → IsDemux d → IsSomeAnd d.kept (StartsFit starts) → AreAtMark starts
at_marks d starts i k = marks_by d starts d.cache.current refl (starts_awaited d starts i k)

placed_some : (set : Choice) (heads : Heads) (waiting : Choice) (o : Option Target) (c : Option RangeState) (r : RangeState) → IsPlaced set heads waiting o c → o ≡ None → c ≡ Some r
    → AreQueued set waiting r × HaveHeads set heads r
placed_some set heads waiting o c r p e f =
    subst (λ (x : Option RangeState). IsPlaced set heads waiting None x) f (subst (λ (x : Option Target). IsPlaced set heads waiting x c) e p)

-- where a range is current, and starts come for the tracks that wait
pub record IsAdding (d : DemuxState) (starts : Starts) (r : RangeState) : Type 0 where
  pub range : IsRange r
  pub own : r.set ≡ d.set
  pub queued : AreQueued d.set d.waiting r
  pub heads : HaveHeads d.set d.heads r
  pub fit : AreStartsFor d.waiting starts
  pub some : is_empty d.waiting ≡ false

pub is_adding : (d : DemuxState) (starts : Starts) (r : RangeState) → IsDemux d → IsSomeAnd d.kept (StartsFit starts) → d.cache.current ≡ Some r → IsAdding d starts r
is_adding d starts r i k e =
    let w = (starts_awaited d starts i k).of_waiting (ap (λ (o : Option RangeState). is_some o) e) in
    let p = placed_some d.set d.heads d.waiting d.seeking d.cache.current r i.placed w.2 e in
    record {
      range = subst (λ (o : Option RangeState). IfSome o IsRange) e i.cache.current;
      own = subst (λ (o : Option RangeState). IfSome o (λ r. r.set ≡ d.set)) e (own_set d i);
      queued = p.0;
      heads = p.1;
      fit = w.0;
      some = w.1;
    }

may_by : (d : DemuxState) (starts : Starts) (o : Option RangeState) → IsDemux d → IsSomeAnd d.kept (StartsFit starts) → d.cache.current ≡ o → IfSome o (λ r. MayAddAll d.waiting starts d.cache)
may_by d starts None i k e = tt
may_by d starts (Some r) i k e =
    let a = is_adding d starts r i k e in
    may_add d.set d.waiting d.heads d.cache.others starts r d.cache e a.range a.own i.waits a.queued (at_marks d starts i k)

pub may_begin : (d : DemuxState) (starts : Starts) → IsDemux d → IsSomeAnd d.kept (StartsFit starts) → IfSome d.cache.current (λ r. MayAddAll d.waiting starts d.cache)
may_begin d starts i k = may_by d starts d.cache.current i k refl

ready_by : (d : DemuxState) (starts : Starts) (o : Option RangeState) → IsDemux d → IsSomeAnd d.kept (StartsFit starts) → d.cache.current ≡ o → IfNone o (IsPrepared d.set starts d.cache)
    → IsReadyToBegin d.set starts o d.cache
ready_by d starts None i k e p = p
ready_by d starts (Some r) i k e p = i.waits.alone (is_adding d starts r i k e).some

pub ready_begin : (d : DemuxState) (starts : Starts) → IsDemux d → IsSomeAnd d.kept (StartsFit starts) → IfNone d.cache.current (IsPrepared d.set starts d.cache)
    → IsReadyToBegin d.set starts d.cache.current d.cache
ready_begin d starts i k p = ready_by d starts d.cache.current i k refl p

-- ---- what they leave

pub record Begun (d : DemuxState) (starts : Starts) (c : CacheState) (j : List DemuxRecord) : Type 0 where
  pub has : HasBegun d.set (heads_at starts d.heads) d.cache c
  pub wrote : WritesExtras 5 (d.journal ++ Found 5 starts ∷ []) j

begun_by : (d : DemuxState) (starts : Starts) (o : Option RangeState) (c : CacheState) (j : List DemuxRecord) → IsDemux d → IsSomeAnd d.kept (StartsFit starts) → d.cache.current ≡ o → IsCache c
    → BeginsBy d.set d.waiting starts o d.cache d.journal c j → Begun d starts c j
begun_by d starts None c j i k e ic b = record {
  has = start_begins d.set starts d.heads b.drops d.cache c ic e ((starts_awaited d starts i k).of_set e) b.started;
  wrote = subst (λ (x : List DemuxRecord). WritesExtras 5 (d.journal ++ Found 5 starts ∷ []) x) (sym b.told) (drops_extras 5 (d.journal ++ Found 5 starts ∷ []) b.drops);
}
begun_by d starts (Some r) c j i k e ic b =
    let a = is_adding d starts r i k e in
    record {
      has = add_begins d.set d.waiting d.heads starts r d.cache c ic e a.range a.own i.waits a.queued a.heads a.fit b.0;
      wrote = record { extras = []; grows = b.1 ∙ sym (append-nil (d.journal ++ Found 5 starts ∷ [])); are = tt };
    }

pub begun : (d : DemuxState) (starts : Starts) (c : CacheState) (j : List DemuxRecord) → IsDemux d → IsSomeAnd d.kept (StartsFit starts) → IsCache c
    → Begins d.set d.waiting starts d.cache d.journal c j → Begun d starts c j
begun d starts c j i k ic b = begun_by d starts d.cache.current c j i k refl ic b

pub starts_is : (old : DemuxState) (starts : Starts) (heads : Heads) (b c : CacheState) (j₁ j : List DemuxRecord) (spare : ℕ) → IsDemux old → IsSomeAnd old.kept (StartsFit starts) → heads ≡ heads_at starts old.heads
    → IsCache b → Begins old.set old.waiting starts old.cache old.journal b j₁ → Settles 5 heads b j₁ c j → IsCache c → back_of heads c ≤ c.limits.back
    → IsDemux (record old { cache = c; heads = heads; seeking = None; waiting = nothing; number = old.number + 1; kept = None; fed = false; journal = j; spare = spare })
starts_is old starts heads b c j₁ j spare i k e ib begins s ic within =
    let g = begun old starts b j₁ i k ib begins in
    let d = settled 5 old.set heads nothing None b j₁ c j ib s in
    let lim : c.limits ≡ old.cache.limits = d.limits_are ∙ g.has.limits_are in
    let n = longer 5 j₁ j d.wrote in
    let m = longer 5 (old.journal ++ Found 5 starts ∷ []) j₁ g.wrote in
    let l = length-append old.journal (Found 5 starts ∷ []) in
    let o = i.numbered in
    let light = d.lighter in
    let less = g.has.lighter in
    let heavy = i.weight in
    let all : weight_of (ranges_of c) ≤ old.cache.limits.forward + old.cache.limits.back + heaviest = omega arith in
    record {
      cache = ic;
      limits = subst (λ (x : Limits). AreLimits x) (sym lim) i.limits;
      distinct = i.distinct;
      known = i.known;
      sets = d.sets (g.has.sets i.sets);
      placed = d.placed (subst (λ (h : Heads). IsPlaced old.set h nothing None b.current) (sym e) g.has.placed);
      waits = none_await old.set c.others;
      numbered = omega arith;
      kept = tt;
      within = within;
      weight = subst (λ (x : Limits). weight_of (ranges_of c) ≤ x.forward + x.back + heaviest) (sym lim) all;
    }

-- ---- how it is said

takes_by : (v : DemuxState) (starts : Starts) (heads : Heads) (b c : CacheState) (j₁ j : List DemuxRecord) (spare : ℕ) → heads ≡ heads_at starts v.heads → IsCache b
    → Begins v.set v.waiting starts v.cache v.journal b j₁ → Settles 5 heads b j₁ c j
    → TakesStarts starts v (record v { cache = c; heads = heads; seeking = None; waiting = nothing; number = v.number + 1; kept = None; fed = false; journal = j; spare = spare })
takes_by v starts heads b c j₁ j spare e i begins s = record {
  begun = b;
  journal = j₁;
  is_cache = i;
  begins = begins;
  settles = subst (λ (h : Heads). Settles 5 h b j₁ c j) e s;
  changed = ap (λ (h : Heads). let d : DemuxState = record v { cache = c; heads = h; seeking = None; waiting = nothing; number = v.number + 1; kept = None; fed = false; journal = j; spare = spare } in d) e;
}

pub takes_now : (v now : DemuxState) (starts : Starts) (heads : Heads) (b c : CacheState) (j₁ j : List DemuxRecord) (spare : ℕ) → v ≡ now → heads ≡ heads_at starts v.heads → IsCache b
    → Begins v.set v.waiting starts v.cache v.journal b j₁ → Settles 5 heads b j₁ c j
    → TakesStarts starts now (record v { cache = c; heads = heads; seeking = None; waiting = nothing; number = v.number + 1; kept = None; fed = false; journal = j; spare = spare })
takes_now v now starts heads b c j₁ j spare n e i begins s =
    subst (λ (d : DemuxState). TakesStarts starts d (record v { cache = c; heads = heads; seeking = None; waiting = nothing; number = v.number + 1; kept = None; fed = false; journal = j; spare = spare })) n
    (takes_by v starts heads b c j₁ j spare e i begins s)

-- where no range could begin
pub untold_is : (v : DemuxState) (c : CacheState) (j : List DemuxRecord) (n : ℕ) → IsSameButRoom v.cache c → IsCache c → j ≡ v.journal → v.spare ≤ n → IsDemux v
    → IsDemux (record v { cache = c; journal = j; spare = n })
untold_is v c j n s i e l d = subst (λ (x : List DemuxRecord). IsDemux (record v { cache = c; journal = x; spare = n })) (sym e) (roomy_is v c n s i l d)
