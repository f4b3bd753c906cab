-- Drops of the limit leave the marks of the ranges.
use Rattle.std.proofs.Common.{◌≡◌, ℕ, List, [], ◌∷◌, ◌++◌, map, Option, Some, None, sym, subst}
use Rattle.std.specs.Prelude.{Contains}
use Rattle.std.specs.List.{AllByRecursion}
use Rattle.std.proofs.lemmas.Bool.{cond_both}
use Rattle.std.proofs.lemmas.List.Elements.{Contains-append_left, Contains-append_right, Contains-push}
use Rattle.mc_packet.specs.declared.cache.Heads.{Heads}
use Rattle.mc_packet.specs.declared.walk.Mark.{Mark}
use Rattle.mc_journal.specs.declared.record.DemuxRecord.{DemuxRecord}
use Rattle.mc_journal.specs.declared.record.Removal.{Removal}
use Rattle.mc_range.specs.declared.cutting.Cut.{Cut}
use Rattle.mc_range.specs.Range.{RangeState}
use Rattle.mc_cache.specs.Cache.{CacheState, in_front, ranges_of, holds}
use Rattle.mc_cache.specs.Pruning.{CutsLast, CutsFront, CutsRange, Prunes}
use Rattle.mc_calls.specs.Marks.{AreAmong, marks_of}
use Rattle.mc_packet.specs.declared.choice.Choice.{Choice}
use Rattle.mc_calls.specs.Readings.{Gives}
use Rattle.mc_calls.specs.State.{DemuxState}
use Rattle.mc_calls.specs.Trimming.{Trims}
use Rattle.mc_calls.specs.Trimming.Trims.{none, more}

-- a range is read on from one of the marks
abbrev pub Among : List Mark → RangeState → Type 0
Among marks r = Contains marks r.mark

pub head_in : (m : Mark) (marks : List Mark) → Contains (m ∷ marks) m
head_in m marks = Contains-append_left (m ∷ []) marks m (Contains-push [] m)

pub further : (m : Mark) (marks : List Mark) (rs : List RangeState) → AllByRecursion (Among marks) rs → AllByRecursion (Among (m ∷ marks)) rs
further m marks [] h = tt
further m marks (r ∷ rs) h = (Contains-append_right (m ∷ []) marks r.mark h.0, further m marks rs h.1)

all_among : (rs : List RangeState) → AllByRecursion (Among (map (λ (r : RangeState). r.mark) rs)) rs
all_among [] = tt
all_among (r ∷ rs) =
    let marks = map (λ (q : RangeState). q.mark) rs in
    (head_in r.mark marks, further r.mark marks rs (all_among rs))

-- a cache has its own marks, and so where one more is named
pub among_self : (c : CacheState) → AreAmong (marks_of c) c
among_self c = all_among (ranges_of c)

pub among_more : (m : Mark) (c : CacheState) → AreAmong (m ∷ marks_of c) c
among_more m c = further m (marks_of c) (ranges_of c) (all_among (ranges_of c))

pub among_same : (old new : CacheState) → new ≡ old → AreAmong (marks_of old) new
among_same old new e = subst (AreAmong (marks_of old)) (sym e) (among_self old)

-- ---- drops of the limit

cut-mark : (marks : List Mark) (r q : RangeState) → q.mark ≡ r.mark → Among marks r → Among marks q
cut-mark marks r q e h = subst (Contains marks) (sym e) h

last-among : (marks : List Mark) (rs new : List RangeState) (c : Cut) → CutsLast rs new c → AllByRecursion (Among marks) rs → AllByRecursion (Among marks) new
last-among marks [] new c cuts h = absurd cuts
last-among marks (r ∷ []) new c cuts h =
    subst (AllByRecursion (Among marks)) (sym cuts.2)
    (cond_both (holds cuts.0) (cuts.0 ∷ []) [] (AllByRecursion (Among marks)) (λ e. (cut-mark marks r cuts.0 cuts.1.mark_is h.0, tt)) (λ e. tt))
last-among marks (r ∷ o ∷ rs) new c cuts h = subst (AllByRecursion (Among marks)) (sym cuts.2) (h.0, last-among marks (o ∷ rs) cuts.0 c cuts.1 h.1)

front-among : (marks : List Mark) (heads : Heads) (r q : Option RangeState) (others : List RangeState) (c : Cut) → CutsFront heads r q c → others ≡ [] → AllByRecursion (Among marks) (in_front r [])
    → AllByRecursion (Among marks) (in_front q others)
front-among marks heads None q others c cuts e h = absurd cuts
front-among marks heads (Some r) None others c cuts e h = absurd cuts
front-among marks heads (Some r) (Some q) others c cuts e h =
    subst (λ os. AllByRecursion (Among marks) (in_front (Some q) os)) (sym e) (cut-mark marks r q cuts.mark_is h.0, tt)

behind-among : (marks : List Mark) (current : Option RangeState) (rs new : List RangeState) (c : Cut) → CutsLast rs new c → AllByRecursion (Among marks) (in_front current rs)
    → AllByRecursion (Among marks) (in_front current new)
behind-among marks None rs new c cuts h = last-among marks rs new c cuts h
behind-among marks (Some r) rs new c cuts h = (h.0, last-among marks rs new c cuts h.1)

range-among : (marks : List Mark) (heads : Heads) (r : Option RangeState) (rs : List RangeState) (r' : Option RangeState) (rs' : List RangeState) (c : Cut) → CutsRange heads r rs r' rs' c
    → AllByRecursion (Among marks) (in_front r rs) → AllByRecursion (Among marks) (in_front r' rs')
range-among marks heads r [] r' rs' c cuts h = front-among marks heads r r' rs' c cuts.0 cuts.1 h
range-among marks heads r (o ∷ os) r' rs' c cuts h =
    subst (λ q. AllByRecursion (Among marks) (in_front q rs')) (sym cuts.1) (behind-among marks r (o ∷ os) rs' c cuts.0 h)

prune-among : (marks : List Mark) (heads : Heads) (m : Removal) (old new : CacheState) → Prunes heads (Some m) old new → AreAmong marks old → AreAmong marks new
prune-among marks heads m old new p h = range-among marks heads old.current old.others new.current new.others p.cut p.ranges h

-- each mark behind the drops is one of those before
pub trims-among : (marks : List Mark) (by : ℕ) (heads : Heads) (c₀ : CacheState) (j₀ : List DemuxRecord) (c : CacheState) (j : List DemuxRecord) → Trims by heads c₀ j₀ c j
    → AreAmong marks c₀ → AreAmong marks c
trims-among marks by heads c₀ j₀ _ _ none a = a
trims-among marks by heads c₀ j₀ _ _ (more c j m c' before is p) a = prune-among marks heads m c c' p (trims-among marks by heads c₀ j₀ c j before a)

pub gives-among : (by : ℕ) (own : DemuxRecord) (heads : Heads) (ended : Choice) (old new : DemuxState) → Gives by own heads ended old new → AreAmong (marks_of old.cache) new.cache
gives-among by own heads ended old new g =
    trims-among (marks_of old.cache) by heads old.cache (old.journal ++ own ∷ []) new.cache new.journal g.trims (among_self old.cache)
