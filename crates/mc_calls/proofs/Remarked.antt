-- Which marks the ranges have behind what calls do to them.
use Rattle.std.proofs.Common.{◌≡◌, ℕ, ℤ, Option, Some, None, List, [], ◌∷◌, ◌++◌, ap, sym, subst}
use Rattle.std.specs.Prelude.{Contains, IfSome, IsSomeAnd, nat_lt, option_map}
use Rattle.std.specs.List.{AllByRecursion}
use Rattle.std.proofs.lemmas.Bool.{cond_both}
use Rattle.mc_packet.specs.declared.cache.Heads.{Heads}
use Rattle.mc_packet.specs.declared.choice.Choice.{Choice}
use Rattle.mc_packet.specs.declared.choice.Dir.{Dir}
use Rattle.mc_packet.specs.declared.choice.Kind.{Kind}
use Rattle.mc_packet.specs.declared.choice.Kind.TheVariants.{Video, Audio, Sub}
use Rattle.mc_packet.specs.declared.choice.Starts.{Starts}
use Rattle.mc_packet.specs.declared.walk.Chunk.{Chunk}
use Rattle.mc_packet.specs.declared.walk.Mark.{Mark}
use Rattle.mc_journal.specs.declared.record.DemuxRecord.{DemuxRecord}
use Rattle.mc_journal.specs.declared.record.DemuxRecord.TheVariants.{Fed, Sought}
use Rattle.mc_journal.specs.declared.record.Removal.{Removal}
use Rattle.mc_journal.specs.declared.record.Sought.{Sought as How}
use Rattle.mc_packet.specs.Choices.{is_empty}
use Rattle.mc_range.specs.Range.{RangeState, IsBegun, meets_range}
use Rattle.mc_range.specs.Growing.{IsFed}
use Rattle.mc_range.specs.Joining.{greater}
use Rattle.mc_range.specs.Tracks.{IsAdded, retracked}
use Rattle.mc_cache.specs.Cache.{CacheState, in_front, left_with, ranges_of}
use Rattle.mc_cache.specs.Changing.{ChangesCurrent, IsRetracked, IsSameButRoom, IsStarted, RoomierIn}
use Rattle.mc_cache.specs.Joining.{Joins, JoinsFrom}
use Rattle.mc_cache.specs.Joining.Joins.{parted, united as joins_united, unjoined}
use Rattle.mc_cache.proofs.Standing.{all_find, all_without}
use Rattle.mc_calls.specs.Feeding.{TakesPart}
use Rattle.mc_calls.specs.Finding.{AddsOne, AddsTracks, BeginsBy, TakesStarts}
use Rattle.mc_calls.specs.Keeping.{IsAsBefore, IsRoomy}
use Rattle.mc_calls.specs.Marks.{AreAmong, marks_of}
use Rattle.mc_calls.specs.Outcomes.{heads_at, took_in}
use Rattle.mc_calls.specs.Seeking.{Goes, heads_after}
use Rattle.mc_calls.specs.Selecting.{Switches, own_records, told_drops}
use Rattle.mc_calls.specs.Settling.{Settles}
use Rattle.mc_calls.specs.State.{DemuxState}
use Rattle.mc_calls.proofs.Among.{Among, among_same, among_self, further, head_in, trims-among}
use Rattle.mc_calls.proofs.Sought.{all_front, all_left, turned_all}
use Rattle.mc_calls.proofs.Starting.{all_taken}

-- ---- room

roomier_front : (marks : List Mark) (o n : Option RangeState) (rs : List RangeState) → RoomierIn o n → AllByRecursion (Among marks) (in_front o rs) → AllByRecursion (Among marks) (in_front n rs)
roomier_front marks None n rs r a = subst (λ (x : Option RangeState). AllByRecursion (Among marks) (in_front x rs)) (sym r) a
roomier_front marks (Some x) None rs r a = absurd r
roomier_front marks (Some x) (Some y) rs r a = (subst (λ (m : Mark). Contains marks m) (sym r.mark_is) a.0, a.1)

pub roomy_among : (marks : List Mark) (old new : CacheState) → IsSameButRoom old new → AreAmong marks old → AreAmong marks new
roomy_among marks old new s a =
    subst (λ (rs : List RangeState). AllByRecursion (Among marks) (in_front new.current rs)) (sym s.others_is) (roomier_front marks old.current new.current old.others s.current a)

pub as_before_among : (old new : DemuxState) → IsAsBefore old new → AreAmong (marks_of old.cache) new.cache
as_before_among old new s = roomy_among (marks_of old.cache) old.cache new.cache s.cache_is (among_self old.cache)

pub spare_among : (old new : DemuxState) → IsRoomy old new → AreAmong (marks_of old.cache) new.cache
spare_among old new r = among_same old.cache new.cache (ap (λ (d : DemuxState). d.cache) r.changed)

pub before_more : (m : Mark) (old new : DemuxState) → IsAsBefore old new → AreAmong (m ∷ marks_of old.cache) new.cache
before_more m old new s = further m (marks_of old.cache) (ranges_of new.cache) (as_before_among old new s)

-- ---- joins

greater_in : (marks : List Mark) (a b : Mark) → Contains marks a → Contains marks b → Contains marks (greater a b)
greater_in marks a b p q = cond_both (nat_lt a.pos b.pos) b a (Contains marks) (λ e. q) (λ e. p)

found_in : (marks : List Mark) (f : Option RangeState) (o : RangeState) → f ≡ Some o → IfSome f (Among marks) → Among marks o
found_in marks f o e h = subst (λ (x : Option RangeState). IfSome x (Among marks)) e h

joins_among : (marks : List Mark) (first : RangeState) (beside : List RangeState) (r : RangeState) (rs : List RangeState) (n : ℕ) (drops : List Removal) → Joins first beside r rs n drops
    → AllByRecursion (Among marks) (first ∷ beside) → AllByRecursion (Among marks) (r ∷ rs)
joins_among marks first beside _ _ _ _ unjoined a = a
joins_among marks first beside _ _ _ _ (joins_united r rs n drops o r' o' j e u i) a =
    let before = joins_among marks first beside r rs n drops j a in
    let other = found_in marks _ o e (all_find (Among marks) (meets_range r) rs before.1) in (
      subst (λ (m : Mark). Contains marks m) (sym u.mark_is) (greater_in marks r.mark o.mark before.0 other),
      all_without (Among marks) (meets_range r) rs before.1,
    )
joins_among marks first beside _ _ _ _ (parted r rs n drops o r' at ours other j e u d i) a =
    let before = joins_among marks first beside r rs n drops j a in
    (subst (λ (m : Mark). Contains marks m) (sym d.mark_is) before.0, all_without (Among marks) (meets_range r) rs before.1)

joined_among : (marks : List Mark) (o n : Option RangeState) (rs qs : List RangeState) (number : ℕ) (drops : List Removal) → JoinsFrom o rs n qs number drops
    → AllByRecursion (Among marks) (in_front o rs) → AllByRecursion (Among marks) (in_front n qs)
joined_among marks None n rs qs number drops j a =
    subst (λ (x : Option RangeState). AllByRecursion (Among marks) (in_front x qs)) (sym j.0) (subst (λ (xs : List RangeState). AllByRecursion (Among marks) xs) (sym j.1) a)
joined_among marks (Some r) None rs qs number drops j a = absurd j
joined_among marks (Some r) (Some q) rs qs number drops j a = joins_among marks r rs q qs number drops j.0 a

-- joins, and the drops that the limit asks for then
pub settles_among : (marks : List Mark) (by : ℕ) (heads : Heads) (c₀ : CacheState) (j₀ : List DemuxRecord) (c : CacheState) (j : List DemuxRecord) → Settles by heads c₀ j₀ c j
    → AreAmong marks c₀ → AreAmong marks c
settles_among marks by heads c₀ j₀ c j s a =
    let up = s.joins.joins in
    trims-among marks by heads s.cache s.journal c j s.trims
    (joined_among marks up.roomy.current s.cache.current up.roomy.others s.cache.others s.joins.number s.joins.drops up.joins (roomy_among marks c₀ up.roomy up.room a))

-- ---- the current range changes

changed_front : (P : RangeState → Type 0) (change : RangeState → RangeState → Type 0) (o n : Option RangeState) (rs : List RangeState) → ((a b : RangeState) → change a b → P a → P b)
    → IsSomeAnd o (λ a. IsSomeAnd n (λ b. change a b)) → AllByRecursion P (in_front o rs) → AllByRecursion P (in_front n rs)
changed_front P change None n rs f c h = absurd c
changed_front P change (Some a) None rs f c h = absurd c
changed_front P change (Some a) (Some b) rs f c h = (f a b c h.0, h.1)

changes_all : (P : RangeState → Type 0) (change : RangeState → RangeState → Type 0) (old new : CacheState) → ((a b : RangeState) → change a b → P a → P b) → ChangesCurrent change old new
    → AllByRecursion P (ranges_of old) → AllByRecursion P (ranges_of new)
changes_all P change old new f c h =
    subst (λ (rs : List RangeState). AllByRecursion P (in_front new.current rs)) (sym c.others_is) (changed_front P change old.current new.current old.others f c.current h)

-- ---- a part of the film

pub part_among : (chunk : Chunk) (old new : DemuxState) (marks : List Mark) → TakesPart chunk old new → AreAmong marks old.cache → AreAmong (chunk.to ∷ marks) new.cache
part_among chunk old new marks t a =
    let all = chunk.to ∷ marks in
    let fed = changes_all (Among all) (λ o n. IsFed chunk o n) old.cache t.fed (λ o n f h. subst (λ (m : Mark). Contains all m) (sym f.mark_is) (head_in chunk.to marks)) t.feeds
    (further chunk.to marks (ranges_of old.cache) a) in
    settles_among all 5 old.heads t.fed (old.journal ++ Fed 5 chunk.from chunk.to (took_in chunk old.cache.current) chunk.ending ∷ []) new.cache new.journal t.settles fed

-- ---- starts

added_mark : (marks : List Mark) (kind : Kind) (track start : ℕ) (mark : Mark) (o n : RangeState) → Contains marks mark → IsAdded kind track start mark o n → Among marks o → Among marks n
added_mark marks kind track start mark o n m i h =
    subst (λ (x : Mark). Contains marks x) (sym i.mark_is) (cond_both (nat_lt mark.pos o.mark.pos) mark o.mark (Contains marks) (λ e. m) (λ e. h))

added_among : (marks : List Mark) (kind : Kind) (track start : Option ℕ) (mark : Mark) (old new : CacheState) → Contains marks mark → AddsOne kind track start mark old new
    → AreAmong marks old → AreAmong marks new
added_among marks kind None start mark old new m e a = subst (AreAmong marks) (sym e) a
added_among marks kind (Some track) None mark old new m e a = subst (AreAmong marks) (sym e) a
added_among marks kind (Some track) (Some start) mark old new m c a =
    changes_all (Among marks) (λ o n. IsAdded kind track start mark o n) old new (λ o n i h. added_mark marks kind track start mark o n m i h) c a

tracks_among : (marks : List Mark) (added : Choice) (starts : Starts) (old new : CacheState) → Contains marks starts.mark → AddsTracks added starts old new → AreAmong marks old → AreAmong marks new
tracks_among marks added starts old new m t a =
    let video = added_among marks Video added.video starts.video starts.mark old t.one m t.video a in
    let audio = added_among marks Audio added.audio starts.audio starts.mark t.one t.two m t.audio video in
    added_among marks Sub added.sub starts.sub starts.mark t.two new m t.sub audio

begun_in : (marks : List Mark) (set : Choice) (starts : Starts) (o : Option RangeState) → Contains marks starts.mark → IsSomeAnd o (λ r. IsBegun set starts r) → IfSome o (Among marks)
begun_in marks set starts None m b = absurd b
begun_in marks set starts (Some r) m b = subst (λ (x : Mark). Contains marks x) (sym b.mark_is) m

pub started_among : (marks : List Mark) (set : Choice) (starts : Starts) (drops : List Removal) (old new : CacheState) → Contains marks starts.mark → IsStarted set starts drops old new
    → AreAmong marks old → AreAmong marks new
started_among marks set starts drops old new m s a =
    all_front (Among marks) new.current new.others (begun_in marks set starts new.current m s.current)
    (subst (λ (rs : List RangeState). AllByRecursion (Among marks) rs) (sym s.others_is)
    (all_taken (Among marks) 9 (left_with old.current old.others) (all_left (Among marks) old.current old.others a)))

begins_among : (marks : List Mark) (set added : Choice) (starts : Starts) (current : Option RangeState) (c₀ : CacheState) (j₀ : List DemuxRecord) (c : CacheState) (j : List DemuxRecord)
    → Contains marks starts.mark → BeginsBy set added starts current c₀ j₀ c j → AreAmong marks c₀ → AreAmong marks c
begins_among marks set added starts None c₀ j₀ c j m b a = started_among marks set starts b.drops c₀ c m b.started a
begins_among marks set added starts (Some r) c₀ j₀ c j m b a = tracks_among marks added starts c₀ c m b.0 a

pub starts_among : (starts : Starts) (old new : DemuxState) (marks : List Mark) → TakesStarts starts old new → AreAmong marks old.cache → AreAmong (starts.mark ∷ marks) new.cache
starts_among starts old new marks t a =
    let all = starts.mark ∷ marks in
    let begun = begins_among all old.set old.waiting starts old.cache.current old.cache old.journal t.begun t.journal (head_in starts.mark marks) t.begins
    (further starts.mark marks (ranges_of old.cache) a) in
    settles_among all 5 (heads_at starts old.heads) t.begun t.journal new.cache new.journal t.settles begun

-- ---- other tracks

kept_among : (marks : List Mark) (set : Choice) (o : Option RangeState) (rs : List RangeState) → AllByRecursion (Among marks) (in_front o rs)
    → AllByRecursion (Among marks) (in_front (option_map (retracked set) o) [])
kept_among marks set None rs a = tt
kept_among marks set (Some r) rs a = (a.0, tt)

retracked_among : (marks : List Mark) (set : Choice) (drops : List Removal) (old new : CacheState) → IsRetracked set drops old new → AreAmong marks old → AreAmong marks new
retracked_among marks set drops old new i a =
    let only = λ (o : Option RangeState). AllByRecursion (Among marks) (in_front o []) in
    let left = cond_both (is_empty set) None (option_map (retracked set) old.current) only (λ e. tt) (λ e. kept_among marks set old.current old.others a) in
    subst (λ (rs : List RangeState). AllByRecursion (Among marks) (in_front new.current rs)) (sym i.no_others) (subst only (sym i.current_is) left)

pub switches_within : (marks : List Mark) (by : ℕ) (set : Choice) (at : ℤ) (old new : DemuxState) → Switches by set at old new → AreAmong marks old.cache → AreAmong marks new.cache
switches_within marks by set at old new s a =
    trims-among marks by old.heads s.left (old.journal ++ (own_records by set at old ++ told_drops by s.drops)) new.cache new.journal s.trims
    (retracked_among marks set s.drops old.cache s.left s.retracked a)

pub switches_among : (by : ℕ) (set : Choice) (at : ℤ) (old new : DemuxState) → Switches by set at old new → AreAmong (marks_of old.cache) new.cache
switches_among by set at old new s = switches_within (marks_of old.cache) by set at old new s (among_self old.cache)

-- ---- a seek

pub goes_within : (marks : List Mark) (by : ℕ) (t : ℤ) (dir : Dir) (how : How) (old new : DemuxState) → Goes by t dir how old new → AreAmong marks old.cache → AreAmong marks new.cache
goes_within marks by t dir how old new g a =
    trims-among marks by (heads_after t dir old) g.turned (old.journal ++ Sought by old.set t dir how ∷ []) new.cache new.journal g.trims
    (turned_all (Among marks) old.set t dir how old.cache g.turned g.turns a)

pub goes_among : (by : ℕ) (t : ℤ) (dir : Dir) (how : How) (old new : DemuxState) → Goes by t dir how old new → AreAmong (marks_of old.cache) new.cache
goes_among by t dir how old new g = goes_within (marks_of old.cache) by t dir how old new g (among_self old.cache)
