-- Over a film's list the ranges of a cache are those that the records of its calls leave.
use Rattle.std.proofs.Common.{◌≡◌, ℕ, zero, suc, ◌+◌, Bool, true, false, ◌&&◌, List, [], ◌∷◌, length, take, Option, Some, None, ℤ, refl, ap, sym, ◌∙◌, arith, inl, inr}
use Rattle.std.specs.Prelude.{IfSome, IsSomeAnd, if◌then◌else◌, is_some, map, nat_lt, not}
use Rattle.std.specs.List.{AllByRecursion, filter, find}
use Rattle.std.specs.Option.{option_map, option_map_or}
use Rattle.std.proofs.lemmas.Bool.{cases_Bool, lt-ltb}
use Rattle.std.proofs.lemmas.Bool.Decides.{nat_tests}
use Rattle.mc_packet.specs.declared.choice.Choice.{Choice}
use Rattle.mc_packet.specs.declared.choice.Dir.{Dir}
use Rattle.mc_packet.specs.declared.choice.Starts.{Starts}
use Rattle.mc_packet.specs.declared.packet.Packet.{Packet}
use Rattle.mc_packet.specs.declared.walk.Chunk.{Chunk}
use Rattle.mc_journal.specs.declared.record.Removal.{Removal}
use Rattle.mc_packet.specs.Choices.{is_distinct, is_empty, passes}
use Rattle.mc_journal.specs.Films.{IsRising, first}
use Rattle.mc_journal.specs.Ranges.{Range, held, serves as film_serves}
use Rattle.mc_journal.specs.Stands.{Stand, chosen, fed, fed_range, first_that, found_with, holds_any, keep_tracks, left, new_range, switched, ranges_of as stand_ranges, tidied, without_first as stand_without}
use Rattle.mc_queue.specs.Queue.{QueueState}
use Rattle.mc_range.specs.Range.{RangeState, IsBegun, IsRange, QueueIn, as_range, count, queue_of}
use Rattle.mc_range.specs.Serving.{HoldsFilm}
use Rattle.mc_range.specs.Growing.{IsFed}
use Rattle.mc_range.specs.Filmed.{IsPart, same_kinds}
use Rattle.mc_range.proofs.Films.{film_served}
use Rattle.mc_range.proofs.Chosen.{begun_ranges, begun_film}
use Rattle.mc_range.proofs.Fed.{fed_ranges, fed_film}
use Rattle.mc_range.proofs.Retracked.{kept_ranges, kept_film}
use Rattle.mc_range.specs.Tracks.{retracked}
use Rattle.mc_range.proofs.Unions.{video_is, audio_is, sub_is}
use Rattle.mc_cache.specs.Cache.{CacheState, IsCache, IsOther, holds, in_front, left_with, ranges_of, stand_of, without_first}
use Rattle.mc_cache.specs.Changing.{Feeds, IsChosen, IsLeft, IsRetracked, IsStarted, serves, server}
use Rattle.mc_cache.specs.Filmed.{HoldsAll, HoldsIn}
use Rattle.mc_cache.proofs.Lists.{all_held}

-- ---- lists of ranges

pub front_same : (c : Option RangeState) (rs : List RangeState) → option_map_or (λ r. r ∷ map as_range rs) (option_map as_range c) (map as_range rs) ≡ map as_range (in_front c rs)
front_same None rs = refl
front_same (Some r) rs = refl

all_front : (P : RangeState → Type 0) (c : Option RangeState) (rs : List RangeState) → IfSome c P → AllByRecursion P rs → AllByRecursion P (in_front c rs)
all_front P None rs i a = a
all_front P (Some r) rs i a = (i, a)

pub all_without : (P : RangeState → Type 0) (test : RangeState → Bool) (rs : List RangeState) → AllByRecursion P rs → AllByRecursion P (without_first test rs)
all_without P test [] a = a
all_without P test (r ∷ rs) a = elim (cases_Bool (test r)) [ inl y ↦ rw y a.1 | inr n ↦ rw n (a.0, all_without P test rs a.1) ]

all_filter : (P : RangeState → Type 0) (test : RangeState → Bool) (rs : List RangeState) → AllByRecursion P rs → AllByRecursion P (filter test rs)
all_filter P test [] a = a
all_filter P test (r ∷ rs) a = elim (cases_Bool (test r)) [ inl y ↦ rw y (a.0, all_filter P test rs a.1) | inr n ↦ rw n (all_filter P test rs a.1) ]

pub all_find : (P : RangeState → Type 0) (test : RangeState → Bool) (rs : List RangeState) → AllByRecursion P rs → IfSome (find test rs) P
all_find P test [] a = tt
all_find P test (r ∷ rs) a = elim (cases_Bool (test r)) [ inl y ↦ rw y a.0 | inr n ↦ rw n (all_find P test rs a.1) ]

all_taken : (P : RangeState → Type 0) (n : ℕ) (rs : List RangeState) → AllByRecursion P rs → AllByRecursion P (take n rs)
all_taken P zero rs a = tt
all_taken P (suc n) [] a = tt
all_taken P (suc n) (r ∷ rs) a = (a.0, all_taken P n rs a.1)

pub map_taken : (n : ℕ) (rs : List RangeState) → map as_range (take n rs) ≡ take n (map as_range rs)
map_taken zero rs = refl
map_taken (suc n) [] = refl
map_taken (suc n) (r ∷ rs) = ap (λ xs. as_range r ∷ xs) (map_taken n rs)

pub both_all : (P Q : RangeState → Type 0) (rs : List RangeState) → ((r : RangeState) → P r → Q r) → AllByRecursion P rs → AllByRecursion Q rs
both_all P Q [] f a = tt
both_all P Q (r ∷ rs) f a = (f r a.0, both_all P Q rs f a.1)

pub find_same : (test : RangeState → Bool) (seen : Range → Bool) (rs : List RangeState) → AllByRecursion (λ r. test r ≡ seen (as_range r)) rs
    → first_that seen (map as_range rs) ≡ option_map as_range (find test rs)
find_same test seen [] a = refl
find_same test seen (r ∷ rs) a = elim (cases_Bool (test r)) [
  | inl y ↦ let z : seen (as_range r) ≡ true = sym a.0 ∙ y in rw (y, z) refl
  | inr n ↦ let z : seen (as_range r) ≡ false = sym a.0 ∙ n in rw (n, z) (find_same test seen rs a.1)
]

pub without_same : (test : RangeState → Bool) (seen : Range → Bool) (rs : List RangeState) → AllByRecursion (λ r. test r ≡ seen (as_range r)) rs
    → stand_without seen (map as_range rs) ≡ map as_range (without_first test rs)
without_same test seen [] a = refl
without_same test seen (r ∷ rs) a = elim (cases_Bool (test r)) [
  | inl y ↦ let z : seen (as_range r) ≡ true = sym a.0 ∙ y in rw (y, z) refl
  | inr n ↦ let z : seen (as_range r) ≡ false = sym a.0 ∙ n in rw (n, z) (ap (λ xs. as_range r ∷ xs) (without_same test seen rs a.1))
]

pub filter_same : (test : RangeState → Bool) (seen : Range → Bool) (rs : List RangeState) → AllByRecursion (λ r. test r ≡ seen (as_range r)) rs
    → filter seen (map as_range rs) ≡ map as_range (filter test rs)
filter_same test seen [] a = refl
filter_same test seen (r ∷ rs) a = elim (cases_Bool (test r)) [
  | inl y ↦ let z : seen (as_range r) ≡ true = sym a.0 ∙ y in rw (y, z) (ap (λ xs. as_range r ∷ xs) (filter_same test seen rs a.1))
  | inr n ↦ let z : seen (as_range r) ≡ false = sym a.0 ∙ n in rw (n, z) (filter_same test seen rs a.1)
]

-- ---- whether a range holds a packet

some_told : (ps : List Packet) → is_some (first (ps)) ≡ nat_lt 0 (length ps)
some_told [] = refl
some_told (p ∷ ps) = sym (lt-ltb 0 (length (p ∷ ps)) (omega arith))

-- of each kind: nothing there where it has no track, else its queue's packets
kind_told : (ps : List Packet) (r : RangeState) (track : Option ℕ) (q : Option QueueState) → HoldsFilm ps r → QueueIn track r.mark q → ((k : ℕ) → track ≡ Some k → queue_of k r.queues ≡ q)
    → passes track (λ k. not (is_some (first (held (as_range r) ps k)))) ≡ not (nat_lt 0 (count q))
kind_told ps r None None h i f = refl
kind_told ps r None (Some q) h i f = absurd (let e = i.0 in cc)
kind_told ps r (Some k) None h i f =
    let e = h k in
    let g = f k refl in
    rw (e, g) refl
kind_told ps r (Some k) (Some q) h i f =
    let e = h k in
    let g = f k refl in
    let s = some_told q.packets in
    rw (e, g) (ap (λ b. not b) s)

none_of : (a b c : ℕ) → not (not (nat_lt 0 a) && (not (nat_lt 0 b) && not (nat_lt 0 c))) ≡ nat_lt 0 (a + (b + c))
none_of a b c = elim (cases_Bool (nat_lt 0 (a + (b + c)))) [
  | inl y ↦ grind (arith, nat_tests)
  | inr n ↦ grind (arith, nat_tests)
]

pub holds_same : (ps : List Packet) (set : Choice) (r : RangeState) → IsRange r → HoldsIn ps set r → holds r ≡ holds_any ps set (as_range r)
holds_same ps set r i h =
    let v = kind_told ps r r.set.video r.queues.video h.film i.held.video (λ k e. video_is r k i e) in
    let a = kind_told ps r r.set.audio r.queues.audio h.film i.held.audio (λ k e. audio_is r k i e) in
    let s = kind_told ps r r.set.sub r.queues.sub h.film i.held.sub (λ k e. sub_is r k i e) in
    let e = h.set_is in
    let n = none_of (count r.queues.video) (count r.queues.audio) (count r.queues.sub) in
    let w : holds_any ps r.set (as_range r) ≡ holds r = rw (v, a, s) n in
    rw (← e) (sym w)

-- ---- all ranges of a cache

pub record Held (ps : List Packet) (set : Choice) (r : RangeState) : Type 0 where
  pub range : IsRange r
  pub film : HoldsIn ps set r

pub pair_all : (ps : List Packet) (set : Choice) (rs : List RangeState) → AllByRecursion IsOther rs → AllByRecursion (HoldsIn ps set) rs → AllByRecursion (Held ps set) rs
pair_all ps set [] a b = tt
pair_all ps set (r ∷ rs) a b = (record { range = a.0.range; film = b.0 }, pair_all ps set rs a.1 b.1)

pub all_of : (ps : List Packet) (set : Choice) (st : CacheState) → IsCache st → HoldsAll ps set st → AllByRecursion (Held ps set) (ranges_of st)
all_of ps set st i h = front st.current i.current h.current
  where
    front : (c : Option RangeState) → IfSome c IsRange → IfSome c (HoldsIn ps set) → AllByRecursion (Held ps set) (in_front c st.others)
    front None a b = pair_all ps set st.others i.others h.others
    front (Some r) a b = (record { range = a; film = b }, pair_all ps set st.others i.others h.others)

-- ---- left and chosen

left_kept : (c : Option RangeState) (rs : List RangeState) → AllByRecursion IsOther rs → left_with c rs ≡ filter holds (in_front c rs)
left_kept None rs a = sym (all_held rs a)
left_kept (Some r) rs a = elim (cases_Bool (holds r)) [
  | inl y ↦ rw y (ap (λ xs. r ∷ xs) (sym (all_held rs a)))
  | inr n ↦ rw n (sym (all_held rs a))
]

pub stand_is : (c d : Option Range) (rs qs : List Range) → c ≡ d → rs ≡ qs → (let s : Stand = record { current = c; others = rs } in s) ≡ (let s : Stand = record { current = d; others = qs } in s)
stand_is c d rs qs e f = rw (e, f) refl

pub left_stand : (ps : List Packet) (set : Choice) (old new : CacheState) → IsCache old → HoldsAll ps set old → IsLeft old new → stand_of new ≡ tidied ps set (left (stand_of old))
left_stand ps set old new i h l =
    let a = all_of ps set old i h in
    let k = both_all (Held ps set) (λ r. holds r ≡ holds_any ps set (as_range r)) (ranges_of old) (λ r x. holds_same ps set r x.range x.film) a in
    let f = filter_same holds (holds_any ps set) (ranges_of old) k in
    stand_is (option_map as_range new.current) None (map as_range new.others) (filter (holds_any ps set) (stand_ranges (stand_of old)))
    (ap (λ c. option_map as_range c) l.no_current)
    (ap (λ rs. map as_range rs) (l.others_is ∙ left_kept old.current old.others i.others) ∙ sym f ∙ ap (λ rs. filter (holds_any ps set) rs) (sym (front_same old.current old.others)))

pub left_holds : (ps : List Packet) (set : Choice) (old new : CacheState) → IsCache old → HoldsAll ps set old → IsLeft old new → HoldsAll ps set new
left_holds ps set old new i h l =
    let a = all_front (HoldsIn ps set) old.current old.others h.current h.others in
    let c = l.no_current in
    let o = l.others_is ∙ left_kept old.current old.others i.others in
    record { current = rw c tt; others = rw o (all_filter (HoldsIn ps set) holds (ranges_of old) a) }

pub server_film : (ps : List Packet) (set : Choice) (t : ℤ) (dir : Dir) (st : CacheState) → IsCache st → HoldsAll ps set st
    → first_that (film_serves ps set dir t) (stand_ranges (stand_of st)) ≡ option_map as_range (server set t dir st)
server_film ps set t dir st i h =
    let a = all_of ps set st i h in
    let k = both_all (Held ps set) (λ r. serves set t dir r ≡ film_serves ps set dir t (as_range r)) (ranges_of st) (λ r x. film_served ps r set t dir x.film.film) a in
    ap (λ rs. first_that (film_serves ps set dir t) rs) (front_same st.current st.others) ∙ find_same (serves set t dir) (film_serves ps set dir t) (ranges_of st) k

pub chosen_stand : (ps : List Packet) (set : Choice) (t : ℤ) (dir : Dir) (old new : CacheState) → IsCache old → HoldsAll ps set old → IsChosen set t dir old new
    → stand_of new ≡ tidied ps set (chosen (film_serves ps set dir t) (stand_of old))
chosen_stand ps set t dir old new i h c =
    let a = all_of ps set old i h in
    let s = both_all (Held ps set) (λ r. serves set t dir r ≡ film_serves ps set dir t (as_range r)) (ranges_of old) (λ r x. film_served ps r set t dir x.film.film) a in
    let w = without_same (serves set t dir) (film_serves ps set dir t) (ranges_of old) s in
    let b = all_without (Held ps set) (serves set t dir) (ranges_of old) a in
    let k = both_all (Held ps set) (λ r. holds r ≡ holds_any ps set (as_range r)) (without_first (serves set t dir) (ranges_of old)) (λ r x. holds_same ps set r x.range x.film) b in
    let f = filter_same holds (holds_any ps set) (without_first (serves set t dir) (ranges_of old)) k in
    stand_is (option_map as_range new.current) (first_that (film_serves ps set dir t) (stand_ranges (stand_of old))) (map as_range new.others)
    (filter (holds_any ps set) (stand_without (film_serves ps set dir t) (stand_ranges (stand_of old))))
    (ap (λ x. option_map as_range x) c.current_is ∙ sym (server_film ps set t dir old i h))
    (ap (λ rs. map as_range rs) c.others_is ∙ sym f ∙ ap (λ rs. filter (holds_any ps set) rs) (sym w)
    ∙ ap (λ rs. filter (holds_any ps set) (stand_without (film_serves ps set dir t) rs)) (sym (front_same old.current old.others)))

pub chosen_holds : (ps : List Packet) (set : Choice) (t : ℤ) (dir : Dir) (old new : CacheState) → HoldsAll ps set old → IsChosen set t dir old new → HoldsAll ps set new
chosen_holds ps set t dir old new h c =
    let a = all_front (HoldsIn ps set) old.current old.others h.current h.others in
    let e = c.current_is in
    let o = c.others_is in
    record {
      current = rw e (all_find (HoldsIn ps set) (serves set t dir) (ranges_of old) a);
      others = rw o (all_filter (HoldsIn ps set) holds (without_first (serves set t dir) (ranges_of old)) (all_without (HoldsIn ps set) (serves set t dir) (ranges_of old) a));
    }

-- ---- started, where no range is current

begun_is : (set : Choice) (starts : Starts) (c : Option RangeState) → is_distinct set ≡ true → IsSomeAnd c (λ r. IsBegun set starts r) → option_map as_range c ≡ Some (new_range set starts)
begun_is set starts None d b = absurd b
begun_is set starts (Some r) d b = ap (λ x. Some x) (begun_ranges set starts r d b)

begun_holds : (ps : List Packet) (set : Choice) (starts : Starts) (c : Option RangeState) → IsSomeAnd c (λ r. IsBegun set starts r) → IfSome c (HoldsIn ps set)
begun_holds ps set starts None b = tt
begun_holds ps set starts (Some r) b = record { film = begun_film ps set starts r b; set_is = b.set_is }

pub started_stand : (set : Choice) (starts : Starts) (drops : List Removal) (old new : CacheState) → is_distinct set ≡ true → old.current ≡ None → IsStarted set starts drops old new
    → stand_of new ≡ found_with set starts (stand_of old).others None
started_stand set starts drops old new d n s =
    stand_is (option_map as_range new.current) (Some (new_range set starts)) (map as_range new.others) (take 9 (map as_range old.others))
    (begun_is set starts new.current d s.current)
    (ap (λ rs. map as_range rs) (s.others_is ∙ ap (λ c. take 9 (left_with c old.others)) n) ∙ map_taken 9 old.others)

pub started_holds : (ps : List Packet) (set : Choice) (starts : Starts) (drops : List Removal) (old new : CacheState) → old.current ≡ None → HoldsAll ps set old → IsStarted set starts drops old new → HoldsAll ps set new
started_holds ps set starts drops old new n h s =
    let o : new.others ≡ take 9 old.others = s.others_is ∙ ap (λ c. take 9 (left_with c old.others)) n in
    record { current = begun_holds ps set starts new.current s.current; others = rw o (all_taken (HoldsIn ps set) 9 old.others h.others) }

-- ---- fed

fed_is : (c : Chunk) (a b : Option RangeState) → IsSomeAnd a (λ o. IsSomeAnd b (λ n. IsFed c o n)) → option_map as_range b ≡ option_map (fed_range c.to.pos c.ending) (option_map as_range a)
fed_is c None b f = absurd f
fed_is c (Some o) None f = absurd f
fed_is c (Some o) (Some n) f = ap (λ x. Some x) (fed_ranges c o n f)

fed_holds_in : (ps : List Packet) (set : Choice) (c : Chunk) (a b : Option RangeState) → IsRising ps → IsPart ps c → IsSomeAnd a (λ o. c.from ≡ o.mark) → IfSome a IsRange → IfSome a (HoldsIn ps set)
    → IsSomeAnd a (λ o. IsSomeAnd b (λ n. IsFed c o n)) → IfSome b (HoldsIn ps set)
fed_holds_in ps set c None b r p m i h f = absurd f
fed_holds_in ps set c (Some o) None r p m i h f = absurd f
fed_holds_in ps set c (Some o) (Some n) r p m i h f = record { film = fed_film ps c o n r p m i f h.film; set_is = f.set_is ∙ h.set_is }

pub fed_stand : (chunk : Chunk) (old new : CacheState) → Feeds chunk old new → stand_of new ≡ fed chunk.to.pos chunk.ending (stand_of old)
fed_stand chunk old new f =
    stand_is (option_map as_range new.current) (option_map (fed_range chunk.to.pos chunk.ending) (option_map as_range old.current)) (map as_range new.others) (map as_range old.others)
    (fed_is chunk old.current new.current f.current) (ap (λ rs. map as_range rs) f.others_is)

pub fed_holds : (ps : List Packet) (set : Choice) (chunk : Chunk) (old new : CacheState) → IsRising ps → IsPart ps chunk → IsCache old → IsSomeAnd old.current (λ r. chunk.from ≡ r.mark) → HoldsAll ps set old → Feeds chunk old new
    → HoldsAll ps set new
fed_holds ps set chunk old new r p i m h f =
    let o = f.others_is in
    record { current = fed_holds_in ps set chunk old.current new.current r p m i.current h.current f.current; others = rw o h.others }

-- ---- other tracks

switched_is : (set next : Choice) (c : Option RangeState) → IfSome c IsRange → IfSome c (λ r. r.set ≡ set) → same_kinds set next ≡ true
    → option_map as_range (option_map (retracked next) c) ≡ option_map (keep_tracks next) (option_map as_range c)
switched_is set next None i e k = refl
switched_is set next (Some r) i e k = ap (λ x. Some x) (kept_ranges next r i (rw e k))

empty_is : (b : Bool) (c : Option RangeState) → option_map as_range (if b then None else c) ≡ (if b then None else option_map as_range c)
empty_is true c = refl
empty_is false c = refl

sets_of : (ps : List Packet) (set : Choice) (c : Option RangeState) → IfSome c (HoldsIn ps set) → IfSome c (λ r. r.set ≡ set)
sets_of ps set None h = tt
sets_of ps set (Some r) h = h.set_is

pub switched_stand : (ps : List Packet) (set next : Choice) (drops : List Removal) (old new : CacheState) → IsCache old → HoldsAll ps set old → same_kinds set next ≡ true → IsRetracked next drops old new → stand_of new ≡ switched next (stand_of old)
switched_stand ps set next drops old new i h k r =
    let e = switched_is set next old.current i.current (sets_of ps set old.current h.current) k in
    stand_is (option_map as_range new.current) (if is_empty next then None else option_map (keep_tracks next) (option_map as_range old.current)) (map as_range new.others) []
    (ap (λ c. option_map as_range c) r.current_is ∙ empty_is (is_empty next) (option_map (retracked next) old.current) ∙ ap (λ c. if is_empty next then None else c) e)
    (ap (λ rs. map as_range rs) r.no_others)

kept_holds : (ps : List Packet) (set next : Choice) (c : Option RangeState) → IfSome c IsRange → IfSome c (HoldsIn ps set) → same_kinds set next ≡ true → IfSome (option_map (retracked next) c) (HoldsIn ps next)
kept_holds ps set next None i h k = tt
kept_holds ps set next (Some r) i h k = let e = h.set_is in record { film = kept_film ps next r i (rw e k) h.film; set_is = refl }

if_holds : (ps : List Packet) (set : Choice) (b : Bool) (c : Option RangeState) → IfSome c (HoldsIn ps set) → IfSome (if b then None else c) (HoldsIn ps set)
if_holds ps set true c h = tt
if_holds ps set false c h = h

pub switched_holds : (ps : List Packet) (set next : Choice) (drops : List Removal) (old new : CacheState) → IsCache old → HoldsAll ps set old → same_kinds set next ≡ true → IsRetracked next drops old new → HoldsAll ps next new
switched_holds ps set next drops old new i h k r =
    let e = r.current_is in
    let o = r.no_others in
    record {
      current = rw e (if_holds ps next (is_empty next) (option_map (retracked next) old.current) (kept_holds ps set next old.current i.current h.current k));
      others = rw o tt;
    }
