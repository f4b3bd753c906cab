-- Over a film's list the removals of a start and of a selection tell the drops that are due, in their order.
use Rattle.std.proofs.Common.{◌≡◌, ℕ, zero, suc, ◌==◌, Bool, true, false, ◌&&◌, ◌||◌, not, List, [], ◌∷◌, ◌++◌, drop, Option, Some, None, refl, ap, sym, subst, ◌∙◌, inl, inr}
use Rattle.std.specs.Prelude.{IfSome, if◌then◌else◌, is_some, map, nat_le}
use Rattle.std.specs.List.{AllByRecursion}
use Rattle.std.specs.Option.{option_map, option_map_or}
use Rattle.std.proofs.lemmas.Bool.{cases_Bool, eqb-true, eq-eqb, and_parts}
use Rattle.std.proofs.lemmas.List.{map-append}
use Rattle.mc_packet.specs.declared.packet.Packet.{Packet}
use Rattle.mc_packet.specs.declared.choice.Choice.{Choice}
use Rattle.mc_packet.specs.declared.choice.Starts.{Starts}
use Rattle.mc_journal.specs.declared.record.Cause.{Cause}
use Rattle.mc_journal.specs.declared.record.Cause.TheVariants.{TooMany, TrackChanged}
use Rattle.mc_journal.specs.declared.record.Removal.{Removal}
use Rattle.mc_packet.specs.Choices.{has, is_other, is_track}
use Rattle.mc_journal.specs.Choices.{kept_of, kept_track}
use Rattle.mc_journal.specs.Films.{first, rank}
use Rattle.mc_journal.specs.Ranges.{Range, held}
use Rattle.mc_journal.specs.Used as used
use Rattle.mc_journal.specs.Used.{Due, due_found, due_range, due_ranges, due_span, due_switch, due_track}
use Rattle.mc_queue.specs.Queue.{QueueState}
use Rattle.mc_range.specs.Range.{RangeState, IsRange, QueueIn, as_range, queue_of, span_of}
use Rattle.mc_range.specs.Serving.{HoldsFilm, packets_in}
use Rattle.mc_range.specs.Filmed.{same_kinds}
use Rattle.mc_range.proofs.Unions.{video_is, audio_is, sub_is}
use Rattle.mc_cache.specs.Cache.{CacheState, IsCache, IsOther, left_with, stand_of}
use Rattle.mc_cache.specs.Changing.{IsRetracked, IsStarted}
use Rattle.mc_cache.specs.Filmed.{HoldsAll, HoldsIn}
use Rattle.mc_cache.specs.Placed.{due_of}
use Rattle.mc_cache.specs.Removals.{lost_queue, lost_queues, put_in, put_all, removal_if, removal_in, removals_in, removals_lost, removals_of, removals_of_all}

-- ---- by rising track

put_told : (d : Removal) (es : List Removal) → map due_of (put_in d es) ≡ used.put_in (due_of d) (map due_of es)
put_told d [] = refl
put_told d (e ∷ es) = elim (cases_Bool (nat_le d.track e.track)) [
  | inl y ↦ rw y refl
  | inr n ↦ rw n (ap (λ xs. due_of e ∷ xs) (put_told d es))
]

all_told : (ds es : List Removal) → map due_of (put_all ds es) ≡ used.put_all (map due_of ds) (map due_of es)
all_told [] es = refl
all_told (d ∷ ds) es = put_told d (put_all ds es) ∙ ap (λ xs. used.put_in (due_of d) xs) (all_told ds es)

three_told : (v a s : List Removal) (x y z : List Due) → map due_of v ≡ x → map due_of a ≡ y → map due_of s ≡ z
    → map due_of (put_all v (put_all a s)) ≡ used.put_all x (used.put_all y z)
three_told v a s x y z e f g =
    all_told v (put_all a s) ∙ ap (λ xs. used.put_all (map due_of v) xs) (all_told a s)
    ∙ ap (λ xs. used.put_all xs (used.put_all (map due_of a) (map due_of s))) e
    ∙ ap (λ xs. used.put_all x (used.put_all xs (map due_of s))) f
    ∙ ap (λ xs. used.put_all x (used.put_all y xs)) g

-- ---- a queue

queue_told : (cause : Cause) (k : ℕ) (q : QueueState) → q.track ≡ k → map due_of (removal_in cause (Some q)) ≡ due_span cause k (Some (span_of q)) (is_some (first (q.packets)))
queue_told cause k q e = by q.packets
  where
    by : (ps : List Packet) → map due_of (removal_if cause q.track q.from q.to ps) ≡ due_span cause k (Some (span_of q)) (is_some (first (ps)))
    by [] = refl
    by (p ∷ ps) = ap (λ n. let d : Due = record { track = n; from = rank q.from; to = rank q.to; cause = cause } in d ∷ []) e

own_track : (t : Option ℕ) (q : QueueState) (k : ℕ) → t ≡ Some q.track → t ≡ Some k → q.track ≡ k
own_track t q k e f = let g : Some q.track ≡ Some k = sym e ∙ f in cc

kind_told : (cause : Cause) (ps : List Packet) (r : RangeState) (t : Option ℕ) (o : Option QueueState) → HoldsFilm ps r → QueueIn t r.mark o → ((k : ℕ) → t ≡ Some k → queue_of k r.queues ≡ o)
    → map due_of (removal_in cause o) ≡ due_track cause ps (as_range r) t
kind_told cause ps r None None h i f = refl
kind_told cause ps r None (Some q) h i f = absurd (let e = i.0 in cc)
kind_told cause ps r (Some k) None h i f = let g = f k refl in rw g refl
kind_told cause ps r (Some k) (Some q) h i f =
    let g = f k refl in
    let x : held (as_range r) ps k ≡ q.packets = h k ∙ ap (λ (o : Option QueueState). (packets_in o)) g in
    queue_told cause k q (own_track (Some k) q k i.0 refl)
    ∙ ap (λ b. due_span cause k (Some (span_of q)) b) (ap (λ (xs : List Packet). is_some (first xs)) (sym x))
    ∙ ap (λ (o : Option QueueState). due_span cause k (option_map span_of o) (is_some (first (held (as_range r) ps k)))) (sym g)

-- ---- all queues of a range, and of several

range_told : (cause : Cause) (ps : List Packet) (set : Choice) (r : RangeState) → IsRange r → HoldsIn ps set r → map due_of (removals_of cause r) ≡ due_range cause ps set (as_range r)
range_told cause ps set r i h =
    three_told (removal_in cause r.queues.video) (removal_in cause r.queues.audio) (removal_in cause r.queues.sub) _ _ _
    (kind_told cause ps r r.set.video r.queues.video h.film i.held.video (λ k e. video_is r k i e))
    (kind_told cause ps r r.set.audio r.queues.audio h.film i.held.audio (λ k e. audio_is r k i e))
    (kind_told cause ps r r.set.sub r.queues.sub h.film i.held.sub (λ k e. sub_is r k i e))
    ∙ ap (λ (s : Choice). due_range cause ps s (as_range r)) h.set_is

ranges_told : (cause : Cause) (ps : List Packet) (set : Choice) (rs : List RangeState) → AllByRecursion IsOther rs → AllByRecursion (HoldsIn ps set) rs
    → map due_of (removals_of_all cause rs) ≡ due_ranges cause ps set (map as_range rs)
ranges_told cause ps set [] i h = refl
ranges_told cause ps set (r ∷ rs) i h =
    map-append due_of (removals_of cause r) (removals_of_all cause rs)
    ∙ ap (λ xs. xs ++ map due_of (removals_of_all cause rs)) (range_told cause ps set r i.0.range h.0)
    ∙ ap (λ xs. due_range cause ps set (as_range r) ++ xs) (ranges_told cause ps set rs i.1 h.1)

-- ---- a start

dropped_map : (n : ℕ) (rs : List RangeState) → map as_range (drop n rs) ≡ drop n (map as_range rs)
dropped_map zero rs = refl
dropped_map (suc n) [] = refl
dropped_map (suc n) (r ∷ rs) = dropped_map n rs

all_dropped : (P : RangeState → Type 0) (n : ℕ) (rs : List RangeState) → AllByRecursion P rs → AllByRecursion P (drop n rs)
all_dropped P zero rs a = a
all_dropped P (suc n) [] a = tt
all_dropped P (suc n) (r ∷ rs) a = all_dropped P n rs a.1

no_current : (o : Option RangeState) (xs : List Due) → o ≡ None → option_map_or (λ (r : Range). []) (option_map as_range o) xs ≡ xs
no_current o xs e = rw e refl

pub started_told : (ps : List Packet) (set : Choice) (starts : Starts) (drops : List Removal) (old new : CacheState) → IsCache old → HoldsAll ps set old → old.current ≡ None
    → IsStarted set starts drops old new → map due_of drops ≡ due_found ps set (stand_of old)
started_told ps set starts drops old new i h n s =
    let left : drop 9 (left_with old.current old.others) ≡ drop 9 old.others = ap (λ c. drop 9 (left_with c old.others)) n in
    ap (λ ds. map due_of ds) (s.told ∙ ap (λ rs. removals_of_all (TooMany 11) rs) left)
    ∙ ranges_told (TooMany 11) ps set (drop 9 old.others) (all_dropped IsOther 9 old.others i.others) (all_dropped (HoldsIn ps set) 9 old.others h.others)
    ∙ ap (λ rs. due_ranges (TooMany 11) ps set rs) (dropped_map 9 old.others)
    ∙ sym (no_current old.current (due_ranges (TooMany 11) ps set (drop 9 (map as_range old.others))) n)

-- ---- a selection

pub not_both : (a b : Option ℕ) (k : ℕ) → is_other a b ≡ true → a ≡ Some k → is_track b k ≡ false
not_both None b k o e = absurd (cc)
not_both (Some m) None k o e = refl
not_both (Some m) (Some n) k o e = elim (cases_Bool (n == k)) [
  | inl y ↦ absurd (let f : m ≡ k = cc in let g : n ≡ k = eqb-true n k y in let same : (m == n) ≡ true = eq-eqb m n (f ∙ sym g) in let bad : false ≡ true = rw same at o in cc)
  | inr z ↦ z
]

video_alone : (set next : Choice) (k : ℕ) → same_kinds set next ≡ true → set.video ≡ Some k → has next k ≡ is_track next.video k
video_alone set next k e v =
    let p = and_parts (is_other set.video next.audio && is_other set.video next.sub) _ e in
    let q = and_parts (is_other set.video next.audio) (is_other set.video next.sub) p.0 in
    let a = not_both set.video next.audio k q.0 v in
    let s = not_both set.video next.sub k q.1 v in
    rw (a, s) (last (is_track next.video k))
  where
    last : (b : Bool) → (b || (false || false)) ≡ b
    last true = refl
    last false = refl

audio_alone : (set next : Choice) (k : ℕ) → same_kinds set next ≡ true → set.audio ≡ Some k → has next k ≡ is_track next.audio k
audio_alone set next k e v =
    let p = and_parts (is_other set.video next.audio && is_other set.video next.sub) _ e in
    let q = and_parts (is_other set.audio next.video && is_other set.audio next.sub) (is_other set.sub next.video && is_other set.sub next.audio) p.1 in
    let r = and_parts (is_other set.audio next.video) (is_other set.audio next.sub) q.0 in
    let a = not_both set.audio next.video k r.0 v in
    let s = not_both set.audio next.sub k r.1 v in
    rw (a, s) (last (is_track next.audio k))
  where
    last : (b : Bool) → (false || (b || false)) ≡ b
    last true = refl
    last false = refl

sub_alone : (set next : Choice) (k : ℕ) → same_kinds set next ≡ true → set.sub ≡ Some k → has next k ≡ is_track next.sub k
sub_alone set next k e v =
    let p = and_parts (is_other set.video next.audio && is_other set.video next.sub) _ e in
    let q = and_parts (is_other set.audio next.video && is_other set.audio next.sub) (is_other set.sub next.video && is_other set.sub next.audio) p.1 in
    let r = and_parts (is_other set.sub next.video) (is_other set.sub next.audio) q.1 in
    let a = not_both set.sub next.video k r.0 v in
    let s = not_both set.sub next.audio k r.1 v in
    rw (a, s) refl

lost_told : (cause : Cause) (ps : List Packet) (next : Choice) (r : RangeState) (t u : Option ℕ) (o : Option QueueState) → HoldsFilm ps r → QueueIn t r.mark o
    → ((k : ℕ) → t ≡ Some k → queue_of k r.queues ≡ o) → ((k : ℕ) → t ≡ Some k → has next k ≡ is_track u k)
    → map due_of (removal_in cause (lost_queue u o)) ≡ due_track cause ps (as_range r) (kept_track (λ k. not (has next k)) t)
lost_told cause ps next r None u None h i f g = refl
lost_told cause ps next r None u (Some q) h i f g = absurd (let e = i.0 in cc)
lost_told cause ps next r (Some k) u None h i f g = by (not (has next k))
  where
    by : (b : Bool) → [] ≡ due_track cause ps (as_range r) (if b then Some k else None)
    by true = kind_told cause ps r (Some k) None h i f
    by false = refl
lost_told cause ps next r (Some k) u (Some q) h i f g =
    let e = own_track (Some k) q k i.0 refl in
    elim (cases_Bool (is_track u k)) [
      | inl y ↦
          let z : is_track u q.track ≡ true = ap (λ n. is_track u n) e ∙ y in
          let w : has next k ≡ true = g k refl ∙ y in
          rw (z, w) refl
      | inr n ↦
          let z : is_track u q.track ≡ false = ap (λ n. is_track u n) e ∙ n in
          let w : has next k ≡ false = g k refl ∙ n in
          rw (z, w) (kind_told cause ps r (Some k) (Some q) h i f)
    ]

lost_range : (cause : Cause) (ps : List Packet) (set next : Choice) (r : RangeState) → IsRange r → HoldsIn ps set r → same_kinds set next ≡ true
    → map due_of (removals_in cause (lost_queues next r.queues)) ≡ due_range cause ps (kept_of set (λ k. not (has next k))) (as_range r)
lost_range cause ps set next r i h e =
    let s : same_kinds r.set next ≡ true = subst (λ (x : Choice). same_kinds x next ≡ true) (sym h.set_is) e in
    three_told (removal_in cause (lost_queue next.video r.queues.video)) (removal_in cause (lost_queue next.audio r.queues.audio)) (removal_in cause (lost_queue next.sub r.queues.sub)) _ _ _
    (lost_told cause ps next r r.set.video next.video r.queues.video h.film i.held.video (λ k x. video_is r k i x) (λ k x. video_alone r.set next k s x))
    (lost_told cause ps next r r.set.audio next.audio r.queues.audio h.film i.held.audio (λ k x. audio_is r k i x) (λ k x. audio_alone r.set next k s x))
    (lost_told cause ps next r r.set.sub next.sub r.queues.sub h.film i.held.sub (λ k x. sub_is r k i x) (λ k x. sub_alone r.set next k s x))
    ∙ ap (λ (x : Choice). due_range cause ps (kept_of x (λ k. not (has next k))) (as_range r)) h.set_is

lost_current : (cause : Cause) (ps : List Packet) (set next : Choice) (c : Option RangeState) → IfSome c IsRange → IfSome c (HoldsIn ps set) → same_kinds set next ≡ true
    → map due_of (removals_lost cause next c) ≡ option_map_or (due_range cause ps (kept_of set (λ k. not (has next k)))) (option_map as_range c) []
lost_current cause ps set next None i h e = refl
lost_current cause ps set next (Some r) i h e = lost_range cause ps set next r i h e

pub retracked_told : (ps : List Packet) (set next : Choice) (drops : List Removal) (old new : CacheState) → IsCache old → HoldsAll ps set old → same_kinds set next ≡ true
    → IsRetracked next drops old new → map due_of drops ≡ due_switch ps set next (stand_of old)
retracked_told ps set next drops old new i h e r =
    ap (λ ds. map due_of ds) r.told
    ∙ map-append due_of (removals_lost TrackChanged next old.current) (removals_of_all TrackChanged old.others)
    ∙ ap (λ xs. xs ++ map due_of (removals_of_all TrackChanged old.others)) (lost_current TrackChanged ps set next old.current i.current h.current e)
    ∙ ap (λ xs. option_map_or (due_range TrackChanged ps (kept_of set (λ k. not (has next k)))) (option_map as_range old.current) [] ++ xs) (ranges_told TrackChanged ps set old.others i.others h.others)

-- ---- one by one

pub told_next : (m : Removal) (ms : List Removal) (ds : List Due) → map due_of (m ∷ ms) ≡ ds
    → used.IsDue ds m.track (rank m.from) (rank m.to) m.cause × (map due_of ms ≡ drop 1 ds)
told_next m ms ds e = subst (λ (xs : List Due). used.IsDue xs m.track (rank m.from) (rank m.to) m.cause × (map due_of ms ≡ drop 1 xs)) e ((refl, refl, refl, refl), refl)
