-- The drops of an eleventh range are those that the rule over the film has due, and telling them leaves a demuxer that stands for it.
use Rattle.std.proofs.Common.{◌≡◌, ℕ, zero, suc, true, ◌&&◌, Option, Some, None, List, [], ◌∷◌, ◌++◌, refl, ap, sym, subst, ◌∙◌, inl, inr, drop, append_assoc}
use Rattle.std.specs.Prelude.{is_some, map, nat_le, reverse}
use Rattle.std.specs.List.{filter, AllByRecursion}
use Rattle.std.specs.Option.{option_map}
use Rattle.std.proofs.lemmas.Bool.{cases_Bool}
use Rattle.std.proofs.lemmas.List.{append-nil, map-append}
use Rattle.mc_packet.specs.declared.packet.Packet.{Packet}
use Rattle.mc_packet.specs.declared.choice.Choice.{Choice}
use Rattle.mc_packet.specs.declared.cache.Heads.{Heads}
use Rattle.mc_packet.specs.declared.cache.Limits.{Limits}
use Rattle.mc_journal.specs.declared.record.Cause.{Cause}
use Rattle.mc_journal.specs.declared.record.Cause.TheVariants.{TooMany}
use Rattle.mc_journal.specs.declared.record.DemuxRecord.{DemuxRecord}
use Rattle.mc_journal.specs.declared.record.DemuxRecord.TheVariants.{Dropped}
use Rattle.mc_journal.specs.declared.record.Removal.{Removal}
use Rattle.mc_journal.specs.Films.{Film, first, rank}
use Rattle.mc_journal.specs.Ranges.{held}
use Rattle.mc_journal.specs.Readings.{selected}
use Rattle.mc_journal.specs.Stands.{Stand, dropped, holds_any, stand}
use Rattle.mc_journal.specs.Allowed.{MayDrop}
use Rattle.mc_journal.specs.Used as used
use Rattle.mc_journal.specs.Used.{Due, joins_now}
use Rattle.mc_queue.specs.Queue.{QueueState}
use Rattle.mc_range.specs.Range.{RangeState, IsRange, QueueIn, as_range, queue_of, span_of}
use Rattle.mc_range.specs.Serving.{HoldsFilm, packets_in}
use Rattle.mc_range.proofs.Unions.{audio_is, sub_is, video_is}
use Rattle.mc_cache.specs.Cache.{IsOther}
use Rattle.mc_cache.specs.Filmed.{HoldsIn}
use Rattle.mc_cache.specs.Removals.{put_all, put_in, removal_if, removal_in, removals_of, removals_of_all}
use Rattle.mc_calls.specs.declared.waiting.Target.{Target}
use Rattle.mc_calls.specs.declared.waiting.Switch.{Switch}
use Rattle.mc_calls.specs.declared.waiting.Failure.{Failure}
use Rattle.mc_calls.specs.Film.{Fits}
use Rattle.mc_calls.specs.Settling.{with_drops}
use Rattle.mc_calls.proofs.Failing.{reverse-push}
use Rattle.mc_calls.proofs.FilmSettled.{now_calm}
use Rattle.mc_calls.proofs.Quiet.{tidy}

-- ---- what is due of a range

abbrev pub due_of : Removal → Due
due_of m = record { track = m.track; from = rank m.from; to = rank m.to; cause = m.cause }

put_one : (d : Removal) (es : List Removal) → map due_of (put_in d es) ≡ used.put_in (due_of d) (map due_of es)
put_one d [] = refl
put_one d (e ∷ es) = elim (cases_Bool (nat_le d.track e.track)) [ inl y ↦ rw y refl | inr n ↦ rw n (ap (λ xs. due_of e ∷ xs) (put_one d es)) ]

put_many : (ds es : List Removal) → map due_of (put_all ds es) ≡ used.put_all (map due_of ds) (map due_of es)
put_many [] es = refl
put_many (d ∷ ds) es = put_one d (put_all ds es) ∙ ap (λ xs. used.put_in (due_of d) xs) (put_many ds es)

due_packets : (cause : Cause) (k : ℕ) (q : QueueState) (ps : List Packet) → k ≡ q.track → q.packets ≡ ps
    → used.due_span cause k (Some (record { from = rank q.from; to = rank q.to })) (is_some (first (q.packets))) ≡ map due_of (removal_in cause (Some q))
due_packets cause k q [] e f = rw (e, f) refl
due_packets cause k q (p ∷ ps) e f = rw (e, f) refl

due_kind : (cause : Cause) (ps : List Packet) (r : RangeState) (t : Option ℕ) (q : Option QueueState) → HoldsFilm ps r → QueueIn t r.mark q → ((k : ℕ) → t ≡ Some k → queue_of k r.queues ≡ q)
    → used.due_track cause ps (as_range r) t ≡ map due_of (removal_in cause q)
due_kind cause ps r None None h i f = refl
due_kind cause ps r None (Some q) h i f = absurd (let e = i.0 in cc)
due_kind cause ps r (Some k) None h i f = let e = f k refl in rw e refl
due_kind cause ps r (Some k) (Some q) h i f =
    let e = f k refl in
    let same : k ≡ q.track = some k q.track i.0 in
    let all : held (as_range r) ps k ≡ q.packets = h k ∙ ap (λ (o : Option QueueState). (packets_in o)) e in
    ap (λ (xs : List Packet). used.due_span cause k ((as_range r).spans k) (is_some (first xs))) all
    ∙ ap (λ (o : Option QueueState). used.due_span cause k (option_map span_of o) (is_some (first (q.packets)))) e
    ∙ due_packets cause k q q.packets same refl
  where
    some : (a b : ℕ) → Some a ≡ Some b → a ≡ b
    some a b e = cc

due_one : (cause : Cause) (ps : List Packet) (r : RangeState) → IsRange r → HoldsFilm ps r → used.due_range cause ps r.set (as_range r) ≡ map due_of (removals_of cause r)
due_one cause ps r i h =
    let v = due_kind cause ps r r.set.video r.queues.video h i.held.video (λ k e. video_is r k i e) in
    let a = due_kind cause ps r r.set.audio r.queues.audio h i.held.audio (λ k e. audio_is r k i e) in
    let s = due_kind cause ps r r.set.sub r.queues.sub h i.held.sub (λ k e. sub_is r k i e) in
    ap (λ xs. used.put_all xs (used.put_all (used.due_track cause ps (as_range r) r.set.audio) (used.due_track cause ps (as_range r) r.set.sub))) v
    ∙ ap (λ xs. used.put_all (map due_of (removal_in cause r.queues.video)) (used.put_all xs (used.due_track cause ps (as_range r) r.set.sub))) a
    ∙ ap (λ xs. used.put_all (map due_of (removal_in cause r.queues.video)) (used.put_all (map due_of (removal_in cause r.queues.audio)) xs)) s
    ∙ ap (λ xs. used.put_all (map due_of (removal_in cause r.queues.video)) xs) (sym (put_many (removal_in cause r.queues.audio) (removal_in cause r.queues.sub)))
    ∙ sym (put_many (removal_in cause r.queues.video) (put_all (removal_in cause r.queues.audio) (removal_in cause r.queues.sub)))

due_all : (cause : Cause) (ps : List Packet) (set : Choice) (rs : List RangeState) → AllByRecursion IsOther rs → AllByRecursion (HoldsIn ps set) rs
    → used.due_ranges cause ps set (map as_range rs) ≡ map due_of (removals_of_all cause rs)
due_all cause ps set [] i h = refl
due_all cause ps set (r ∷ rs) i h =
    let own : used.due_range cause ps set (as_range r) ≡ map due_of (removals_of cause r) =
    subst (λ (s : Choice). used.due_range cause ps s (as_range r) ≡ map due_of (removals_of cause r)) h.0.set_is (due_one cause ps r i.0.range h.0.film) in
    ap (λ xs. xs ++ used.due_ranges cause ps set (map as_range rs)) own
    ∙ ap (λ xs. map due_of (removals_of cause r) ++ xs) (due_all cause ps set rs i.1 h.1)
    ∙ sym (map-append due_of (removals_of cause r) (removals_of_all cause rs))

dropped_map : (n : ℕ) (rs : List RangeState) → drop n (map as_range rs) ≡ map as_range (drop n rs)
dropped_map zero rs = refl
dropped_map (suc n) [] = refl
dropped_map (suc n) (r ∷ rs) = dropped_map n rs

dropped_all : (P : RangeState → Type 0) (n : ℕ) (rs : List RangeState) → AllByRecursion P rs → AllByRecursion P (drop n rs)
dropped_all P zero rs a = a
dropped_all P (suc n) [] a = tt
dropped_all P (suc n) (r ∷ rs) a = dropped_all P n rs a.1

-- those of the tenth of the others
pub due_eleventh : (ps : List Packet) (set : Choice) (rs : List RangeState) → AllByRecursion IsOther rs → AllByRecursion (HoldsIn ps set) rs
    → used.due_ranges (TooMany 11) ps set (drop 9 (map as_range rs)) ≡ map due_of (removals_of_all (TooMany 11) (drop 9 rs))
due_eleventh ps set rs i h =
    ap (λ xs. used.due_ranges (TooMany 11) ps set xs) (dropped_map 9 rs)
    ∙ due_all (TooMany 11) ps set (drop 9 rs) (dropped_all IsOther 9 rs i) (dropped_all (HoldsIn ps set) 9 rs h)

-- ---- their cause

abbrev pub Because : Cause → Removal → Type 0
Because cause m = m.cause ≡ cause

put_cause : (cause : Cause) (d : Removal) (es : List Removal) → Because cause d → AllByRecursion (Because cause) es → AllByRecursion (Because cause) (put_in d es)
put_cause cause d [] x a = (x, tt)
put_cause cause d (e ∷ es) x a = elim (cases_Bool (nat_le d.track e.track)) [ inl y ↦ rw y (x, a) | inr n ↦ rw n (a.0, put_cause cause d es x a.1) ]

puts_cause : (cause : Cause) (ds es : List Removal) → AllByRecursion (Because cause) ds → AllByRecursion (Because cause) es → AllByRecursion (Because cause) (put_all ds es)
puts_cause cause [] es x a = a
puts_cause cause (d ∷ ds) es x a = put_cause cause d (put_all ds es) x.0 (puts_cause cause ds es x.1 a)

kind_cause : (cause : Cause) (q : Option QueueState) → AllByRecursion (Because cause) (removal_in cause q)
kind_cause cause None = tt
kind_cause cause (Some q) = by q.packets
  where
    by : (ps : List Packet) → AllByRecursion (Because cause) (removal_if cause q.track q.from q.to ps)
    by [] = tt
    by (p ∷ ps) = (refl, tt)

append_cause : (cause : Cause) (xs ys : List Removal) → AllByRecursion (Because cause) xs → AllByRecursion (Because cause) ys → AllByRecursion (Because cause) (xs ++ ys)
append_cause cause [] ys x y = y
append_cause cause (a ∷ xs) ys x y = (x.0, append_cause cause xs ys x.1 y)

pub all_cause : (cause : Cause) (rs : List RangeState) → AllByRecursion (Because cause) (removals_of_all cause rs)
all_cause cause [] = tt
all_cause cause (r ∷ rs) =
    append_cause cause (removals_of cause r) (removals_of_all cause rs)
    (puts_cause cause (removal_in cause r.queues.video) (put_all (removal_in cause r.queues.audio) (removal_in cause r.queues.sub)) (kind_cause cause r.queues.video)
    (puts_cause cause (removal_in cause r.queues.audio) (removal_in cause r.queues.sub) (kind_cause cause r.queues.audio) (kind_cause cause r.queues.sub)))
    (all_cause cause rs)

-- ---- each drop

pub record IsTelling (film : Film) (limits : Limits) (set : Choice) (current : Option RangeState) (others : List RangeState) (heads : Heads)
    (seeking : Option Target) (waiting : Choice) (switch : Switch) (failure : Option Failure) (ended : Choice) (j : List DemuxRecord) (drops : List Removal) : Type 0 where
  pub fits : Fits film limits set current others heads seeking waiting switch failure ended (reverse j)
  pub now : joins_now (reverse j) ≡ true
  pub due : used.due film.packets (reverse j) ≡ map due_of drops

many_step : (film : Film) (limits : Limits) (set : Choice) (current : Option RangeState) (others : List RangeState) (heads : Heads)
    (seeking : Option Target) (waiting : Choice) (switch : Switch) (failure : Option Failure) (ended : Choice) (h : List DemuxRecord) (by n : ℕ) (d : Removal) (drops : List Removal)
    → Fits film limits set current others heads seeking waiting switch failure ended h → joins_now h ≡ true → used.due film.packets h ≡ due_of d ∷ map due_of drops → d.cause ≡ TooMany n
    → Fits film limits set current others heads seeking waiting switch failure ended (Dropped by d ∷ h)
many_step film limits set current others heads seeking waiting switch failure ended h by n d drops f now due e =
    let ps = film.packets in
    let may : MayDrop ps h d.track (rank d.from) (rank d.to) d.cause = subst (λ (c : Cause). MayDrop ps h d.track (rank d.from) (rank d.to) c) (sym e) tt in
    let calm = now_calm h now in
    let turn : used.is_dropped_in_turn ps h d.cause ≡ true = subst (λ (c : Cause). used.is_dropped_in_turn ps h c ≡ true) (sym e) (rw calm refl) in
    let is : used.IsDue (used.due ps h) d.track (rank d.from) (rank d.to) d.cause = subst (λ (xs : List Due). used.IsDue xs d.track (rank d.from) (rank d.to) d.cause) (sym due) (refl, refl, refl, refl) in
    let tells : used.TellsDrop ps limits h d.track (rank d.from) (rank d.to) d.cause =
    subst (λ (c : Cause). used.TellsDrop ps limits h d.track (rank d.from) (rank d.to) c) (sym e) (subst (λ (c : Cause). used.IsDue (used.due ps h) d.track (rank d.from) (rank d.to) c) e is) in
    let stays : dropped d.track (rank d.to) d.cause (stand ps h) ≡ stand ps h = ap (λ (c : Cause). dropped d.track (rank d.to) c (stand ps h)) e in
    record {
      film_is = f.film_is;
      used = ((may, turn, tells), f.used);
      set_is = f.set_is;
      current_is = ap (λ (s : Stand). s.current) stays ∙ f.current_is;
      others_are = ap (λ (s : Stand). filter (holds_any ps (selected h)) s.others) stays ∙ tidy ps h ∙ f.others_are;
      held = f.held;
      all_held = f.all_held;
      places = f.places;
      seeks = f.seeks;
      target_is = f.target_is;
      sought_at = f.sought_at;
      waits_are = f.waits_are;
      added_at = f.added_at;
      failure_is = f.failure_is;
      ended_are = f.ended_are;
    }

next_telling : (film : Film) (limits : Limits) (set : Choice) (current : Option RangeState) (others : List RangeState) (heads : Heads)
    (seeking : Option Target) (waiting : Choice) (switch : Switch) (failure : Option Failure) (ended : Choice) (j : List DemuxRecord) (by n : ℕ) (d : Removal) (drops : List Removal)
    → IsTelling film limits set current others heads seeking waiting switch failure ended j (d ∷ drops) → d.cause ≡ TooMany n
    → IsTelling film limits set current others heads seeking waiting switch failure ended (j ++ Dropped by d ∷ []) drops
next_telling film limits set current others heads seeking waiting switch failure ended j by n d drops t e =
    let h = reverse j in
    let push : Dropped by d ∷ h ≡ reverse (j ++ Dropped by d ∷ []) = sym (reverse-push j (Dropped by d)) in
    let now = t.now in
    record {
      fits = subst (λ (x : List DemuxRecord). Fits film limits set current others heads seeking waiting switch failure ended x) push
          (many_step film limits set current others heads seeking waiting switch failure ended h by n d drops t.fits t.now t.due e);
      now = subst (λ (x : List DemuxRecord). joins_now x ≡ true) push (subst (λ (c : Cause). (used.is_too_many c && joins_now h) ≡ true) (sym e) now);
      due = subst (λ (x : List DemuxRecord). used.due film.packets x ≡ map due_of drops) push (ap (λ (xs : List Due). drop 1 xs) t.due);
    }

pub all_told : (film : Film) (limits : Limits) (set : Choice) (current : Option RangeState) (others : List RangeState) (heads : Heads)
    (seeking : Option Target) (waiting : Choice) (switch : Switch) (failure : Option Failure) (ended : Choice) (j : List DemuxRecord) (by n : ℕ) (drops : List Removal)
    → IsTelling film limits set current others heads seeking waiting switch failure ended j drops → AllByRecursion (Because (TooMany n)) drops
    → IsTelling film limits set current others heads seeking waiting switch failure ended (with_drops by j drops) []
all_told film limits set current others heads seeking waiting switch failure ended j by n [] t a =
    subst (λ (x : List DemuxRecord). IsTelling film limits set current others heads seeking waiting switch failure ended x []) (sym (append-nil j)) t
all_told film limits set current others heads seeking waiting switch failure ended j by n (d ∷ drops) t a =
    let next = next_telling film limits set current others heads seeking waiting switch failure ended j by n d drops t a.0 in
    let rest = all_told film limits set current others heads seeking waiting switch failure ended (j ++ Dropped by d ∷ []) by n drops next a.1 in
    subst (λ (x : List DemuxRecord). IsTelling film limits set current others heads seeking waiting switch failure ended x [])
    (append_assoc j (Dropped by d ∷ []) (map (λ drop. Dropped by drop) drops)) rest
