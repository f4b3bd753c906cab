-- Joins leave a demuxer that stands for the film: each is one that the rule asks for next, and none is left to come.
use Rattle.std.proofs.Common.{◌≡◌, ℕ, suc, ◌+◌, Bool, true, false, ◌&&◌, Option, Some, None, List, [], ◌∷◌, ◌++◌, refl, ap, sym, subst, ◌∙◌, inl, inr, arith}
use Rattle.std.specs.Prelude.{IfSome, map, reverse}
use Rattle.std.specs.List.{filter, find, AllByRecursion, list_any}
use Rattle.std.specs.Option.{option_map}
use Rattle.std.proofs.lemmas.Bool.{cases_Bool, eq-eqb}
use Rattle.mc_packet.specs.declared.choice.Choice.{Choice}
use Rattle.mc_packet.specs.declared.cache.Heads.{Heads}
use Rattle.mc_packet.specs.declared.cache.Limits.{Limits}
use Rattle.mc_journal.specs.declared.record.DemuxRecord.{DemuxRecord}
use Rattle.mc_journal.specs.declared.record.DemuxRecord.TheVariants.{Joined}
use Rattle.mc_journal.specs.declared.record.Removal.{Removal}
use Rattle.mc_packet.specs.declared.packet.Packet.{Packet}
use Rattle.mc_journal.specs.Films.{Film}
use Rattle.mc_journal.specs.Ranges.{touches}
use Rattle.mc_journal.specs.Readings.{selected}
use Rattle.mc_journal.specs.Stands.{Stand, stand, joined, holds_any, first_that}
use Rattle.mc_journal.specs.Views.{head}
use Rattle.mc_journal.specs.Allowed.{joinable, touched}
use Rattle.mc_journal.specs.Used.{are_told, due, joins_now}
use Rattle.mc_queue.specs.declared.queue.UnionError.TheVariants.{Mismatch as Differ}
use Rattle.mc_range.specs.Range.{RangeState, as_range, is_same, is_same_set, meets_range}
use Rattle.mc_range.specs.Serving.{HoldsFilm}
use Rattle.mc_range.proofs.Joined.{only_memory}
use Rattle.mc_cache.specs.Cache.{IsOther}
use Rattle.mc_cache.specs.Filmed.{AreTouched, HoldsIn, joined_times, stand_with}
use Rattle.mc_cache.specs.Joining.{Joins, others_left}
use Rattle.mc_cache.specs.Joining.Joins.{parted, united, unjoined}
use Rattle.mc_cache.proofs.Joinings.{joins_film}
use Rattle.mc_cache.proofs.Lists.{fewer, found_passes}
use Rattle.mc_cache.proofs.Standing.{Held, all_find, holds_same}
use Rattle.mc_calls.specs.declared.waiting.Target.{Target}
use Rattle.mc_calls.specs.declared.waiting.Switch.{Switch}
use Rattle.mc_calls.specs.declared.waiting.Failure.{Failure}
use Rattle.mc_calls.specs.Film.{Fits, PlacesAre}
use Rattle.mc_calls.specs.Settling.{with_joins}
use Rattle.mc_calls.proofs.Failing.{reverse-push}
use Rattle.mc_calls.proofs.SameTracks.{joined_tracks, places_same}

-- ---- ranges that hold the film's packets

pub films_of : (ps : List Packet) (set : Choice) (rs : List RangeState) → AllByRecursion (HoldsIn ps set) rs → AllByRecursion (HoldsFilm ps) rs
films_of ps set [] a = tt
films_of ps set (r ∷ rs) a = (a.0.film, films_of ps set rs a.1)

pub holds_in : (ps : List Packet) (set : Choice) (rs : List RangeState) → AllByRecursion (HoldsFilm ps) rs → AllByRecursion (λ r. r.set ≡ set) rs → AllByRecursion (HoldsIn ps set) rs
holds_in ps set [] a b = tt
holds_in ps set (r ∷ rs) a b = (record { film = a.0; set_is = b.0 }, holds_in ps set rs a.1 b.1)

-- others hold a packet, so that none goes
pub others_stay : (ps : List Packet) (set : Choice) (rs : List RangeState) → AllByRecursion IsOther rs → AllByRecursion (HoldsIn ps set) rs
    → filter (holds_any ps set) (map as_range rs) ≡ map as_range rs
others_stay ps set [] a b = refl
others_stay ps set (r ∷ rs) a b =
    let y : holds_any ps set (as_range r) ≡ true = sym (holds_same ps set r a.0.range b.0) ∙ a.0.some in
    rw y (ap (λ xs. as_range r ∷ xs) (others_stay ps set rs a.1 b.1))

-- ---- whether two touch

same_track : (o : Option ℕ) → is_same o o ≡ true
same_track None = refl
same_track (Some k) = eq-eqb k k refl

same_set : (set : Choice) → is_same_set set set ≡ true
same_set set = let v = same_track set.video in let a = same_track set.audio in let s = same_track set.sub in rw (v, a, s) refl

meets_is : (ps : List Packet) (set : Choice) (r q : RangeState) → r.set ≡ set → q.set ≡ set → meets_range r q ≡ touches set (as_range r) (as_range q)
meets_is ps set r q e f = let s = same_set set in rw (e, f) (rw s refl)

pub none_touches : (ps : List Packet) (set : Choice) (r : RangeState) (rs : List RangeState) → r.set ≡ set → AllByRecursion (HoldsIn ps set) rs → list_any (meets_range r) rs ≡ false
    → first_that (touches set (as_range r)) (map as_range rs) ≡ None
none_touches ps set r [] e a n = refl
none_touches ps set r (q ∷ rs) e a n = elim (cases_Bool (meets_range r q)) [
  | inl y ↦ absurd (let f : true ≡ false = rw y at n in cc)
  | inr o ↦
      let z : touches set (as_range r) (as_range q) ≡ false = sym (meets_is ps set r q e a.0.set_is) ∙ o in
      let m : list_any (meets_range r) rs ≡ false = rw o at n in
      rw z (none_touches ps set r rs e a.1 m)
]

-- ---- one join

pub joined_step : (film : Film) (limits : Limits) (set : Choice) (current : Option RangeState) (others : List RangeState) (heads : Heads)
    (seeking : Option Target) (waiting : Choice) (switch : Switch) (failure : Option Failure) (ended : Choice) (h : List DemuxRecord) (by : ℕ)
    (current' : Option RangeState) (others' : List RangeState)
    → Fits film limits set current others heads seeking waiting switch failure ended h → joins_now h ≡ true → are_told (due film.packets h) ≡ true
    → joinable film.packets h ≡ true
    → (stand film.packets (Joined by ∷ h)).current ≡ option_map as_range current' → (stand film.packets (Joined by ∷ h)).others ≡ map as_range others'
    → IfSome current' (HoldsFilm film.packets) → AllByRecursion (HoldsFilm film.packets) others' → IfSome current' (PlacesAre set heads (λ track. head film.packets track h))
    → Fits film limits set current' others' heads seeking waiting switch failure ended (Joined by ∷ h)
joined_step film limits set current others heads seeking waiting switch failure ended h by current' others' f now told may current_is others_are held all_held places =
    let turn : (are_told (due film.packets h) && joins_now h) ≡ true = rw (told, now) refl in
    record {
      film_is = f.film_is;
      used = ((may, turn, tt), f.used);
      set_is = f.set_is;
      current_is = current_is;
      others_are = others_are;
      held = held;
      all_held = all_held;
      places = places;
      seeks = f.seeks;
      target_is = f.target_is;
      sought_at = f.sought_at;
      waits_are = f.waits_are;
      added_at = f.added_at;
      failure_is = f.failure_is;
      ended_are = f.ended_are;
    }

-- ---- all joins

-- the ranges of the journal are those of the demuxer
stands_with : (film : Film) (limits : Limits) (set : Choice) (r : RangeState) (rs : List RangeState) (heads : Heads)
    (seeking : Option Target) (waiting : Choice) (switch : Switch) (failure : Option Failure) (ended : Choice) (h : List DemuxRecord)
    → Fits film limits set (Some r) rs heads seeking waiting switch failure ended h → stand film.packets h ≡ stand_with r rs
stands_with film limits set r rs heads seeking waiting switch failure ended h f =
    let a = f.current_is in
    let b = f.others_are in
    λ i. record { current = a i; others = b i }

pub record HasJoined (film : Film) (limits : Limits) (set : Choice) (r : RangeState) (rs : List RangeState) (heads : Heads) (seeking : Option Target) (waiting : Choice) (switch : Switch)
    (failure : Option Failure) (ended : Choice) (j : List DemuxRecord) (drops : List Removal) : Type 0 where
  pub fits : Fits film limits set (Some r) rs heads seeking waiting switch failure ended (reverse j)
  pub now : joins_now (reverse j) ≡ true
  pub told : are_told (due film.packets (reverse j)) ≡ true
  pub others : AllByRecursion IsOther rs
  pub film_others : AllByRecursion (HoldsIn film.packets set) rs
  pub set_is : r.set ≡ set
  pub none_told : drops ≡ []

one_more : (film : Film) (limits : Limits) (set : Choice) (r : RangeState) (rs : List RangeState) (heads : Heads)
    (seeking : Option Target) (waiting : Choice) (switch : Switch) (failure : Option Failure) (ended : Choice) (j : List DemuxRecord) (drops : List Removal) (by : ℕ)
    (r' : RangeState) (rs' : List RangeState)
    → HasJoined film limits set r rs heads seeking waiting switch failure ended j drops
    → touched set (map as_range rs) (Some (as_range r)) ≡ true
    → joined set (stand_with r rs) ≡ stand_with r' rs'
    → HoldsIn film.packets set r' → AllByRecursion IsOther rs' → AllByRecursion (HoldsIn film.packets set) rs'
    → IfSome (Some r') (PlacesAre set heads (λ track. head film.packets track (reverse j)))
    → HasJoined film limits set r' rs' heads seeking waiting switch failure ended (j ++ Joined by ∷ []) drops
one_more film limits set r rs heads seeking waiting switch failure ended j drops by r' rs' k touch next held all all_held places =
    let ps = film.packets in
    let h = reverse j in
    let st = stands_with film limits set r rs heads seeking waiting switch failure ended h k.fits in
    let after : joined (selected h) (stand ps h) ≡ stand_with r' rs' =
    ap (λ (s : Choice). joined s (stand ps h)) k.fits.set_is ∙ ap (λ (s : Stand). joined set s) st ∙ next in
    let may : joinable ps h ≡ true =
    ap (λ (s : Choice). touched s (stand ps h).others (stand ps h).current) k.fits.set_is ∙ ap (λ (s : Stand). touched set s.others s.current) st ∙ touch in
    let push : Joined by ∷ h ≡ reverse (j ++ Joined by ∷ []) = sym (reverse-push j (Joined by)) in
    let fits = joined_step film limits set (Some r) rs heads seeking waiting switch failure ended h by (Some r') rs' k.fits k.now k.told may
    (ap (λ (s : Stand). s.current) after)
    (ap (λ (s : Choice). filter (holds_any ps s) (joined (selected h) (stand ps h)).others) k.fits.set_is ∙ ap (λ (s : Stand). filter (holds_any ps set) s.others) after ∙ others_stay ps set rs' all all_held)
    held.film (films_of ps set rs' all_held) places in
    record {
      fits = subst (λ (x : List DemuxRecord). Fits film limits set (Some r') rs' heads seeking waiting switch failure ended x) push fits;
      now = subst (λ (x : List DemuxRecord). joins_now x ≡ true) push refl;
      told = subst (λ (x : List DemuxRecord). are_told (due ps x) ≡ true) push refl;
      others = all;
      film_others = all_held;
      set_is = held.set_is;
      none_told = k.none_told;
    }

next_joins : (by : ℕ) (j : List DemuxRecord) (n : ℕ) → with_joins by j n ++ Joined by ∷ [] ≡ with_joins by j (n + 1)
next_joins by j n = let e : n + 1 ≡ suc n = omega arith in rw e refl

next_times : (n : ℕ) (set : Choice) (st : Stand) → joined_times (n + 1) set st ≡ joined set (joined_times n set st)
next_times n set st = let e : n + 1 ≡ suc n = omega arith in rw e refl

last_touch : (n : ℕ) (set : Choice) (st : Stand) → AreTouched (n + 1) set st → touched set (joined_times n set st).others (joined_times n set st).current ≡ true
last_touch n set st a = let e : n + 1 ≡ suc n = omega arith in let b : AreTouched (suc n) set st = rw e at a in b.1

found_film : (ps : List Packet) (set : Choice) (test : RangeState → Bool) (rs : List RangeState) (o : RangeState) → AllByRecursion (HoldsIn ps set) rs → find test rs ≡ Some o → HoldsIn ps set o
found_film ps set test rs o a e = let g = all_find (HoldsIn ps set) test rs a in rw e at g

pub joins_fit : (film : Film) (limits : Limits) (set : Choice) (first : RangeState) (beside : List RangeState) (r : RangeState) (rs : List RangeState) (heads : Heads)
    (seeking : Option Target) (waiting : Choice) (switch : Switch) (failure : Option Failure) (ended : Choice) (j : List DemuxRecord) (by n : ℕ) (drops : List Removal)
    → Held film.packets set first → AllByRecursion IsOther beside → AllByRecursion (HoldsIn film.packets set) beside
    → Fits film limits set (Some first) beside heads seeking waiting switch failure ended (reverse j)
    → joins_now (reverse j) ≡ true → are_told (due film.packets (reverse j)) ≡ true → Joins first beside r rs n drops
    → HasJoined film limits set r rs heads seeking waiting switch failure ended (with_joins by j n) drops
joins_fit film limits set first beside _ _ heads seeking waiting switch failure ended j by _ _ h a b f now told unjoined = record {
  fits = f;
  now = now;
  told = told;
  others = a;
  film_others = b;
  set_is = h.film.set_is;
  none_told = refl;
}
joins_fit film limits set first beside _ _ heads seeking waiting switch failure ended j by _ _ h a b f now told (united r rs n drops o r' o' js e u ir) =
    let ps = film.packets in
    let k = joins_fit film limits set first beside r rs heads seeking waiting switch failure ended j by n drops h a b f now told js in
    let one = joins_film ps set first beside r rs n drops f.film_is.rising h a b js in
    let two = joins_film ps set first beside r' _ (n + 1) drops f.film_is.rising h a b (united r rs n drops o r' o' js e u ir) in
    let S : Stand = stand_with first beside in
    let next = sym (ap (λ (s : Stand). joined set s) one.stand) ∙ sym (next_times n set S) ∙ two.stand in
    let touch = sym (ap (λ (s : Stand). touched set s.others s.current) one.stand) ∙ last_touch n set S two.touching in
    let places = places_same set heads (λ track. head ps track (reverse (with_joins by j n))) (Some r) (Some r') (joined_tracks r o r' o' u) k.fits.places in
    subst (λ (x : List DemuxRecord). HasJoined film limits set r' (others_left r rs) heads seeking waiting switch failure ended x drops) (next_joins by j n)
    (one_more film limits set r rs heads seeking waiting switch failure ended (with_joins by j n) drops by r' (others_left r rs) k
    touch next two.range.film two.others two.film places)
joins_fit film limits set first beside _ _ heads seeking waiting switch failure ended j by _ _ h a b f now told (parted r rs n drops o r' at ours other js e u d ir) =
    let ps = film.packets in
    let one = joins_film ps set first beside r rs n drops f.film_is.rising h a b js in
    let m = found_passes (meets_range r) rs o e in
    let w = fewer (meets_range r) rs o one.others e in
    let g = found_film ps set (meets_range r) rs o one.film e in
    let z = only_memory ps r o (Differ at ours other) one.range.range w.one.range m one.range.film.film g.film u in
    absurd (cc)
