-- Over a film's list the joins of a range are those of the rule, one by one, and no ranges differ.
use Rattle.std.proofs.Common.{◌≡◌, ℕ, suc, ◌+◌, Bool, true, List, [], Option, Some, None, refl, ap, sym, ◌∙◌, arith}
use Rattle.std.specs.Prelude.{map}
use Rattle.std.specs.List.{AllByRecursion, find}
use Rattle.std.specs.Option.{option_map}
use Rattle.std.proofs.lemmas.Bool.{eq-eqb}
use Rattle.mc_packet.specs.declared.choice.Choice.{Choice}
use Rattle.mc_journal.specs.declared.record.Removal.{Removal}
use Rattle.mc_packet.specs.declared.packet.Packet.{Packet}
use Rattle.mc_journal.specs.Films.{IsRising}
use Rattle.mc_journal.specs.Ranges.{touches}
use Rattle.mc_journal.specs.Stands.{Stand, joined as joined_stand, union_range}
use Rattle.mc_journal.specs.Allowed.{touched}
use Rattle.mc_queue.specs.declared.queue.UnionError.TheVariants.{Mismatch as Differ}
use Rattle.mc_range.specs.Range.{RangeState, IsRange, as_range, is_same, is_same_set, meets_range}
use Rattle.mc_range.proofs.Joined.{joined_ranges, joined_film, only_memory}
use Rattle.mc_cache.specs.Cache.{IsOther, without_first}
use Rattle.mc_cache.specs.Filmed.{AreTouched, HoldsIn, JoinsFilm, joined_times, stand_with}
use Rattle.mc_cache.specs.Joining.{Joins}
use Rattle.mc_cache.specs.Joining.Joins.{parted, united, unjoined}
use Rattle.mc_cache.proofs.Lists.{fewer, found_passes}
use Rattle.mc_cache.proofs.Standing.{Held, all_find, all_without, both_all, find_same, without_same}

-- what is kept by joins
pub record Kept (ps : List Packet) (set : Choice) (first : RangeState) (beside : List RangeState) (r : RangeState) (rs : List RangeState) (n : ℕ) (drops : List Removal) : Type 0 where
  pub range : Held ps set r
  pub others : AllByRecursion IsOther rs
  pub film : AllByRecursion (HoldsIn ps set) rs
  pub none_told : drops ≡ []
  pub stand : joined_times n set (stand_with first beside) ≡ stand_with r rs
  pub touching : AreTouched n set (stand_with first beside)

same_track : (o : Option ℕ) → is_same o o ≡ true
same_track None = refl
same_track (Some k) = eq-eqb k k refl

same_set : (set : Choice) → is_same_set set set ≡ true
same_set set = let v = same_track set.video in let a = same_track set.audio in let s = same_track set.sub in rw (v, a, s) refl

pub meets_is : (ps : List Packet) (set : Choice) (r q : RangeState) → HoldsIn ps set r → HoldsIn ps set q → meets_range r q ≡ touches set (as_range r) (as_range q)
meets_is ps set r q h g =
    let e = h.set_is in
    let f = g.set_is in
    let s = same_set set in
    rw (e, f) (rw s refl)

some_is : (set : Choice) (r : RangeState) (rs : List RangeState) (o : RangeState) → AllByRecursion (λ q. meets_range r q ≡ touches set (as_range r) (as_range q)) rs → find (meets_range r) rs ≡ Some o
    → joined_stand set (stand_with r rs) ≡ (let s : Stand = record { current = Some (union_range (as_range r) (as_range o)); others = map as_range (without_first (meets_range r) rs) } in s)
some_is set r rs o a e =
    let f = find_same (meets_range r) (touches set (as_range r)) rs a ∙ ap (λ x. option_map as_range x) e in
    let w = without_same (meets_range r) (touches set (as_range r)) rs a in
    rw (f, w) refl

touched_is : (set : Choice) (r : RangeState) (rs : List RangeState) (o : RangeState) → AllByRecursion (λ q. meets_range r q ≡ touches set (as_range r) (as_range q)) rs → find (meets_range r) rs ≡ Some o
    → touched set (stand_with r rs).others (stand_with r rs).current ≡ true
touched_is set r rs o a e =
    let f = find_same (meets_range r) (touches set (as_range r)) rs a ∙ ap (λ x. option_map as_range x) e in
    rw f refl

next_times : (n : ℕ) (set : Choice) (st : Stand) → joined_times (n + 1) set st ≡ joined_stand set (joined_times n set st)
next_times n set st = let e : n + 1 ≡ suc n = omega arith in rw e refl

next_touched : (n : ℕ) (set : Choice) (st : Stand) → AreTouched n set st → touched set (joined_times n set st).others (joined_times n set st).current ≡ true → AreTouched (n + 1) set st
next_touched n set st a t = let e : n + 1 ≡ suc n = omega arith in rw e (a, t)

found_film : (ps : List Packet) (set : Choice) (test : RangeState → Bool) (rs : List RangeState) (o : RangeState) → AllByRecursion (HoldsIn ps set) rs → find test rs ≡ Some o → HoldsIn ps set o
found_film ps set test rs o a e = let g = all_find (HoldsIn ps set) test rs a in rw e at g

pub joins_film : (ps : List Packet) (set : Choice) (first : RangeState) (beside : List RangeState) (r : RangeState) (rs : List RangeState) (n : ℕ) (drops : List Removal)
    → IsRising ps → Held ps set first → AllByRecursion IsOther beside → AllByRecursion (HoldsIn ps set) beside → Joins first beside r rs n drops → Kept ps set first beside r rs n drops
joins_film ps set first beside _ _ _ _ rise h a b unjoined = record { range = h; others = a; film = b; none_told = refl; stand = refl; touching = tt }
joins_film ps set first beside _ _ _ _ rise h a b (united r rs n drops o r' o' j e u i) =
    let k = joins_film ps set first beside r rs n drops rise h a b j in
    let all = both_all (HoldsIn ps set) (λ q. meets_range r q ≡ touches set (as_range r) (as_range q)) rs (λ q g. meets_is ps set r q k.range.film g) k.film in
    let m = found_passes (meets_range r) rs o e in
    let f = fewer (meets_range r) rs o k.others e in
    let g = found_film ps set (meets_range r) rs o k.film e in
    let s = joined_ranges r o r' o' k.range.range f.one.range m u in
    record {
      range = record { range = i; film = record { film = joined_film ps r o r' o' rise k.range.range f.one.range m u k.range.film.film g.film; set_is = u.set_is ∙ k.range.film.set_is } };
      others = f.others;
      film = all_without (HoldsIn ps set) (meets_range r) rs k.film;
      none_told = k.none_told;
      stand = next_times n set (stand_with first beside) ∙ ap (λ x. joined_stand set x) k.stand ∙ some_is set r rs o all e
          ∙ ap (λ x. let t : Stand = record { current = Some x; others = map as_range (without_first (meets_range r) rs) } in t) (sym s);
      touching = next_touched n set (stand_with first beside) k.touching (ap (λ (x : Stand). touched set x.others x.current) k.stand ∙ touched_is set r rs o all e);
    }
joins_film ps set first beside _ _ _ _ rise h a b (parted r rs n drops o r' at ours other j e u d i) =
    let k = joins_film ps set first beside r rs n drops rise h a b j in
    let m = found_passes (meets_range r) rs o e in
    let f = fewer (meets_range r) rs o k.others e in
    let g = found_film ps set (meets_range r) rs o k.film e in
    let z = only_memory ps r o (Differ at ours other) k.range.range f.one.range m k.range.film.film g.film u in
    absurd (cc)

pub joins_films : (ps : List Packet) (set : Choice) (first : RangeState) (beside : List RangeState) (r : RangeState) (rs : List RangeState) (n : ℕ) (drops : List Removal)
    → IsRising ps → IsRange first → HoldsIn ps set first → AllByRecursion IsOther beside → AllByRecursion (HoldsIn ps set) beside → Joins first beside r rs n drops → JoinsFilm ps set first beside r rs n drops
joins_films ps set first beside r rs n drops rise i h a b j =
    let k = joins_film ps set first beside r rs n drops rise (record { range = i; film = h }) a b j in
    record { none_told = k.none_told; stand = k.stand; touching = k.touching; film = k.range.film; others = k.film }
