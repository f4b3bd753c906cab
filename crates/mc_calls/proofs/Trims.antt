-- Drops that the limit asks for, one by one, leave a demuxer that stands for the film.
use Rattle.std.proofs.Common.{◌≡◌, ℕ, ◌<◌, ◌-◌, true, not, Option, Some, None, List, [], ◌∷◌, ◌++◌, refl, ap, sym, subst, ◌∙◌}
use Rattle.std.specs.Prelude.{IfSome, map, reverse, sum_by, drop}
use Rattle.std.specs.List.{filter, AllByRecursion}
use Rattle.std.specs.Option.{option_map, option_map_or}
use Rattle.std.proofs.lemmas.Bool.{and_parts}
use Rattle.mc_packet.specs.declared.choice.Choice.{Choice}
use Rattle.mc_packet.specs.declared.cache.Heads.{Heads}
use Rattle.mc_packet.specs.declared.cache.Limits.{Limits}
use Rattle.mc_journal.specs.declared.record.DemuxRecord.{DemuxRecord}
use Rattle.mc_journal.specs.declared.record.DemuxRecord.TheVariants.{Dropped}
use Rattle.mc_journal.specs.declared.record.Removal.{Removal}
use Rattle.mc_journal.specs.declared.record.Cause.TheVariants.{Limit}
use Rattle.mc_packet.specs.declared.packet.Packet.{Packet}
use Rattle.mc_journal.specs.Films.{Film, rank}
use Rattle.mc_journal.specs.Ranges.{Range}
use Rattle.mc_journal.specs.Readings.{selected, follows}
use Rattle.mc_journal.specs.Stands.{stand, cut_in, holds_any, ranges_of as stand_ranges}
use Rattle.mc_journal.specs.Views.{back, forward, head, range_weight}
use Rattle.mc_journal.specs.Allowed.{MayCut}
use Rattle.mc_journal.specs.Used as used
use Rattle.mc_range.specs.declared.cutting.Cut.{Cut}
use Rattle.mc_range.specs.Range.{RangeState, IsRange, as_range}
use Rattle.mc_range.specs.Serving.{HoldsFilm}
use Rattle.mc_cache.specs.Cache.{CacheState, IsCache, IsOther, in_front, ranges_of, weight_of}
use Rattle.mc_cache.specs.Pruning.{CutsFront, CutsRange, Drops, back_of, removal_by}
use Rattle.mc_calls.specs.declared.waiting.Target.{Target}
use Rattle.mc_calls.specs.declared.waiting.Switch.{Switch}
use Rattle.mc_calls.specs.declared.waiting.Failure.{Failure}
use Rattle.mc_calls.specs.Demuxers.{IsPlaced, HaveHeads}
use Rattle.mc_calls.specs.Film.{Fits, PlacesAre}
use Rattle.mc_calls.specs.Trimming.{Trims, none, more}
use Rattle.mc_calls.proofs.Failing.{reverse-push}
use Rattle.mc_calls.proofs.Forward.{forward-is}
use Rattle.mc_calls.proofs.Resting.{have_heads}
use Rattle.mc_calls.proofs.Trimmed.{trimmed}
use Rattle.mc_calls.proofs.FilmDrops.{cuts_span, cut_below}
use Rattle.mc_calls.proofs.Droppings.{all_weigh, last_cut, current_cut}

-- ---- one drop over the film's list

pub record DropIs (ps : List Packet) (set : Choice) (heads : Heads) (places : ℕ → ℕ) (track from to : ℕ) (current : Option RangeState) (others : List RangeState)
    (current' : Option RangeState) (others' : List RangeState) : Type 0 where
  pub cuts : used.CutsIn ps set places track from to (option_map as_range current) (map as_range others)
  pub may : MayCut track from to (places track) (option_map as_range current) (map as_range others)
  pub current_is : (cut_in track to (option_map as_range current) (map as_range others)).current ≡ option_map as_range current'
  pub others_are : filter (holds_any ps set) (cut_in track to (option_map as_range current) (map as_range others)).others ≡ map as_range others'
  pub held : IfSome current' (HoldsFilm ps)
  pub all_held : AllByRecursion (HoldsFilm ps) others'
  pub placed : IfSome current' (PlacesAre set heads places)

drop_alone : (ps : List Packet) (set : Choice) (heads : Heads) (places : ℕ → ℕ) (current current' : Option RangeState) (others' : List RangeState) (c : Cut)
    → IfSome current IsRange → IfSome current (λ r. r.set ≡ set) → IfSome current (HoldsFilm ps) → IfSome current (PlacesAre set heads places)
    → CutsFront heads current current' c → others' ≡ []
    → DropIs ps set heads places c.track (rank c.from) (rank c.to) current [] current' others'
drop_alone ps set heads places None current' others' c i e all at x n = absurd x
drop_alone ps set heads places (Some r) None others' c i e all at x n = absurd x
drop_alone ps set heads places (Some r) (Some q) others' c i e all at x n =
    let d = current_cut ps set heads places r q c i e all at x in
    record {
      cuts = d.cut;
      may = (
        cuts_span ps set (λ k. Some (places k)) c.track (rank c.from) (rank c.to) (as_range r) d.onward d.cut,
        cut_below ps set places c.track (rank c.from) (rank c.to) (as_range r) d.cut,
      );
      current_is = ap (λ (x : Range). Some x) d.range_is;
      others_are = sym (ap (λ (rs : List RangeState). map as_range rs) n);
      held = d.film;
      all_held = subst (λ (rs : List RangeState). AllByRecursion (HoldsFilm ps) rs) (sym n) tt;
      placed = d.placed;
    }

pub drop_is : (ps : List Packet) (set : Choice) (heads : Heads) (places : ℕ → ℕ) (current current' : Option RangeState) (others others' : List RangeState) (c : Cut)
    → IfSome current IsRange → AllByRecursion IsOther others → IfSome current (λ r. r.set ≡ set) → AllByRecursion (λ r. r.set ≡ set) others
    → IfSome current (HoldsFilm ps) → AllByRecursion (HoldsFilm ps) others → IfSome current (PlacesAre set heads places)
    → CutsRange heads current others current' others' c
    → DropIs ps set heads places c.track (rank c.from) (rank c.to) current others current' others'
drop_is ps set heads places current current' [] others' c i j e es all alls at x = drop_alone ps set heads places current current' others' c i e all at x.0 x.1
drop_is ps set heads places current current' (r ∷ rs) others' c i j e es all alls at x =
    let l = last_cut ps set places (places c.track) (option_map as_range current) r rs others' c j es alls x.0 in
    record {
      cuts = l.cuts;
      may = l.may;
      current_is = sym (ap (λ (o : Option RangeState). option_map as_range o) x.1);
      others_are = l.others_are;
      held = subst (λ (o : Option RangeState). IfSome o (HoldsFilm ps)) (sym x.1) all;
      all_held = l.held_all;
      placed = subst (λ (o : Option RangeState). IfSome o (PlacesAre set heads places)) (sym x.1) at;
    }

-- ---- its record stands in its place

told_rest : (ds : List used.Due) → used.are_told ds ≡ true → used.are_told (drop 1 ds) ≡ true
told_rest [] h = refl
told_rest (d ∷ ds) h = absurd (cc)

still_due : (ps : List Packet) (h : List DemuxRecord) → used.is_still ps h ≡ true → used.are_told (used.due ps h) ≡ true
still_due ps h s =
    let one = and_parts (used.is_begun h) _ s in
    let two = and_parts (not (follows h)) _ one.1 in
    (and_parts (used.are_told (used.due ps h)) _ two.1).0

still_after : (ps : List Packet) (h : List DemuxRecord) (by bytes max : ℕ) (c : Cut) → used.is_still ps h ≡ true → used.is_still ps (Dropped by (removal_by (Limit bytes max) c) ∷ h) ≡ true
still_after ps h by bytes max c s = let e = told_rest (used.due ps h) (still_due ps h s) in rw e refl

pub dropped_step : (film : Film) (limits : Limits) (set : Choice) (current current' : Option RangeState) (others others' : List RangeState) (heads : Heads)
    (seeking : Option Target) (waiting : Choice) (switch : Switch) (failure : Option Failure) (ended : Choice) (h : List DemuxRecord) (by bytes : ℕ) (c : Cut)
    → Fits film limits set current others heads seeking waiting switch failure ended h → used.is_still film.packets h ≡ true
    → DropIs film.packets set heads (λ k. head film.packets k h) c.track (rank c.from) (rank c.to) current others current' others'
    → bytes ≡ back film.packets h → limits.back < bytes
    → Fits film limits set current' others' heads seeking waiting switch failure ended (Dropped by (removal_by (Limit bytes limits.back) c) ∷ h)
dropped_step film limits set current current' others others' heads seeking waiting switch failure ended h by bytes c f still d counts over =
    let ps = film.packets in
    let st = stand film.packets h in
    let may : MayCut c.track (rank c.from) (rank c.to) (head ps c.track h) st.current st.others =
    subst (λ (o : Option Range). MayCut c.track (rank c.from) (rank c.to) (head ps c.track h) o st.others) (sym f.current_is)
    (subst (λ (os : List Range). MayCut c.track (rank c.from) (rank c.to) (head ps c.track h) (option_map as_range current) os) (sym f.others_are) d.may) in
    let cuts : used.CutsIn ps (selected h) (λ k. head ps k h) c.track (rank c.from) (rank c.to) st.current st.others =
    subst (λ (s : Choice). used.CutsIn ps s (λ k. head ps k h) c.track (rank c.from) (rank c.to) st.current st.others) (sym f.set_is)
    (subst (λ (o : Option Range). used.CutsIn ps set (λ k. head ps k h) c.track (rank c.from) (rank c.to) o st.others) (sym f.current_is)
    (subst (λ (os : List Range). used.CutsIn ps set (λ k. head ps k h) c.track (rank c.from) (rank c.to) (option_map as_range current) os) (sym f.others_are) d.cuts)) in
    record {
      film_is = f.film_is;
      used = ((may, still, (counts, refl, over, cuts)), f.used);
      set_is = f.set_is;
      current_is =
          ap (λ (o : Option Range). (cut_in c.track (rank c.to) o st.others).current) f.current_is
          ∙ ap (λ (os : List Range). (cut_in c.track (rank c.to) (option_map as_range current) os).current) f.others_are
          ∙ d.current_is;
      others_are =
          ap (λ (s : Choice). filter (holds_any ps s) (cut_in c.track (rank c.to) st.current st.others).others) f.set_is
          ∙ ap (λ (o : Option Range). filter (holds_any ps set) (cut_in c.track (rank c.to) o st.others).others) f.current_is
          ∙ ap (λ (os : List Range). filter (holds_any ps set) (cut_in c.track (rank c.to) (option_map as_range current) os).others) f.others_are
          ∙ d.others_are;
      held = d.held;
      all_held = d.all_held;
      places = d.placed;
      seeks = f.seeks;
      target_is = f.target_is;
      sought_at = f.sought_at;
      waits_are = f.waits_are;
      added_at = f.added_at;
      failure_is = f.failure_is;
      ended_are = f.ended_are;
    }

-- ---- the octets behind the readers

front_all : (P : RangeState → Type 0) (o : Option RangeState) (rs : List RangeState) → IfSome o P → AllByRecursion P rs → AllByRecursion P (in_front o rs)
front_all P None rs h hs = hs
front_all P (Some r) rs h hs = (h, hs)

front_is : (o : Option RangeState) (rs : List RangeState) → option_map_or (λ r. r ∷ map as_range rs) (option_map as_range o) (map as_range rs) ≡ map as_range (in_front o rs)
front_is None rs = refl
front_is (Some r) rs = refl

others_range : (rs : List RangeState) → AllByRecursion IsOther rs → AllByRecursion IsRange rs
others_range [] h = tt
others_range (r ∷ rs) h = (h.0.range, others_range rs h.1)

front_one : (P : RangeState → Type 0) (o : Option RangeState) (rs : List RangeState) → AllByRecursion P (in_front o rs) → IfSome o P × AllByRecursion P rs
front_one P None rs h = (tt, h)
front_one P (Some r) rs h = h

pub back-is : (film : Film) (limits : Limits) (set : Choice) (c : CacheState) (heads : Heads)
    (seeking : Option Target) (waiting : Choice) (switch : Switch) (failure : Option Failure) (ended : Choice) (h : List DemuxRecord)
    → IsCache c → AllByRecursion (λ r. r.set ≡ set) (ranges_of c) → IfSome c.current (HaveHeads set heads)
    → Fits film limits set c.current c.others heads seeking waiting switch failure ended h
    → back film.packets h ≡ back_of heads c
back-is film limits set c heads seeking waiting switch failure ended h i e have f =
    let ps = film.packets in
    let st = stand film.packets h in
    let parts = front_one (λ r. r.set ≡ set) c.current c.others e in
    let ahead = forward-is film limits set c.current c.others heads seeking waiting switch failure ended h i.current parts.0 have f in
    let all : sum_by (range_weight ps (selected h)) (stand_ranges st) ≡ weight_of (ranges_of c) =
    ap (λ (s : Choice). sum_by (range_weight ps s) (stand_ranges st)) f.set_is
    ∙ ap (λ (o : Option Range). sum_by (range_weight ps set) (option_map_or (λ r. r ∷ st.others) o st.others)) f.current_is
    ∙ ap (λ (os : List Range). sum_by (range_weight ps set) (option_map_or (λ r. r ∷ os) (option_map as_range c.current) os)) f.others_are
    ∙ ap (λ (rs : List Range). sum_by (range_weight ps set) rs) (front_is c.current c.others)
    ∙ all_weigh ps set (ranges_of c) (front_all IsRange c.current c.others i.current (others_range c.others i.others)) e (front_all (HoldsFilm ps) c.current c.others f.held f.all_held) in
    ap (λ n. n - forward ps h) all ∙ ap (λ n. weight_of (ranges_of c) - n) ahead

-- ---- all drops

pub record Trimmed (film : Film) (limits : Limits) (set : Choice) (c : CacheState) (heads : Heads) (seeking : Option Target) (waiting : Choice) (switch : Switch)
    (failure : Option Failure) (ended : Choice) (j : List DemuxRecord) : Type 0 where
  pub fits : Fits film limits set c.current c.others heads seeking waiting switch failure ended (reverse j)
  pub still : used.is_still film.packets (reverse j) ≡ true

one_more : (film : Film) (limits : Limits) (set : Choice) (c c' : CacheState) (heads : Heads)
    (seeking : Option Target) (waiting : Choice) (switch : Switch) (failure : Option Failure) (ended : Choice) (j : List DemuxRecord) (by : ℕ) (m : Removal)
    → limits ≡ c.limits → IsCache c → AllByRecursion (λ r. r.set ≡ set) (ranges_of c) → IfSome c.current (HaveHeads set heads) → Drops heads m c c'
    → Trimmed film limits set c heads seeking waiting switch failure ended j
    → Trimmed film limits set c' heads seeking waiting switch failure ended (j ++ Dropped by m ∷ [])
one_more film limits set c c' heads seeking waiting switch failure ended j by m lim i e have d t =
    let h = reverse j in
    let parts = front_one (λ r. r.set ≡ set) c.current c.others e in
    let is = drop_is film.packets set heads (λ k. head film.packets k h) c.current c'.current c.others c'.others d.cut i.current i.others parts.0 parts.1 t.fits.held t.fits.all_held t.fits.places d.ranges in
    let counts : back_of heads c ≡ back film.packets h = sym (back-is film limits set c heads seeking waiting switch failure ended h i e have t.fits) in
    let over : limits.back < back_of heads c = subst (λ (l : Limits). l.back < back_of heads c) (sym lim) d.over in
    let told : m ≡ removal_by (Limit (back_of heads c) limits.back) d.cut =
    d.told ∙ ap (λ (l : Limits). removal_by (Limit (back_of heads c) l.back) d.cut) (sym lim) in
    let fits = dropped_step film limits set c.current c'.current c.others c'.others heads seeking waiting switch failure ended h by (back_of heads c) d.cut t.fits t.still is counts over in
    let still = still_after film.packets h by (back_of heads c) limits.back d.cut t.still in
    let same : Dropped by (removal_by (Limit (back_of heads c) limits.back) d.cut) ∷ h ≡ reverse (j ++ Dropped by m ∷ []) =
    ap (λ (x : Removal). Dropped by x ∷ h) (sym told) ∙ sym (reverse-push j (Dropped by m)) in
    record {
      fits = subst (λ (x : List DemuxRecord). Fits film limits set c'.current c'.others heads seeking waiting switch failure ended x) same fits;
      still = subst (λ (x : List DemuxRecord). used.is_still film.packets x ≡ true) same still;
    }

pub trims_keep : (film : Film) (limits : Limits) (set : Choice) (heads : Heads)
    (seeking : Option Target) (waiting : Choice) (switch : Switch) (failure : Option Failure) (ended : Choice) (by : ℕ) (c₀ : CacheState) (j₀ : List DemuxRecord) (c : CacheState) (j : List DemuxRecord)
    → limits ≡ c₀.limits → AllByRecursion (λ r. r.set ≡ set) (ranges_of c₀) → IsPlaced set heads waiting seeking c₀.current
    → Trimmed film limits set c₀ heads seeking waiting switch failure ended j₀ → Trims by heads c₀ j₀ c j
    → Trimmed film limits set c heads seeking waiting switch failure ended j
trims_keep film limits set heads seeking waiting switch failure ended by c₀ j₀ _ _ lim e p t none = t
trims_keep film limits set heads seeking waiting switch failure ended by c₀ j₀ _ _ lim e p t (more c j m c' before i d) =
    let so_far = trims_keep film limits set heads seeking waiting switch failure ended by c₀ j₀ c j lim e p t before in
    let still = trimmed by set heads waiting seeking c₀ j₀ c j before in
    one_more film limits set c c' heads seeking waiting switch failure ended j by m (lim ∙ sym still.limits_are) i (still.sets e)
    (have_heads set heads waiting seeking c.current (still.placed p)) d so_far
