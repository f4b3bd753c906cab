-- Starts that are taken leave a demuxer that stands for the film.
use Rattle.std.proofs.Common.{◌≡◌, ℕ, true, Option, Some, None, List, [], ◌∷◌, ◌++◌, refl, ap, sym, subst, ◌∙◌, drop}
use Rattle.std.specs.Prelude.{IfSome, IsSomeAnd, map, reverse}
use Rattle.std.specs.List.{filter, AllByRecursion}
use Rattle.std.specs.Option.{option_map, option_map_or}
use Rattle.mc_packet.specs.declared.choice.Choice.{Choice}
use Rattle.mc_packet.specs.declared.choice.Starts.{Starts}
use Rattle.mc_packet.specs.declared.cache.Heads.{Heads}
use Rattle.mc_packet.specs.declared.cache.Limits.{Limits}
use Rattle.mc_journal.specs.declared.record.Cause.TheVariants.{TooMany}
use Rattle.mc_journal.specs.declared.record.DemuxRecord.{DemuxRecord}
use Rattle.mc_journal.specs.declared.record.DemuxRecord.TheVariants.{Found}
use Rattle.mc_journal.specs.declared.record.Removal.{Removal}
use Rattle.mc_packet.specs.Choices.{is_distinct, nothing}
use Rattle.mc_journal.specs.Films.{Film}
use Rattle.mc_journal.specs.Ranges.{Range}
use Rattle.mc_journal.specs.Readings.{selected}
use Rattle.mc_journal.specs.Stands.{Stand, add_spans, found, found_with, holds_any, stand}
use Rattle.mc_journal.specs.Views.{head}
use Rattle.mc_journal.specs.Used.{Due, are_told, due, due_found, due_ranges, joins_now}
use Rattle.mc_range.specs.Range.{RangeState, IsBegun, IsRange, as_range}
use Rattle.mc_range.specs.Serving.{HoldsFilm}
use Rattle.mc_cache.specs.Cache.{CacheState, IsCache, left_with, stand_of}
use Rattle.mc_cache.specs.Removals.{removals_of_all}
use Rattle.mc_cache.proofs.Standing.{started_holds, started_stand}
use Rattle.mc_calls.specs.State.{DemuxState}
use Rattle.mc_calls.specs.Demuxers.{IsDemux}
use Rattle.mc_calls.specs.Film.{AreStartsOf, Fits, PlacesAre, StandsFor}
use Rattle.mc_calls.specs.Finding.{AddsTracks, BeginsBy, BeginsRange, TakesStarts}
use Rattle.mc_calls.specs.Outcomes.{AreStartsFor, StartsFit, heads_at}
use Rattle.mc_calls.specs.Settling.{with_drops}
use Rattle.mc_calls.proofs.Adding.{tracks_added}
use Rattle.mc_calls.proofs.Beginning.{IsAdding, begun, is_adding}
use Rattle.mc_calls.proofs.Failing.{reverse-push}
use Rattle.mc_calls.proofs.FilmAdding.{added_film}
use Rattle.mc_calls.proofs.FilmEleventh.{all_cause, all_told, due_eleventh, due_of}
use Rattle.mc_calls.proofs.FilmJoins.{films_of, others_stay}
use Rattle.mc_calls.proofs.FilmMarks.{added_places, added_range, begun_places, place_after}
use Rattle.mc_calls.proofs.FilmParts.{current_film, holds_cache}
use Rattle.mc_calls.proofs.FilmSettled.{settle_keeps}
use Rattle.mc_calls.proofs.FilmStarts.{MayTell, found_step, may_tell}
use Rattle.mc_calls.proofs.Settled.{settled}
use Rattle.mc_calls.proofs.Starting.{starts_awaited}
use Rattle.mc_calls.proofs.Recalled.{starts_tied}

-- where joins come next
pub record IsJoining (film : Film) (d : DemuxState) (starts : Starts) (c : CacheState) (j : List DemuxRecord) : Type 0 where
  pub fits : Fits film d.cache.limits d.set c.current c.others (heads_at starts d.heads) None nothing d.switch d.failure d.ended (reverse j)
  pub now : joins_now (reverse j) ≡ true
  pub told : are_told (due film.packets (reverse j)) ≡ true

-- ---- the ranges before

abbrev FitsIn : Film → DemuxState → Type 0
FitsIn film d = Fits film d.cache.limits d.set d.cache.current d.cache.others d.heads d.seeking d.waiting d.switch d.failure d.ended (reverse d.journal)

stands : (film : Film) (d : DemuxState) → FitsIn film d → stand film.packets (reverse d.journal) ≡ stand_of d.cache
stands film d f = let a = f.current_is in let b = f.others_are in λ i. record { current = a i; others = b i }

founds : (film : Film) (d : DemuxState) (starts : Starts) → FitsIn film d → found (selected (reverse d.journal)) starts (stand film.packets (reverse d.journal)) ≡ found d.set starts (stand_of d.cache)
founds film d starts f =
    ap (λ (s : Choice). found s starts (stand film.packets (reverse d.journal))) f.set_is ∙ ap (λ (s : Stand). found d.set starts s) (stands film d f)

dues : (film : Film) (d : DemuxState) (starts : Starts) → FitsIn film d → due film.packets (Found 5 starts ∷ reverse d.journal) ≡ due_found film.packets d.set (stand_of d.cache)
dues film d starts f =
    ap (λ (s : Choice). due_found film.packets s (stand film.packets (reverse d.journal))) f.set_is ∙ ap (λ (s : Stand). due_found film.packets d.set s) (stands film d f)

-- ---- a new range

begun_heads : (set : Choice) (heads : Heads) (starts : Starts) (place : ℕ → ℕ) (o : Option RangeState) → is_distinct set ≡ true → IfSome o IsRange → IsSomeAnd o (λ r. IsBegun set starts r) → AreStartsFor set starts
    → IfSome o (PlacesAre set (heads_at starts heads) (place_after set starts place))
begun_heads set heads starts place None d i b f = tt
begun_heads set heads starts place (Some r) d i b f = begun_places set heads starts place r i d b f

begins_range : (film : Film) (d : DemuxState) (starts : Starts) (c : CacheState) (j : List DemuxRecord) → IsDemux d → StandsFor film d → IsCache c → AreStartsFor d.set starts → MayTell film (reverse d.journal) starts
    → d.cache.current ≡ None → BeginsRange d.set starts d.cache d.journal c j → IsJoining film d starts c j
begins_range film d starts c j i s ic fit tell none b =
    let ps = film.packets in
    let h = reverse d.journal in
    let all = holds_cache film d.cache.limits d.set d.cache d.heads d.seeking d.waiting d.switch d.failure d.ended h s.fits i.sets in
    let new = started_holds ps d.set starts b.drops d.cache c none all b.started in
    let after : found (selected h) starts (stand ps h) ≡ stand_of c =
    founds film d starts s.fits ∙ ap (λ (o : Option RangeState). found_with d.set starts (stand_of d.cache).others (option_map as_range o)) none
    ∙ sym (started_stand d.set starts b.drops d.cache c i.distinct none b.started) in
    let places = subst (λ (x : Choice). IfSome c.current (PlacesAre d.set (heads_at starts d.heads) (place_after x starts (λ k. head ps k h)))) (sym s.fits.set_is)
    (begun_heads d.set d.heads starts (λ k. head ps k h) c.current i.distinct ic.current b.started.current fit) in
    let fits = found_step film d.cache.limits d.set d.cache.current d.cache.others d.heads d.seeking d.waiting d.switch d.failure d.ended h starts c.current c.others (heads_at starts d.heads)
    s.fits s.still tell.may tell.marked (ap (λ (x : Stand). x.current) after)
    (ap (λ (x : Choice). filter (holds_any ps x) (found (selected h) starts (stand ps h)).others) s.fits.set_is ∙ ap (λ (x : Stand). filter (holds_any ps d.set) x.others) after
    ∙ others_stay ps d.set c.others ic.others new.others)
    (current_film ps d.set c.current new.current) (films_of ps d.set c.others new.others) places in
    let drops : b.drops ≡ removals_of_all (TooMany 11) (drop 9 d.cache.others) =
    b.started.told ∙ ap (λ (o : Option RangeState). removals_of_all (TooMany 11) (drop 9 (left_with o d.cache.others))) none in
    let owed : due ps (Found 5 starts ∷ h) ≡ map due_of b.drops =
    dues film d starts s.fits
    ∙ ap (λ (o : Option RangeState). option_map_or (λ r. []) (option_map as_range o) (due_ranges (TooMany 11) ps d.set (drop 9 (map as_range d.cache.others)))) none
    ∙ due_eleventh ps d.set d.cache.others i.cache.others all.others ∙ ap (λ (ms : List Removal). map due_of ms) (sym drops) in
    let push : Found 5 starts ∷ h ≡ reverse (d.journal ++ Found 5 starts ∷ []) = sym (reverse-push d.journal (Found 5 starts)) in
    let told = all_told film d.cache.limits d.set c.current c.others (heads_at starts d.heads) None nothing d.switch d.failure d.ended (d.journal ++ Found 5 starts ∷ []) 5 11 b.drops
    (record {
      fits = subst (λ (x : List DemuxRecord). Fits film d.cache.limits d.set c.current c.others (heads_at starts d.heads) None nothing d.switch d.failure d.ended x) push fits;
      now = subst (λ (x : List DemuxRecord). joins_now x ≡ true) push refl;
      due = subst (λ (x : List DemuxRecord). due ps x ≡ map due_of b.drops) push owed;
    })
    (subst (λ (ms : List Removal). AllByRecursion (λ m. m.cause ≡ TooMany 11) ms) (sym drops) (all_cause (TooMany 11) (drop 9 d.cache.others))) in
    let same : with_drops 5 (d.journal ++ Found 5 starts ∷ []) b.drops ≡ j = sym b.told in
    subst (λ (x : List DemuxRecord). IsJoining film d starts c x) same (record {
      fits = told.fits;
      now = told.now;
      told = ap (λ (xs : List Due). are_told xs) told.due;
    })

-- ---- tracks that are added

adds_tracks : (film : Film) (d : DemuxState) (starts : Starts) (r : RangeState) (c : CacheState) (j : List DemuxRecord) → IsDemux d → StandsFor film d → IsCache c → IsAdding d starts r → MayTell film (reverse d.journal) starts
    → d.cache.current ≡ Some r → AddsTracks d.waiting starts d.cache c → j ≡ d.journal ++ Found 5 starts ∷ [] → IsJoining film d starts c j
adds_tracks film d starts r c j i s ic w tell e t told =
    let ps = film.packets in
    let h = reverse d.journal in
    let all = holds_cache film d.cache.limits d.set d.cache d.heads d.seeking d.waiting d.switch d.failure d.ended h s.fits i.sets in
    let n = tracks_added d.waiting starts r d.cache c e t in
    let range : IsRange n.current = subst (λ (o : Option RangeState). IfSome o IsRange) n.is ic.current in
    let own : HoldsFilm ps r = subst (λ (o : Option RangeState). IfSome o (HoldsFilm ps)) e s.fits.held in
    let at : PlacesAre d.set d.heads (λ k. head ps k h) r = subst (λ (o : Option RangeState). IfSome o (PlacesAre d.set d.heads (λ k. head ps k h))) e s.fits.places in
    let film_now = added_film ps d.set d.waiting d.heads starts r n.current w.range range w.own n.all own in
    let is = added_range d.set d.waiting d.heads starts r n.current d.cache c w.range range w.own n.all e n.is w.fit w.some t in
    let after : found (selected h) starts (stand ps h) ≡ found_with d.set starts (map as_range d.cache.others) (Some (as_range r)) =
    founds film d starts s.fits ∙ ap (λ (o : Option RangeState). found_with d.set starts (map as_range d.cache.others) (option_map as_range o)) e in
    let current : option_map as_range c.current ≡ Some (add_spans d.set starts (as_range r)) =
    ap (λ (o : Option RangeState). option_map as_range o) n.is ∙ ap (λ (x : Range). Some x) is in
    let places = subst (λ (x : Choice). PlacesAre d.set (heads_at starts d.heads) (place_after x starts (λ k. head ps k h)) n.current) (sym s.fits.set_is)
    (added_places d.set d.waiting d.heads starts (λ k. head ps k h) r n.current w.range range w.own i.distinct n.all w.fit at) in
    let fits = found_step film d.cache.limits d.set d.cache.current d.cache.others d.heads d.seeking d.waiting d.switch d.failure d.ended h starts c.current c.others (heads_at starts d.heads)
    s.fits s.still tell.may tell.marked (ap (λ (x : Stand). x.current) after ∙ sym current)
    (ap (λ (x : Choice). filter (holds_any ps x) (found (selected h) starts (stand ps h)).others) s.fits.set_is ∙ ap (λ (x : Stand). filter (holds_any ps d.set) x.others) after
    ∙ others_stay ps d.set d.cache.others i.cache.others all.others ∙ sym (ap (λ (rs : List RangeState). map as_range rs) n.others_is))
    (subst (λ (o : Option RangeState). IfSome o (HoldsFilm ps)) (sym n.is) film_now)
    (subst (λ (rs : List RangeState). AllByRecursion (HoldsFilm ps) rs) (sym n.others_is) s.fits.all_held)
    (subst (λ (o : Option RangeState). IfSome o (PlacesAre d.set (heads_at starts d.heads) (λ k. head ps k (Found 5 starts ∷ h)))) (sym n.is) places) in
    let owed : due ps (Found 5 starts ∷ h) ≡ [] =
    dues film d starts s.fits
    ∙ ap (λ (o : Option RangeState). option_map_or (λ r. []) (option_map as_range o) (due_ranges (TooMany 11) ps d.set (drop 9 (map as_range d.cache.others)))) e in
    let push : Found 5 starts ∷ h ≡ reverse j = sym (ap (λ (x : List DemuxRecord). reverse x) told ∙ reverse-push d.journal (Found 5 starts)) in
    record {
      fits = subst (λ (x : List DemuxRecord). Fits film d.cache.limits d.set c.current c.others (heads_at starts d.heads) None nothing d.switch d.failure d.ended x) push fits;
      now = subst (λ (x : List DemuxRecord). joins_now x ≡ true) push refl;
      told = subst (λ (x : List DemuxRecord). are_told (due ps x) ≡ true) push (ap (λ (xs : List Due). are_told xs) owed);
    }

-- ---- all of it

begins_by : (film : Film) (d : DemuxState) (starts : Starts) (o : Option RangeState) (c : CacheState) (j : List DemuxRecord) → IsDemux d → StandsFor film d → IsCache c → IsSomeAnd d.kept (StartsFit starts)
    → MayTell film (reverse d.journal) starts → d.cache.current ≡ o → BeginsBy d.set d.waiting starts o d.cache d.journal c j → IsJoining film d starts c j
begins_by film d starts None c j i s ic k tell e b = begins_range film d starts c j i s ic ((starts_awaited d starts i k).of_set e) tell e b
begins_by film d starts (Some r) c j i s ic k tell e b = adds_tracks film d starts r c j i s ic (is_adding d starts r i k e) tell e b.0 b.1

pub starts_keep : (film : Film) (old new : DemuxState) (starts : Starts) → IsDemux old → IsSomeAnd old.kept (StartsFit starts) → IfSome old.kept (AreStartsOf film starts) → TakesStarts starts old new
    → StandsFor film old → StandsFor film new
starts_keep film old new starts i k are t s =
    let heads = heads_at starts old.heads in
    let tell = may_tell film old starts i k are s.fits in
    let n = begins_by film old starts old.cache.current t.begun t.journal i s t.is_cache k tell refl t.begins in
    let g = begun old starts t.begun t.journal i k t.is_cache t.begins in
    let rest = settle_keeps film old.cache.limits old.set heads None nothing old.switch old.failure old.ended 5 t.begun t.journal new.cache new.journal (sym g.has.limits_are) t.is_cache
    (g.has.sets i.sets) g.has.placed n.fits n.now n.told t.settles in
    let lim = (settled 5 old.set heads nothing None t.begun t.journal new.cache new.journal t.is_cache t.settles).limits_are ∙ g.has.limits_are in
    subst (λ (d : DemuxState). StandsFor film d) (sym t.changed) (record {
      fits = subst (λ (l : Limits). Fits film l old.set new.cache.current new.cache.others heads None nothing old.switch old.failure old.ended (reverse new.journal)) (sym lim) rest.fits;
      still = rest.still;
      tied = starts_tied old new starts i k t s.tied;
      known = s.known;
    })
