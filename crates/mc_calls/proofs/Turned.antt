-- A seek, or a call that is refused, leaves a demuxer that stands for the film.
use Rattle.std.proofs.Common.{◌≡◌, ℕ, Bool, true, false, Option, Some, None, List, [], ◌∷◌, ◌++◌, refl, ap, sym, subst, ◌∙◌}
use Rattle.std.specs.Prelude.{map, reverse, is_some, IfSome, ℤ}
use Rattle.std.specs.List.{AllByRecursion, find}
use Rattle.std.specs.Option.{option_map}
use Rattle.mc_packet.specs.declared.choice.Choice.{Choice}
use Rattle.mc_packet.specs.declared.choice.Dir.{Dir}
use Rattle.mc_packet.specs.declared.choice.Why.{Why}
use Rattle.mc_packet.specs.declared.cache.Heads.{Heads}
use Rattle.mc_packet.specs.declared.cache.Limits.{Limits}
use Rattle.mc_journal.specs.declared.record.Sought.{Sought as How}
use Rattle.mc_journal.specs.declared.record.Sought.TheVariants.{Cached, Sent}
use Rattle.mc_journal.specs.declared.record.DemuxRecord.{DemuxRecord}
use Rattle.mc_journal.specs.declared.record.DemuxRecord.TheVariants.{Sought, Refused}
use Rattle.mc_packet.specs.declared.packet.Packet.{Packet}
use Rattle.mc_packet.specs.Choices.{is_distinct, is_empty, nothing}
use Rattle.mc_journal.specs.Films.{Film}
use Rattle.mc_journal.specs.Ranges.{Range, serves as film_serves, served_head}
use Rattle.mc_journal.specs.Stands.{Stand, stand, first_that, chosen, left, tidied, ranges_of as stand_ranges}
use Rattle.mc_journal.specs.Views.{head, chosen_head}
use Rattle.mc_journal.specs.Allowed.{how_by, is_served}
use Rattle.mc_journal.specs.Used.{TellsWhy, is_still}
use Rattle.mc_range.specs.Range.{RangeState, IsRange, as_range}
use Rattle.mc_range.specs.Serving.{AreHeads, HoldsFilm, heads_of}
use Rattle.mc_range.proofs.Films.{film_heads}
use Rattle.mc_cache.specs.Cache.{CacheState, IsCache, in_front, ranges_of, stand_of}
use Rattle.mc_cache.specs.Changing.{heads_in, serves, server}
use Rattle.mc_cache.specs.Filmed.{HoldsAll, HoldsIn}
use Rattle.mc_cache.proofs.Lists.{found_passes}
use Rattle.mc_cache.proofs.Standing.{chosen_holds, chosen_stand, left_holds, left_stand, server_film}
use Rattle.mc_calls.specs.State.{DemuxState}
use Rattle.mc_calls.specs.Demuxers.{IsDemux}
use Rattle.mc_calls.specs.Film.{Fits, PlacesAre, StandsFor}
use Rattle.mc_calls.specs.Keeping.{IsRoomy}
use Rattle.mc_calls.specs.Seeking.{Goes, IsRefused, Turns, heads_after, heads_or, how_of, target_after}
use Rattle.mc_calls.proofs.Failing.{reverse-push}
use Rattle.mc_calls.proofs.Places.{heads_places}
use Rattle.mc_calls.proofs.Quiet.{refused_step}
use Rattle.mc_calls.proofs.Seeking.{cached_step, no_follow, sent_step}
use Rattle.mc_calls.proofs.Sought.{turned_all, turned_limits, turned_placed}
use Rattle.mc_calls.proofs.Trimmed.{trimmed}
use Rattle.mc_calls.proofs.Trims.{trims_keep}
use Rattle.mc_calls.proofs.Recalled.{goes_tied, own_tied}

-- ---- a refusal

pub refused_keeps : (film : Film) (old new : DemuxState) (by : ℕ) (why : Why) → IsRefused by why old new → TellsWhy (reverse old.journal) why → StandsFor film old → StandsFor film new
refused_keeps film old new by why r w s =
    let own : DemuxRecord = Refused by why in
    let push : own ∷ reverse old.journal ≡ reverse (old.journal ++ own ∷ []) = sym (reverse-push old.journal own) in
    let c : old.cache ≡ new.cache = sym r.cache_is in
    let fits = refused_step film old.cache.limits old.set old.cache.current old.cache.others old.heads old.seeking old.waiting old.switch old.failure old.ended (reverse old.journal) by why s.fits s.still w in
    subst (λ (d : DemuxState). StandsFor film d) (sym r.changed) (record {
      fits = subst (λ (x : CacheState). Fits film x.limits old.set x.current x.others old.heads old.seeking old.waiting old.switch old.failure old.ended (reverse (old.journal ++ own ∷ []))) c
          (subst (λ (h : List DemuxRecord). Fits film old.cache.limits old.set old.cache.current old.cache.others old.heads old.seeking old.waiting old.switch old.failure old.ended h) push fits);
      still = subst (λ (h : List DemuxRecord). is_still film.packets h ≡ true) push refl;
      tied = own_tied old own new.cache r.cache_is (record { switch = refl; number = refl; upto = refl; marks = refl }) s.tied;
      known = s.known;
    })

-- ---- with more room

goes_room : (old new : DemuxState) (by n : ℕ) (t : ℤ) (dir : Dir) (how : How) → Goes by t dir how (record old { spare = n }) new → Goes by t dir how old new
goes_room old new by n t dir how g = record {
  turned = g.turned;
  is_cache = g.is_cache;
  turns = g.turns;
  how_is = g.how_is;
  trims = g.trims;
  changed = g.changed;
  limits_are = g.limits_are;
  wrote = g.wrote;
}

pub roomy_goes : (old mid new : DemuxState) (by : ℕ) (t : ℤ) (dir : Dir) (how : How) → IsRoomy old mid → Goes by t dir how mid new → Goes by t dir how old new
roomy_goes old mid new by t dir how r g = goes_room old new by mid.spare t dir how (subst (λ (x : DemuxState). Goes by t dir how x new) r.changed g)

-- ---- over the film's list

holds_one : (ps : List Packet) (set : Choice) (o : Option RangeState) → IfSome o (HoldsFilm ps) → IfSome o (λ r. r.set ≡ set) → IfSome o (HoldsIn ps set)
holds_one ps set None h e = tt
holds_one ps set (Some r) h e = record { film = h; set_is = e }

holds_each : (ps : List Packet) (set : Choice) (rs : List RangeState) → AllByRecursion (HoldsFilm ps) rs → AllByRecursion (λ r. r.set ≡ set) rs → AllByRecursion (HoldsIn ps set) rs
holds_each ps set [] h e = tt
holds_each ps set (r ∷ rs) h e = (record { film = h.0; set_is = e.0 }, holds_each ps set rs h.1 e.1)

pub holds_all : (ps : List Packet) (set : Choice) (c : CacheState) → IfSome c.current (HoldsFilm ps) → AllByRecursion (HoldsFilm ps) c.others → AllByRecursion (λ r. r.set ≡ set) (ranges_of c) → HoldsAll ps set c
holds_all ps set c h hs e =
    let parts = by_front c.current c.others e in
    record { current = holds_one ps set c.current h parts.0; others = holds_each ps set c.others hs parts.1 }
  where
    by_front : (o : Option RangeState) (rs : List RangeState) → AllByRecursion (λ r. r.set ≡ set) (in_front o rs) → IfSome o (λ r. r.set ≡ set) × AllByRecursion (λ r. r.set ≡ set) rs
    by_front None rs e = (tt, e)
    by_front (Some r) rs e = e

pub film_one : (ps : List Packet) (set : Choice) (o : Option RangeState) → IfSome o (HoldsIn ps set) → IfSome o (HoldsFilm ps)
film_one ps set None h = tt
film_one ps set (Some r) h = h.film

film_each : (ps : List Packet) (set : Choice) (rs : List RangeState) → AllByRecursion (HoldsIn ps set) rs → AllByRecursion (HoldsFilm ps) rs
film_each ps set [] h = tt
film_each ps set (r ∷ rs) h = (h.0.film, film_each ps set rs h.1)

-- the ranges that the journal leaves are those of the cache
pub stand_is : (ps : List Packet) (h : List DemuxRecord) (c : CacheState) → (stand ps h).current ≡ option_map as_range c.current → (stand ps h).others ≡ map as_range c.others → stand ps h ≡ stand_of c
stand_is ps h c e f =
    ap (λ (o : Option Range). let s : Stand = record { current = o; others = (stand ps h).others } in s) e
    ∙ ap (λ (rs : List Range). let s : Stand = record { current = option_map as_range c.current; others = rs } in s) f

-- ---- the heads of the range that serves

some_option : (o : Option RangeState) → is_some (option_map as_range o) ≡ is_some o
some_option None = refl
some_option (Some r) = refl

served_heads : (ps : List Packet) (set : Choice) (heads : Heads) (t : ℤ) (dir : Dir) (r : RangeState) (o : Option Heads) → heads_of r set t dir ≡ o → is_some o ≡ true
    → IfSome o (λ h. AreHeads set (served_head ps set dir t (as_range r)) h) → AreHeads set (served_head ps set dir t (as_range r)) (heads_or heads o)
served_heads ps set heads t dir r None e s h = absurd (cc)
served_heads ps set heads t dir r (Some x) e s h = h

served_places : (ps : List Packet) (set : Choice) (heads : Heads) (t : ℤ) (dir : Dir) (rs : List RangeState) (o : Option RangeState) → find (serves set t dir) rs ≡ o → is_distinct set ≡ true
    → IfSome o IsRange → IfSome o (HoldsIn ps set)
    → IfSome o (PlacesAre set (heads_or heads (heads_in set t dir o)) (λ track. chosen_head ps set dir t track (option_map as_range o)))
served_places ps set heads t dir rs None f d i h = tt
served_places ps set heads t dir rs (Some r) f d i h =
    let some : is_some (heads_of r set t dir) ≡ true = found_passes (serves set t dir) rs r f in
    heads_places set (heads_or heads (heads_of r set t dir)) (served_head ps set dir t (as_range r)) r i h.set_is
    (served_heads ps set heads t dir r (heads_of r set t dir) refl some (film_heads ps r set t dir h.film d))

-- ---- the step of a seek

cached_keeps : (film : Film) (old : DemuxState) (turned : CacheState) (by : ℕ) (t : ℤ) (dir : Dir) → IsDemux old → StandsFor film old → is_empty old.set ≡ false
    → IsCache turned → Turns old.set t dir Cached old.cache turned → Cached ≡ how_of t dir old
    → Fits film old.cache.limits old.set turned.current turned.others (heads_after t dir old) None nothing old.switch None nothing (Sought by old.set t dir Cached ∷ reverse old.journal)
cached_keeps film old turned by t dir i s some it c how =
    let ps = film.packets in
    let set = old.set in
    let h = reverse old.journal in
    let test = film_serves ps set dir t in
    let all = holds_all ps set old.cache s.fits.held s.fits.all_held i.sets in
    let new = chosen_holds ps set t dir old.cache turned all c in
    let is = stand_is ps h old.cache s.fits.current_is s.fits.others_are in
    let found : first_that test (stand_ranges (stand ps h)) ≡ option_map as_range (server set t dir old.cache) =
    ap (λ (x : Stand). first_that test (stand_ranges x)) is ∙ server_film ps set t dir old.cache i.cache all in
    let served : is_served ps h set dir t ≡ true =
    ap (λ (o : Option Range). is_some o) found ∙ some_option (server set t dir old.cache) ∙ from_how (is_some (server set t dir old.cache)) how in
    let stands : tidied ps set (chosen test (stand ps h)) ≡ stand_of turned =
    ap (λ (x : Stand). tidied ps set (chosen test x)) is ∙ sym (chosen_stand ps set t dir old.cache turned i.cache all c) in
    let range = subst (λ (o : Option RangeState). IfSome o IsRange) c.current_is it.current in
    let own = subst (λ (o : Option RangeState). IfSome o (HoldsIn ps set)) c.current_is new.current in
    let places = served_places ps set old.heads t dir (ranges_of old.cache) (server set t dir old.cache) refl i.distinct range own in
    let at = subst (λ (o : Option Range). IfSome (server set t dir old.cache) (PlacesAre set (heads_after t dir old) (λ track. chosen_head ps set dir t track o))) (sym found) places in
    cached_step film old.cache.limits set old.cache.current old.cache.others old.heads old.seeking old.waiting old.switch old.failure old.ended h by t dir
    turned.current turned.others (heads_after t dir old) s.fits s.still some served
    (ap (λ (x : Stand). x.current) stands) (ap (λ (x : Stand). x.others) stands)
    (film_one ps set turned.current new.current) (film_each ps set turned.others new.others)
    (subst (λ (o : Option RangeState). IfSome o (PlacesAre set (heads_after t dir old) (λ track. head ps track (Sought by set t dir Cached ∷ h)))) (sym c.current_is) at)
  where
    from_how : (b : Bool) → Cached ≡ how_by b → b ≡ true
    from_how true e = refl
    from_how false e = absurd (cc)

sent_keeps : (film : Film) (old : DemuxState) (turned : CacheState) (by : ℕ) (t : ℤ) (dir : Dir) → IsDemux old → StandsFor film old → is_empty old.set ≡ false
    → Turns old.set t dir Sent old.cache turned → Sent ≡ how_of t dir old
    → Fits film old.cache.limits old.set turned.current turned.others (heads_after t dir old) (Some (record { t = t; dir = dir })) nothing old.switch None nothing (Sought by old.set t dir Sent ∷ reverse old.journal)
sent_keeps film old turned by t dir i s some c how =
    let ps = film.packets in
    let set = old.set in
    let h = reverse old.journal in
    let all = holds_all ps set old.cache s.fits.held s.fits.all_held i.sets in
    let new = left_holds ps set old.cache turned i.cache all c in
    let is = stand_is ps h old.cache s.fits.current_is s.fits.others_are in
    let served : is_served ps h set dir t ≡ false =
    ap (λ (x : Stand). is_some (first_that (film_serves ps set dir t) (stand_ranges x))) is
    ∙ ap (λ (o : Option Range). is_some o) (server_film ps set t dir old.cache i.cache all) ∙ some_option (server set t dir old.cache) ∙ from_how (is_some (server set t dir old.cache)) how in
    let stands : tidied ps set (left (stand ps h)) ≡ stand_of turned =
    ap (λ (x : Stand). tidied ps set (left x)) is ∙ sym (left_stand ps set old.cache turned i.cache all c) in
    subst (λ (o : Option RangeState). Fits film old.cache.limits set o turned.others (heads_after t dir old) (Some (record { t = t; dir = dir })) nothing old.switch None nothing (Sought by set t dir Sent ∷ h))
    (sym c.no_current)
    (sent_step film old.cache.limits set old.cache.current old.cache.others old.heads old.seeking old.waiting old.switch old.failure old.ended h by t dir
    turned.others (heads_after t dir old) s.fits s.still some served (ap (λ (x : Stand). x.others) stands) (film_each ps set turned.others new.others))
  where
    from_how : (b : Bool) → Sent ≡ how_by b → b ≡ false
    from_how false e = refl
    from_how true e = absurd (cc)

turned_keeps : (film : Film) (old : DemuxState) (turned : CacheState) (by : ℕ) (t : ℤ) (dir : Dir) (how : How) → IsDemux old → StandsFor film old → is_empty old.set ≡ false
    → IsCache turned → Turns old.set t dir how old.cache turned → how ≡ how_of t dir old
    → Fits film old.cache.limits old.set turned.current turned.others (heads_after t dir old) (target_after t dir how) nothing old.switch None nothing (Sought by old.set t dir how ∷ reverse old.journal)
turned_keeps film old turned by t dir Cached i s some it c how = cached_keeps film old turned by t dir i s some it c how
turned_keeps film old turned by t dir Sent i s some it c how = sent_keeps film old turned by t dir i s some c how

still_sought : (ps : List Packet) (h : List DemuxRecord) (by : ℕ) (set : Choice) (t : ℤ) (dir : Dir) (how : How) → is_still ps h ≡ true → is_still ps (Sought by set t dir how ∷ h) ≡ true
still_sought ps h by set t dir how s = let off = no_follow ps h s in rw off refl

-- ---- and then drops come

pub goes_keeps : (film : Film) (old new : DemuxState) (by : ℕ) (t : ℤ) (dir : Dir) (how : How) → IsDemux old → is_empty old.set ≡ false → Goes by t dir how old new → StandsFor film old → StandsFor film new
goes_keeps film old new by t dir how i some g s =
    let own : DemuxRecord = Sought by old.set t dir how in
    let heads = heads_after t dir old in
    let seeking = target_after t dir how in
    let push : own ∷ reverse old.journal ≡ reverse (old.journal ++ own ∷ []) = sym (reverse-push old.journal own) in
    let fits = turned_keeps film old g.turned by t dir how i s some g.is_cache g.turns g.how_is in
    let still = still_sought film.packets (reverse old.journal) by old.set t dir how s.still in
    let lim = turned_limits old.set t dir how old.cache g.turned g.turns in
    let sets = turned_all (λ r. r.set ≡ old.set) old.set t dir how old.cache g.turned g.turns i.sets in
    let placed = turned_placed old.set old.heads t dir how old.cache g.turned g.turns g.how_is g.is_cache sets in
    let all = trims_keep film old.cache.limits old.set heads seeking nothing old.switch None nothing by g.turned (old.journal ++ own ∷ []) new.cache new.journal
    (sym lim) sets placed (record {
      fits = subst (λ (h : List DemuxRecord). Fits film old.cache.limits old.set g.turned.current g.turned.others heads seeking nothing old.switch None nothing h) push fits;
      still = subst (λ (h : List DemuxRecord). is_still film.packets h ≡ true) push still;
    }) g.trims in
    let last = (trimmed by old.set heads nothing seeking g.turned (old.journal ++ own ∷ []) new.cache new.journal g.trims).limits_are ∙ lim in
    subst (λ (d : DemuxState). StandsFor film d) (sym g.changed) (record {
      fits = subst (λ (l : Limits). Fits film l old.set new.cache.current new.cache.others heads seeking nothing old.switch None nothing (reverse new.journal)) (sym last) all.fits;
      still = all.still;
      tied = goes_tied old new by t dir how g (no_follow film.packets (reverse old.journal) s.still) s.tied;
      known = s.known;
    })
