-- Joins and drops leave a demuxer that stands for the film.
use Rattle.std.proofs.Common.{◌≡◌, ℕ, true, false, Option, Some, None, List, [], ◌∷◌, refl, ap, sym, subst, ◌∙◌}
use Rattle.std.specs.Prelude.{is_some, IfSome, map, reverse}
use Rattle.std.specs.List.{AllByRecursion}
use Rattle.std.proofs.lemmas.List.{append-nil}
use Rattle.mc_packet.specs.declared.choice.Choice.{Choice}
use Rattle.mc_packet.specs.declared.cache.Heads.{Heads}
use Rattle.mc_packet.specs.declared.cache.Limits.{Limits}
use Rattle.mc_journal.specs.declared.record.DemuxRecord.{DemuxRecord}
use Rattle.mc_journal.specs.declared.record.DemuxRecord.TheVariants.{Opened, Sought, Switched, Found, Fed, Failed, Starved, Dropped, Joined, Gave, Ended, Overfull, Faulted, Wanting, Shown, Refused}
use Rattle.mc_journal.specs.declared.record.Removal.{Removal}
use Rattle.mc_packet.specs.declared.packet.Packet.{Packet}
use Rattle.mc_journal.specs.Films.{Film}
use Rattle.mc_journal.specs.Ranges.{Range}
use Rattle.mc_journal.specs.Readings.{selected, follows}
use Rattle.mc_journal.specs.Stands.{stand}
use Rattle.mc_journal.specs.Allowed.{joinable, touched}
use Rattle.mc_journal.specs.Used.{is_still, is_begun, are_told, due, joins_now}
use Rattle.mc_range.specs.Range.{RangeState, IsRange, as_range}
use Rattle.mc_cache.specs.Cache.{CacheState, IsCache, IsOther, in_front, ranges_of}
use Rattle.mc_cache.specs.Joining.{JoinsFrom}
use Rattle.mc_cache.specs.Rooms.{meets_any}
use Rattle.mc_calls.specs.declared.waiting.Target.{Target}
use Rattle.mc_calls.specs.declared.waiting.Switch.{Switch}
use Rattle.mc_calls.specs.declared.waiting.Failure.{Failure}
use Rattle.mc_calls.specs.Demuxers.{IsPlaced}
use Rattle.mc_calls.specs.Film.{Fits}
use Rattle.mc_calls.specs.Settling.{Settles, with_drops, with_joins}
use Rattle.mc_calls.proofs.FilmJoins.{HasJoined, holds_in, joins_fit, none_touches}
use Rattle.mc_calls.proofs.FilmRoomy.{roomy_fits}
use Rattle.mc_calls.proofs.Roomy.{range_roomier, sets_same, tied_up}
use Rattle.mc_calls.proofs.SameTracks.{placed_same}
use Rattle.mc_calls.proofs.Trims.{Trimmed, trims_keep}

-- ---- at rest

now_begun : (h : List DemuxRecord) → joins_now h ≡ true → is_begun h ≡ true
now_begun [] e = absurd (cc)
now_begun (r ∷ h) e = refl

pub now_calm : (h : List DemuxRecord) → joins_now h ≡ true → follows h ≡ false
now_calm [] e = refl
now_calm (Switched by set added t ∷ h) e = absurd (cc)
now_calm (Opened by set ∷ h) e = refl
now_calm (Sought by set t dir how ∷ h) e = refl
now_calm (Found by starts ∷ h) e = refl
now_calm (Fed by from to took ending ∷ h) e = refl
now_calm (Failed by before after ∷ h) e = refl
now_calm (Starved by ∷ h) e = refl
now_calm (Dropped by removal ∷ h) e = refl
now_calm (Joined by ∷ h) e = refl
now_calm (Gave by track pos time len sum sync key ∷ h) e = refl
now_calm (Ended by track ending ∷ h) e = refl
now_calm (Overfull by track forward max ∷ h) e = refl
now_calm (Faulted by track before after ∷ h) e = refl
now_calm (Wanting by track ∷ h) e = refl
now_calm (Shown by view ∷ h) e = refl
now_calm (Refused by why ∷ h) e = refl

still_now : (ps : List Packet) (h : List DemuxRecord) → joins_now h ≡ true → are_told (due ps h) ≡ true → joinable ps h ≡ false → is_still ps h ≡ true
still_now ps h now told none =
    let a = now_begun h now in
    let b = now_calm h now in
    rw (a, b, told, now, none) refl

-- ---- after the joins

no_joins : (film : Film) (limits : Limits) (set : Choice) (r : RangeState) (rs : List RangeState) (heads : Heads)
    (seeking : Option Target) (waiting : Choice) (switch : Switch) (failure : Option Failure) (ended : Choice) (j : List DemuxRecord) (drops : List Removal)
    → HasJoined film limits set r rs heads seeking waiting switch failure ended j drops → meets_any r rs ≡ false → joinable film.packets (reverse j) ≡ false
no_joins film limits set r rs heads seeking waiting switch failure ended j drops k m =
    let ps = film.packets in
    let h = reverse j in
    let e : touched set (map as_range rs) (Some (as_range r)) ≡ false = ap (λ (o : Option Range). is_some o) (none_touches ps set r rs k.set_is k.film_others m) in
    ap (λ (s : Choice). touched s (stand ps h).others (stand ps h).current) k.fits.set_is
    ∙ ap (λ (o : Option Range). touched set (stand ps h).others o) k.fits.current_is
    ∙ ap (λ (os : List Range). touched set os (Some (as_range r))) k.fits.others_are ∙ e

no_current : (film : Film) (limits : Limits) (set : Choice) (rs : List RangeState) (heads : Heads)
    (seeking : Option Target) (waiting : Choice) (switch : Switch) (failure : Option Failure) (ended : Choice) (h : List DemuxRecord)
    → Fits film limits set None rs heads seeking waiting switch failure ended h → joinable film.packets h ≡ false
no_current film limits set rs heads seeking waiting switch failure ended h f =
    ap (λ (o : Option Range). touched (selected h) (stand film.packets h).others o) f.current_is

-- what the joins leave, of the ranges alone
record IsAtRest (film : Film) (limits : Limits) (set : Choice) (n : Option RangeState) (ns : List RangeState) (heads : Heads)
    (seeking : Option Target) (waiting : Choice) (switch : Switch) (failure : Option Failure) (ended : Choice) (j : List DemuxRecord) : Type 0 where
  fits : Fits film limits set n ns heads seeking waiting switch failure ended (reverse j)
  still : is_still film.packets (reverse j) ≡ true

joins_rest : (film : Film) (limits : Limits) (set : Choice) (o : Option RangeState) (rs : List RangeState) (n : Option RangeState) (ns : List RangeState) (heads : Heads)
    (seeking : Option Target) (waiting : Choice) (switch : Switch) (failure : Option Failure) (ended : Choice) (j : List DemuxRecord) (by k : ℕ) (drops : List Removal)
    → IfSome o IsRange → AllByRecursion IsOther rs → AllByRecursion (λ r. r.set ≡ set) (in_front o rs)
    → Fits film limits set o rs heads seeking waiting switch failure ended (reverse j) → joins_now (reverse j) ≡ true → are_told (due film.packets (reverse j)) ≡ true
    → JoinsFrom o rs n ns k drops
    → IsAtRest film limits set n ns heads seeking waiting switch failure ended (with_drops by (with_joins by j k) drops)
joins_rest film limits set None rs n ns heads seeking waiting switch failure ended j by k drops i a e f now told js =
    let none = no_current film limits set rs heads seeking waiting switch failure ended (reverse j) f in
    let rest : IsAtRest film limits set None rs heads seeking waiting switch failure ended (with_drops by (with_joins by j 0) []) =
    subst (λ (x : List DemuxRecord). IsAtRest film limits set None rs heads seeking waiting switch failure ended x) (sym (append-nil j))
    (record { fits = f; still = still_now film.packets (reverse j) now told none }) in
    let p = js.0 in
    let q = js.1 in
    let u = js.2 in
    let v = js.3 in
    rw (p, q, u, v) rest
joins_rest film limits set (Some r) rs None ns heads seeking waiting switch failure ended j by k drops i a e f now told js = absurd js
joins_rest film limits set (Some r) rs (Some q) ns heads seeking waiting switch failure ended j by k drops i a e f now told js =
    let ps = film.packets in
    let all = holds_in ps set rs f.all_held e.1 in
    let w = joins_fit film limits set r rs q ns heads seeking waiting switch failure ended j by k drops (record { range = i; film = record { film = f.held; set_is = e.0 } }) a all f now told js.0 in
    let none = no_joins film limits set q ns heads seeking waiting switch failure ended (with_joins by j k) drops w js.1 in
    let same : with_joins by j k ≡ with_drops by (with_joins by j k) drops =
    sym (append-nil (with_joins by j k)) ∙ sym (ap (λ (ds : List Removal). with_drops by (with_joins by j k) ds) w.none_told) in
    subst (λ (x : List DemuxRecord). IsAtRest film limits set (Some q) ns heads seeking waiting switch failure ended x) same
    (record { fits = w.fits; still = still_now ps (reverse (with_joins by j k)) w.now w.told none })

-- ---- and after the drops

pub settle_keeps : (film : Film) (limits : Limits) (set : Choice) (heads : Heads)
    (seeking : Option Target) (waiting : Choice) (switch : Switch) (failure : Option Failure) (ended : Choice) (by : ℕ) (c₀ : CacheState) (j₀ : List DemuxRecord) (c : CacheState) (j : List DemuxRecord)
    → limits ≡ c₀.limits → IsCache c₀ → AllByRecursion (λ r. r.set ≡ set) (ranges_of c₀) → IsPlaced set heads waiting seeking c₀.current
    → Fits film limits set c₀.current c₀.others heads seeking waiting switch failure ended (reverse j₀) → joins_now (reverse j₀) ≡ true → are_told (due film.packets (reverse j₀)) ≡ true
    → Settles by heads c₀ j₀ c j → Trimmed film limits set c heads seeking waiting switch failure ended j
settle_keeps film limits set heads seeking waiting switch failure ended by c₀ j₀ c j lim i e p f now told s =
    let room = s.joins.joins.room in
    let roomy = s.joins.joins.roomy in
    let fits = roomy_fits film limits set c₀ roomy heads seeking waiting switch failure ended (reverse j₀) room f in
    let others : AllByRecursion IsOther roomy.others = subst (λ (xs : List RangeState). AllByRecursion IsOther xs) (sym room.others_is) i.others in
    let rest = joins_rest film limits set roomy.current roomy.others s.cache.current s.cache.others heads seeking waiting switch failure ended j₀ by s.joins.number s.joins.drops
    (range_roomier c₀.current roomy.current room.current i.current) others (sets_same set c₀ roomy room e) fits now told s.joins.joins.joins in
    let t = tied_up c₀ s.cache s.joins.number s.joins.drops i s.joins.joins in
    let same : with_drops by (with_joins by j₀ s.joins.number) s.joins.drops ≡ s.journal = sym s.joins.told in
    trims_keep film limits set heads seeking waiting switch failure ended by s.cache s.journal c j (lim ∙ sym s.joins.joins.limits_is) (t.sets set e)
    (placed_same set heads waiting seeking c₀.current s.cache.current t.same p)
    (record {
      fits = subst (λ (x : List DemuxRecord). Fits film limits set s.cache.current s.cache.others heads seeking waiting switch failure ended (reverse x)) same rest.fits;
      still = subst (λ (x : List DemuxRecord). is_still film.packets (reverse x) ≡ true) same rest.still;
    }) s.trims
