-- Over a film's list the joins that a call makes are those of the rule, and none is left to be made.
use Rattle.std.proofs.Common.{◌≡◌, ℕ, Bool, true, false, List, [], ◌∷◌, Option, Some, None, refl, ap, sym, subst, ◌∙◌, inl, inr}
use Rattle.std.specs.Prelude.{IfSome, is_some, map}
use Rattle.std.specs.List.{AllByRecursion, list_any}
use Rattle.std.specs.Option.{option_map}
use Rattle.std.proofs.lemmas.Bool.{cases_Bool}
use Rattle.mc_packet.specs.declared.choice.Choice.{Choice}
use Rattle.mc_packet.specs.declared.walk.Mark.{Mark}
use Rattle.mc_journal.specs.declared.record.Removal.{Removal}
use Rattle.mc_packet.specs.declared.packet.Packet.{Packet}
use Rattle.mc_packet.specs.Choices.{is_distinct}
use Rattle.mc_journal.specs.Films.{IsRising}
use Rattle.mc_journal.specs.Ranges.{Range, touches}
use Rattle.mc_journal.specs.Stands.{Stand, first_that}
use Rattle.mc_journal.specs.Allowed.{touched}
use Rattle.mc_queue.specs.Queue.{QueueState}
use Rattle.mc_range.specs.Range.{RangeState, IsRange, IsRoomier, QueueIn, QueuesIn, Roomier, as_range, meets_range}
use Rattle.mc_cache.specs.Cache.{CacheState, IsCache, IsOther, stand_of}
use Rattle.mc_cache.specs.Changing.{RoomierIn}
use Rattle.mc_cache.specs.Filmed.{AreTouched, HoldsAll, HoldsIn, joined_times}
use Rattle.mc_cache.specs.Joining.{IsJoinedUp, JoinsFrom}
use Rattle.mc_cache.proofs.Joinings.{joins_film, meets_is}
use Rattle.mc_cache.proofs.Roomy.{room_film, room_stand}
use Rattle.mc_cache.proofs.Standing.{both_all, stand_is}

-- ---- a range with more room is one

queue_roomier : (t : Option ℕ) (m : Mark) (o n : Option QueueState) → QueueIn t m o → Roomier o n → QueueIn t m n
queue_roomier t m None n i r = rw r tt
queue_roomier t m (Some q) None i r = absurd r
queue_roomier t m (Some q) (Some k) i r = rw r.0 (i.0, i.1, record { rise = i.2.rise; fits = i.2.fits })

range_roomier : (o n : RangeState) → IsRange o → IsRoomier o n → IsRange n
range_roomier o n i r = record {
  distinct = subst (λ (s : Choice). is_distinct s ≡ true) (sym r.set_is) i.distinct;
  held = subst (λ (s : Choice). QueuesIn s n.mark n.queues) (sym r.set_is) (subst (λ (m : Mark). QueuesIn o.set m n.queues) (sym r.mark_is) (record {
    video = queue_roomier o.set.video o.mark o.queues.video n.queues.video i.held.video r.queues.video;
    audio = queue_roomier o.set.audio o.mark o.queues.audio n.queues.audio i.held.audio r.queues.audio;
    sub = queue_roomier o.set.sub o.mark o.queues.sub n.queues.sub i.held.sub r.queues.sub;
  }));
}

current_roomier : (o n : Option RangeState) → RoomierIn o n → IfSome o IsRange → IfSome n IsRange
current_roomier None n r i = rw r tt
current_roomier (Some o) None r i = absurd r
current_roomier (Some o) (Some n) r i = range_roomier o n i r

-- ---- none is left that touches

none_touches : (test : RangeState → Bool) (seen : Range → Bool) (rs : List RangeState) → AllByRecursion (λ r. test r ≡ seen (as_range r)) rs → list_any test rs ≡ false
    → is_some (first_that seen (map as_range rs)) ≡ false
none_touches test seen [] a e = refl
none_touches test seen (r ∷ rs) a e = elim (cases_Bool (test r)) [
  | inl y ↦ absurd (let f : true ≡ false = rw y at e in cc)
  | inr n ↦
      let f : list_any test rs ≡ false = rw n at e in
      let z : seen (as_range r) ≡ false = sym a.0 ∙ n in
      rw z (none_touches test seen rs a.1 f)
]

-- ---- all joins of a call

pub record Joined (ps : List Packet) (set : Choice) (old new : Stand) (c : Option RangeState) (rs : List RangeState) (n : ℕ) (drops : List Removal) : Type 0 where
  pub none_told : drops ≡ []
  pub stand : joined_times n set old ≡ new
  pub touching : AreTouched n set old
  pub done : touched set new.others new.current ≡ false
  pub current : IfSome c (HoldsIn ps set)
  pub others : AllByRecursion (HoldsIn ps set) rs

abbrev stand_at : Option RangeState → List RangeState → Stand
stand_at c rs = record { current = option_map as_range c; others = map as_range rs }

joins_from : (ps : List Packet) (set : Choice) (c c' : Option RangeState) (rs rs' : List RangeState) (n : ℕ) (drops : List Removal) → IsRising ps → IfSome c IsRange → AllByRecursion IsOther rs
    → IfSome c (HoldsIn ps set) → AllByRecursion (HoldsIn ps set) rs → JoinsFrom c rs c' rs' n drops → Joined ps set (stand_at c rs) (stand_at c' rs') c' rs' n drops
joins_from ps set None c' rs rs' n drops rise i j h g x =
    let none : c' ≡ None = x.0 in
    let same : rs' ≡ rs = x.1 in
    let zero_is : n ≡ 0 = x.2 in
    record {
      none_told = x.3;
      stand = rw zero_is (stand_is None (option_map as_range c') (map as_range rs) (map as_range rs') (ap (λ z. option_map as_range z) (sym none)) (ap (λ zs. map as_range zs) (sym same)));
      touching = rw zero_is tt;
      done = rw none refl;
      current = rw none tt;
      others = rw same g;
    }
joins_from ps set (Some r) None rs rs' n drops rise i j h g x = absurd x
joins_from ps set (Some r) (Some q) rs rs' n drops rise i j h g x =
    let k = joins_film ps set r rs q rs' n drops rise (record { range = i; film = h }) j g x.0 in
    let all = both_all (HoldsIn ps set) (λ z. meets_range q z ≡ touches set (as_range q) (as_range z)) rs' (λ z y. meets_is ps set q z k.range.film y) k.film in
    record {
      none_told = k.none_told;
      stand = k.stand;
      touching = k.touching;
      done = none_touches (meets_range q) (touches set (as_range q)) rs' all x.1;
      current = k.range.film;
      others = k.film;
    }

pub joined_up : (ps : List Packet) (set : Choice) (n : ℕ) (drops : List Removal) (old new : CacheState) → IsRising ps → IsCache old → HoldsAll ps set old → IsJoinedUp n drops old new
    → Joined ps set (stand_of old) (stand_of new) new.current new.others n drops
joined_up ps set n drops old new rise i h j =
    let others : j.roomy.others ≡ old.others = j.room.others_is in
    let film = room_film ps set old j.roomy j.room h in
    let all = joins_from ps set j.roomy.current new.current j.roomy.others new.others n drops rise (current_roomier old.current j.roomy.current j.room.current i.current)
    (subst (λ (rs : List RangeState). AllByRecursion IsOther rs) (sym others) i.others) film.current film.others j.joins in
    subst (λ (st : Stand). Joined ps set st (stand_of new) new.current new.others n drops) (room_stand old j.roomy j.room) all
