-- Over a film's list the drop that the limit asks for is the one of the rules, and what is left is their stand.
use Rattle.std.proofs.Common.{◌≡◌, ℕ, ◌==◌, ◌<◌, ◌≤◌, Bool, true, false, List, [], ◌∷◌, Option, Some, None, refl, ap, sym, subst, ◌∙◌, arith, inl, inr}
use Rattle.std.specs.Prelude.{IfSome, IsSomeAnd, if◌then◌else◌, is_some, map}
use Rattle.std.specs.List.{AllByRecursion, filter}
use Rattle.std.specs.Option.{option_map}
use Rattle.std.proofs.lemmas.Bool.{cases_Bool}
use Rattle.mc_packet.specs.declared.packet.Pos.{Pos}
use Rattle.mc_packet.specs.declared.cache.Heads.{Heads}
use Rattle.mc_packet.specs.declared.choice.Choice.{Choice}
use Rattle.mc_journal.specs.declared.record.Removal.{Removal}
use Rattle.mc_packet.specs.declared.packet.Packet.{Packet}
use Rattle.mc_packet.specs.Choices.{is_distinct}
use Rattle.mc_journal.specs.Films.{rank}
use Rattle.mc_journal.specs.Ranges.{Range, Span}
use Rattle.mc_journal.specs.Stands.{Stand, cut_in, cut_last, cut_range, cut_span, dropped, holds_any, tidied}
use Rattle.mc_journal.specs.Allowed.{MayCut}
use Rattle.mc_journal.specs.Used as used
use Rattle.mc_queue.specs.Queue.{QueueState}
use Rattle.mc_range.specs.declared.cutting.Cut.{Cut}
use Rattle.mc_range.specs.Range.{RangeState, IsRange, as_range, queue_of, span_of, spans_of}
use Rattle.mc_range.specs.Cutting.{IsCut}
use Rattle.mc_range.specs.Filmed.{AreBounds}
use Rattle.mc_range.proofs.FilmCut.{film_cut}
use Rattle.mc_range.proofs.Spared.{cut_lighter, cut_spares}
use Rattle.mc_cache.specs.Cache.{CacheState, IsCache, IsOther, holds, in_front, stand_of, weight_of}
use Rattle.mc_cache.specs.Filmed.{HoldsAll, HoldsIn}
use Rattle.mc_cache.specs.Placed.{HeadsAt, head_of}
use Rattle.mc_cache.specs.Pruning.{CutsLast, CutsRange, Drops, ahead_in, back_of}
use Rattle.mc_cache.proofs.FilmDrops.{cut_well, cuts_span, cut_below, cut_upto}
use Rattle.mc_cache.proofs.Standing.{holds_same}
use Rattle.mc_cache.proofs.Viewed.{kind_heads}

-- ---- the last of the others is cut

no_bounds : (set : Choice) → AreBounds set (λ k. None) None
no_bounds set = record { video = of_none set.video; audio = of_none set.audio; sub = of_none set.sub }
  where
    of_none : (o : Option ℕ) → IfSome o (λ k. let none : Option ℕ = None in none ≡ option_map rank None)
    of_none None = tt
    of_none (Some k) = refl

pub record LastCut (ps : List Packet) (set : Choice) (places : ℕ → ℕ) (place : ℕ) (current : Option Range) (track from to : ℕ) (r : RangeState) (rs new : List RangeState) : Type 0 where
  pub cuts : used.CutsIn ps set places track from to current (as_range r ∷ map as_range rs)
  pub may : MayCut track from to place current (as_range r ∷ map as_range rs)
  pub others_are : filter (holds_any ps set) (cut_last track to (as_range r) (map as_range rs)) ≡ map as_range new
  pub held_all : AllByRecursion (HoldsIn ps set) new

kept_cut : (ps : List Packet) (set : Choice) (r : Range) (q : RangeState) (new : List RangeState) → r ≡ as_range q → holds_any ps set (as_range q) ≡ holds q → HoldsIn ps set q
    → new ≡ (if holds q then q ∷ [] else []) → (filter (holds_any ps set) (r ∷ []) ≡ map as_range new) × AllByRecursion (HoldsIn ps set) new
kept_cut ps set r q new e same all is = elim (cases_Bool (holds q)) [
  | inl y ↦
      let n : new ≡ q ∷ [] = rw y at is in
      let t : holds_any ps set (as_range q) ≡ true = same ∙ y in
      let k : filter (holds_any ps set) (as_range q ∷ []) ≡ as_range q ∷ [] = rw t refl in
      (ap (λ (x : Range). filter (holds_any ps set) (x ∷ [])) e ∙ k ∙ sym (ap (λ (xs : List RangeState). map as_range xs) n), subst (λ (xs : List RangeState). AllByRecursion (HoldsIn ps set) xs) (sym n) (all, tt))
  | inr f ↦
      let n : new ≡ [] = rw f at is in
      let t : holds_any ps set (as_range q) ≡ false = same ∙ f in
      let k : filter (holds_any ps set) (as_range q ∷ []) ≡ [] = rw t refl in
      (ap (λ (x : Range). filter (holds_any ps set) (x ∷ [])) e ∙ k ∙ sym (ap (λ (xs : List RangeState). map as_range xs) n), subst (λ (xs : List RangeState). AllByRecursion (HoldsIn ps set) xs) (sym n) tt)
]

last_cut : (ps : List Packet) (set : Choice) (places : ℕ → ℕ) (place : ℕ) (current : Option Range) (r : RangeState) (rs new : List RangeState) (c : Cut)
    → AllByRecursion IsOther (r ∷ rs) → AllByRecursion (HoldsIn ps set) (r ∷ rs) → CutsLast (r ∷ rs) new c
    → LastCut ps set places place current c.track (rank c.from) (rank c.to) r rs new
last_cut ps set places place current r [] new c i h x =
    let q = x.0 in
    let e = h.0.set_is in
    let well = cut_well None r q c i.0.range x.1 in
    let f = film_cut ps r q (λ k. None) None c i.0.range well.range h.0.film (no_bounds r.set) x.1 in
    let own : HoldsIn ps set q = record { film = f.film; set_is = x.1.set_is ∙ e } in
    let kept = kept_cut ps set (cut_range c.track (rank c.to) (as_range r)) q new (sym f.range) (sym (holds_same ps set q well.range own)) own x.2 in
    let cut : used.IsCut ps set (λ k. None) c.track (rank c.from) (rank c.to) (as_range r) =
    subst (λ (s : Choice). used.IsCut ps s (λ k. None) c.track (rank c.from) (rank c.to) (as_range r)) e f.cut in
    record {
      cuts = cut;
      may = cuts_span ps set (λ k. None) c.track (rank c.from) (rank c.to) (as_range r) well.onward cut;
      others_are = kept.0;
      held_all = kept.1;
    }
last_cut ps set places place current r (o ∷ rs) new c i h x =
    let more = last_cut ps set places place current o rs x.0 c i.1 h.1 x.1 in
    let same : holds_any ps set (as_range r) ≡ true = sym (holds_same ps set r i.0.range h.0) ∙ i.0.some in
    let list : filter (holds_any ps set) (as_range r ∷ cut_last c.track (rank c.to) (as_range o) (map as_range rs)) ≡ as_range r ∷ map as_range x.0 =
    rw same (ap (λ (xs : List Range). as_range r ∷ xs) more.others_are) in
    record {
      cuts = more.cuts;
      may = more.may;
      others_are = list ∙ sym (ap (λ (xs : List RangeState). map as_range xs) x.2);
      held_all = subst (λ (xs : List RangeState). AllByRecursion (HoldsIn ps set) xs) (sym x.2) (h.0, more.held_all);
    }

-- ---- without others the current range is cut

bound_is : (set : Choice) (heads : Heads) (t : Option ℕ) (hd : Option Pos) → ((k : ℕ) → t ≡ Some k → head_of set heads k ≡ hd) → IfSome t (λ k. option_map rank (head_of set heads k) ≡ option_map rank hd)
bound_is set heads None hd k = tt
bound_is set heads (Some n) hd k = ap (λ (o : Option Pos). option_map rank o) (k n refl)

bounds_are : (set : Choice) (heads : Heads) → is_distinct set ≡ true → AreBounds set (λ k. option_map rank (head_of set heads k)) (Some heads)
bounds_are set heads d =
    let k = kind_heads set heads d in
    record {
      video = bound_is set heads set.video heads.video k.video;
      audio = bound_is set heads set.audio heads.audio k.audio;
      sub = bound_is set heads set.sub heads.sub k.sub;
    }

at_head : (o : Option QueueState) (hd : Option Pos) (n : ℕ) → IfSome o (λ q. IsSomeAnd hd (λ p. rank p ≡ n)) → IfSome o (λ q. option_map rank hd ≡ Some n)
at_head None hd n h = tt
at_head (Some q) None n h = absurd h
at_head (Some q) (Some p) n h = ap (λ x. Some x) h

pub record CurrentCut (ps : List Packet) (set : Choice) (heads : Heads) (track from to : ℕ) (r q : RangeState) : Type 0 where
  pub cut : used.IsCut ps set (λ k. option_map rank (head_of set heads k)) track from to (as_range r)
  pub onward : from ≤ to
  pub range_is : cut_range track to (as_range r) ≡ as_range q
  pub film : HoldsIn ps set q

current_cut : (ps : List Packet) (set : Choice) (heads : Heads) (r q : RangeState) (c : Cut) → IsRange r → HoldsIn ps set r → IsCut (Some heads) r q (Some c)
    → CurrentCut ps set heads c.track (rank c.from) (rank c.to) r q
current_cut ps set heads r q c i h x =
    let e = h.set_is in
    let d : is_distinct set ≡ true = subst (λ (s : Choice). is_distinct s ≡ true) e i.distinct in
    let upto : ℕ → Option ℕ = λ k. option_map rank (head_of set heads k) in
    let well = cut_well (Some heads) r q c i x in
    let f = film_cut ps r q upto (Some heads) c i well.range h.film (subst (λ (s : Choice). AreBounds s upto (Some heads)) (sym e) (bounds_are set heads d)) x in
    record {
      cut = subst (λ (s : Choice). used.IsCut ps s upto c.track (rank c.from) (rank c.to) (as_range r)) e f.cut;
      onward = well.onward;
      range_is = sym f.range;
      film = record { film = f.film; set_is = x.set_is ∙ e };
    }

-- where the heads are at their places, the cut is the one up to these
placed_cut : (ps : List Packet) (set : Choice) (heads : Heads) (place : ℕ → ℕ) (r : RangeState) (track from to : ℕ) → HoldsIn ps set r → HeadsAt set heads place r
    → used.IsCut ps set (λ k. option_map rank (head_of set heads k)) track from to (as_range r) → used.IsCut ps set (λ k. Some (place k)) track from to (as_range r)
placed_cut ps set heads place r track from to h a x =
    cut_upto ps set r (λ k. option_map rank (head_of set heads k)) (λ k. Some (place k)) track from to h.film (λ k. at_head (queue_of k r.queues) (head_of set heads k) (place k) (a k)) x

-- ---- the ranges of a cache

pub record RangesCut (ps : List Packet) (set : Choice) (track to : ℕ) (c c' : Option RangeState) (rs rs' : List RangeState) : Type 0 where
  pub stand : (let s : Stand = record { current = option_map as_range c'; others = map as_range rs' } in s) ≡ tidied ps set (cut_in track to (option_map as_range c) (map as_range rs))
  pub current : IfSome c' (HoldsIn ps set)
  pub others : AllByRecursion (HoldsIn ps set) rs'

abbrev stand_at : Option Range → List Range → Stand
stand_at c rs = record { current = c; others = rs }

front_cut : (ps : List Packet) (set : Choice) (heads : Heads) (c c' : Option RangeState) (rs' : List RangeState) (x : Cut) → IfSome c IsRange → IfSome c (HoldsIn ps set)
    → CutsRange heads c [] c' rs' x → RangesCut ps set x.track (rank x.to) c c' [] rs'
front_cut ps set heads None c' rs' x i h k = absurd k.0
front_cut ps set heads (Some r) None rs' x i h k = absurd k.0
front_cut ps set heads (Some r) (Some q) rs' x i h k =
    let one = current_cut ps set heads r q x i h k.0 in
    record {
      stand = ap (λ (rs : List RangeState). stand_at (Some (as_range q)) (map as_range rs)) k.1 ∙ ap (λ z. stand_at (Some z) []) (sym one.range_is);
      current = one.film;
      others = subst (λ (rs : List RangeState). AllByRecursion (HoldsIn ps set) rs) (sym k.1) tt;
    }

ranges_cut : (ps : List Packet) (set : Choice) (heads : Heads) (c c' : Option RangeState) (rs rs' : List RangeState) (x : Cut) → IfSome c IsRange → AllByRecursion IsOther rs
    → IfSome c (HoldsIn ps set) → AllByRecursion (HoldsIn ps set) rs → CutsRange heads c rs c' rs' x → RangesCut ps set x.track (rank x.to) c c' rs rs'
ranges_cut ps set heads c c' [] rs' x i j h g k = front_cut ps set heads c c' rs' x i h k
ranges_cut ps set heads c c' (r ∷ rs) rs' x i j h g k =
    let last = last_cut ps set (λ n. 0) 0 (option_map as_range c) r rs rs' x j g k.0 in
    record {
      stand = ap (λ z. stand_at (option_map as_range z) (map as_range rs')) k.1 ∙ ap (λ zs. stand_at (option_map as_range c) zs) (sym last.others_are);
      current = subst (λ (z : Option RangeState). IfSome z (HoldsIn ps set)) (sym k.1) h;
      others = last.held_all;
    }

pub pruned_stand : (ps : List Packet) (set : Choice) (heads : Heads) (m : Removal) (old new : CacheState) → IsCache old → HoldsAll ps set old → Drops heads m old new
    → stand_of new ≡ tidied ps set (dropped m.track (rank m.to) m.cause (stand_of old))
pruned_stand ps set heads m old new i h d =
    let all = ranges_cut ps set heads old.current new.current old.others new.others d.cut i.current i.others h.current h.others d.ranges in
    all.stand ∙ ap (λ (x : Removal). tidied ps set (dropped x.track (rank x.to) x.cause (stand_of old))) (sym d.told)

pub pruned_holds : (ps : List Packet) (set : Choice) (heads : Heads) (m : Removal) (old new : CacheState) → IsCache old → HoldsAll ps set old → Drops heads m old new → HoldsAll ps set new
pruned_holds ps set heads m old new i h d =
    let all = ranges_cut ps set heads old.current new.current old.others new.others d.cut i.current i.others h.current h.others d.ranges in
    record { current = all.current; others = all.others }

-- ---- the cut that is asked for

front_asked : (ps : List Packet) (set : Choice) (heads : Heads) (place : ℕ → ℕ) (c c' : Option RangeState) (rs' : List RangeState) (x : Cut) → IfSome c IsRange → IfSome c (HoldsIn ps set) → IfSome c (HeadsAt set heads place)
    → CutsRange heads c [] c' rs' x
    → used.CutsIn ps set place x.track (rank x.from) (rank x.to) (option_map as_range c) [] × MayCut x.track (rank x.from) (rank x.to) (place x.track) (option_map as_range c) []
front_asked ps set heads place None c' rs' x i h a k = absurd k.0
front_asked ps set heads place (Some r) None rs' x i h a k = absurd k.0
front_asked ps set heads place (Some r) (Some q) rs' x i h a k =
    let one = current_cut ps set heads r q x i h k.0 in
    let cut = placed_cut ps set heads place r x.track (rank x.from) (rank x.to) h a one.cut in
    (cut, (cuts_span ps set (λ n. Some (place n)) x.track (rank x.from) (rank x.to) (as_range r) one.onward cut, cut_below ps set place x.track (rank x.from) (rank x.to) (as_range r) cut))

asked : (ps : List Packet) (set : Choice) (heads : Heads) (place : ℕ → ℕ) (c c' : Option RangeState) (rs rs' : List RangeState) (x : Cut) → IfSome c IsRange → AllByRecursion IsOther rs
    → IfSome c (HoldsIn ps set) → AllByRecursion (HoldsIn ps set) rs → IfSome c (HeadsAt set heads place) → CutsRange heads c rs c' rs' x
    → used.CutsIn ps set place x.track (rank x.from) (rank x.to) (option_map as_range c) (map as_range rs) × MayCut x.track (rank x.from) (rank x.to) (place x.track) (option_map as_range c) (map as_range rs)
asked ps set heads place c c' [] rs' x i j h g a k = front_asked ps set heads place c c' rs' x i h a k
asked ps set heads place c c' (r ∷ rs) rs' x i j h g a k =
    let last = last_cut ps set place (place x.track) (option_map as_range c) r rs rs' x j g k.0 in
    (last.cuts, last.may)

pub pruned_cut : (ps : List Packet) (set : Choice) (heads : Heads) (place : ℕ → ℕ) (m : Removal) (old new : CacheState) → IsCache old → HoldsAll ps set old → IfSome old.current (HeadsAt set heads place)
    → Drops heads m old new → used.CutsIn ps set place m.track (rank m.from) (rank m.to) (stand_of old).current (stand_of old).others
pruned_cut ps set heads place m old new i h a d =
    let both = asked ps set heads place old.current new.current old.others new.others d.cut i.current i.others h.current h.others a d.ranges in
    subst (λ (x : Removal). used.CutsIn ps set place x.track (rank x.from) (rank x.to) (stand_of old).current (stand_of old).others) (sym d.told) both.0

pub pruned_may : (ps : List Packet) (set : Choice) (heads : Heads) (place : ℕ → ℕ) (m : Removal) (old new : CacheState) → IsCache old → HoldsAll ps set old → IfSome old.current (HeadsAt set heads place)
    → Drops heads m old new → MayCut m.track (rank m.from) (rank m.to) (place m.track) (stand_of old).current (stand_of old).others
pruned_may ps set heads place m old new i h a d =
    let both = asked ps set heads place old.current new.current old.others new.others d.cut i.current i.others h.current h.others a d.ranges in
    subst (λ (x : Removal). MayCut x.track (rank x.from) (rank x.to) (place x.track) (stand_of old).current (stand_of old).others) (sym d.told) both.1

-- ---- the heads stay where they were

-- a span that begins further on is one still
cut_some : (b : Bool) (to : ℕ) (o : Option Span) → is_some (if b then option_map (cut_span to) o else o) ≡ is_some o
cut_some true to None = refl
cut_some true to (Some s) = refl
cut_some false to o = refl

queue_there : (track to k : ℕ) (r q : RangeState) → cut_range track to (as_range r) ≡ as_range q → is_some (spans_of q.queues k) ≡ is_some (spans_of r.queues k)
queue_there track to k r q e = ap (λ (x : Range). is_some (x.spans k)) (sym e) ∙ cut_some (k == track) to (spans_of r.queues k)

still_there : (o n : Option QueueState) (P : Type 0) → is_some (option_map span_of n) ≡ is_some (option_map span_of o) → IfSome o (λ q. P) → IfSome n (λ q. P)
still_there o None P e h = tt
still_there None (Some q) P e h = absurd (cc)
still_there (Some r) (Some q) P e h = h

heads_in : (ps : List Packet) (set : Choice) (heads : Heads) (place : ℕ → ℕ) (c c' : Option RangeState) (rs rs' : List RangeState) (x : Cut) → IfSome c IsRange → IfSome c (HoldsIn ps set)
    → IfSome c (HeadsAt set heads place) → CutsRange heads c rs c' rs' x → IfSome c' (HeadsAt set heads place)
heads_in ps set heads place c c' (r ∷ rs) rs' x i h a k = subst (λ (z : Option RangeState). IfSome z (HeadsAt set heads place)) (sym k.1) a
heads_in ps set heads place None c' [] rs' x i h a k = absurd k.0
heads_in ps set heads place (Some r) None [] rs' x i h a k = absurd k.0
heads_in ps set heads place (Some r) (Some q) [] rs' x i h a k =
    let one = current_cut ps set heads r q x i h k.0 in
    λ n. still_there (queue_of n r.queues) (queue_of n q.queues) (IsSomeAnd (head_of set heads n) (λ p. rank p ≡ place n)) (queue_there x.track (rank x.to) n r q one.range_is) (a n)

pub pruned_heads : (ps : List Packet) (set : Choice) (heads : Heads) (place : ℕ → ℕ) (m : Removal) (old new : CacheState) → IsCache old → HoldsAll ps set old → IfSome old.current (HeadsAt set heads place)
    → Drops heads m old new → IfSome new.current (HeadsAt set heads place)
pruned_heads ps set heads place m old new i h a d = heads_in ps set heads place old.current new.current old.others new.others d.cut i.current h.current a d.ranges

-- ---- what lies at the heads or behind them stays, and what is in front of them gets less

spares_in : (heads : Heads) (c c' : Option RangeState) (rs rs' : List RangeState) (x : Cut) → CutsRange heads c rs c' rs' x → ahead_in heads c' ≡ ahead_in heads c
spares_in heads c c' (r ∷ rs) rs' x k = ap (λ z. ahead_in heads z) k.1
spares_in heads None c' [] rs' x k = absurd k.0
spares_in heads (Some r) None [] rs' x k = absurd k.0
spares_in heads (Some r) (Some q) [] rs' x k = cut_spares heads r q (Some x) k.0

last_lighter : (rs new : List RangeState) (x : Cut) → AllByRecursion IsOther rs → CutsLast rs new x → weight_of new < weight_of rs
last_lighter [] new x i k = absurd k
last_lighter (r ∷ []) new x i k =
    let l = cut_lighter None r k.0 x i.0.range k.1 in
    let e = k.2 in
    rw e (elim (cases_Bool (holds k.0)) [ inl y ↦ rw y (omega arith) | inr n ↦ rw n (omega arith) ])
last_lighter (r ∷ o ∷ rs) new x i k =
    let more = last_lighter (o ∷ rs) k.0 x i.1 k.1 in
    let e = k.2 in
    rw e (omega arith)

front_lighter : (c : Option RangeState) (rs rs' : List RangeState) → weight_of rs' < weight_of rs → weight_of (in_front c rs') < weight_of (in_front c rs)
front_lighter None rs rs' l = l
front_lighter (Some r) rs rs' l = omega arith

lighter_in : (heads : Heads) (c c' : Option RangeState) (rs rs' : List RangeState) (x : Cut) → IfSome c IsRange → AllByRecursion IsOther rs → CutsRange heads c rs c' rs' x
    → weight_of (in_front c' rs') < weight_of (in_front c rs)
lighter_in heads c c' (r ∷ rs) rs' x i j k = let e = k.1 in rw e (front_lighter c (r ∷ rs) rs' (last_lighter (r ∷ rs) rs' x j k.0))
lighter_in heads None c' [] rs' x i j k = absurd k.0
lighter_in heads (Some r) None [] rs' x i j k = absurd k.0
lighter_in heads (Some r) (Some q) [] rs' x i j k =
    let l = cut_lighter (Some heads) r q x i k.0 in
    let e = k.1 in
    rw e (omega arith)

pub pruned_spares : (heads : Heads) (m : Removal) (old new : CacheState) → Drops heads m old new → ahead_in heads new.current ≡ ahead_in heads old.current
pruned_spares heads m old new d = spares_in heads old.current new.current old.others new.others d.cut d.ranges

pub pruned_less : (heads : Heads) (m : Removal) (old new : CacheState) → IsCache old → Drops heads m old new → back_of heads new < back_of heads old
pruned_less heads m old new i d =
    let s = pruned_spares heads m old new d in
    let l = lighter_in heads old.current new.current old.others new.others d.cut i.current i.others d.ranges in
    let o = d.over in
    omega arith
