-- A drop that the limit asks for leaves a demuxer that stands for the film.
use Rattle.std.proofs.Common.{◌≡◌, ℕ, ◌+◌, ◌≤◌, Bool, true, false, ◌&&◌, not, Option, Some, None, List, [], ◌∷◌, refl, ap, sym, subst, ◌∙◌, inl, inr, arith, length, ◌⊎◌}
use Rattle.std.specs.Prelude.{if◌then◌else◌, is_some, IfSome, IsSomeAnd, map, nat_lt, sum_by}
use Rattle.std.specs.List.{filter, AllByRecursion}
use Rattle.std.specs.Option.{option_map}
use Rattle.std.proofs.lemmas.Bool.{cases_Bool}
use Rattle.std.proofs.lemmas.Bool.Decides.{nat_tests}
use Rattle.std.proofs.lemmas.List.Sums.{sum_by-cons}
use Rattle.mc_packet.specs.declared.packet.Packet.{Packet}
use Rattle.mc_packet.specs.declared.packet.Pos.{Pos}
use Rattle.mc_packet.specs.declared.choice.Choice.{Choice}
use Rattle.mc_packet.specs.declared.cache.Heads.{Heads}
use Rattle.mc_packet.specs.declared.walk.Mark.{Mark}
use Rattle.mc_packet.specs.Choices.{is_distinct, passes}
use Rattle.mc_journal.specs.Films.{rank, first}
use Rattle.mc_journal.specs.Ranges.{Range, held}
use Rattle.mc_journal.specs.Stands.{cut_last, cut_range, holds_any}
use Rattle.mc_journal.specs.Views.{range_weight}
use Rattle.mc_journal.specs.Allowed.{MayCut}
use Rattle.mc_journal.specs.Used as used
use Rattle.mc_queue.specs.Queue.{QueueState}
use Rattle.mc_range.specs.declared.cutting.Cut.{Cut}
use Rattle.mc_range.specs.Range.{RangeState, IsRange, QueueIn, QueuesIn, as_range, count, queue_of}
use Rattle.mc_range.specs.Serving.{HoldsFilm, packets_in}
use Rattle.mc_range.specs.Cutting.{IsCut}
use Rattle.mc_range.specs.Filmed.{AreBounds}
use Rattle.mc_range.proofs.FilmCut.{film_cut}
use Rattle.mc_range.proofs.Weighed.{film_weight}
use Rattle.mc_cache.specs.Cache.{IsOther, holds, weight_in, weight_of}
use Rattle.mc_cache.specs.Pruning.{CutsLast}
use Rattle.mc_calls.specs.State.{head_of}
use Rattle.mc_calls.specs.Film.{PlacesAre}
use Rattle.mc_calls.proofs.ByKind.{KindIs, KindsAre, kinds_are}
use Rattle.mc_calls.proofs.Pruned.{range_less}
use Rattle.mc_calls.proofs.Trimmed.{queue_some}
use Rattle.mc_calls.proofs.FilmDrops.{cut_well, cuts_span, cut_upto}

-- ---- a range holds a packet

abbrev pub empty_in : Option QueueState → Bool
empty_in o = not (is_some (first ((packets_in o))))

list_empty : (ps : List Packet) → ((not (is_some (first (ps))) ≡ true) × (length ps ≡ 0)) ⊎ ((not (is_some (first (ps))) ≡ false) × (1 ≤ length ps))
list_empty [] = inl (refl, refl)
list_empty (p ∷ ps) = inr (refl, omega arith)

is_empty_in : (o : Option QueueState) → ((empty_in o ≡ true) × (count o ≡ 0)) ⊎ ((empty_in o ≡ false) × (1 ≤ count o))
is_empty_in None = inl (refl, refl)
is_empty_in (Some q) = list_empty q.packets

above : (n : ℕ) → 1 ≤ n → nat_lt 0 n ≡ true
above n l = grind (arith, nat_tests)

some_counts : (v a s : Option QueueState) → not (empty_in v && (empty_in a && empty_in s)) ≡ nat_lt 0 (count v + (count a + count s))
some_counts v a s = elim (is_empty_in v) [
  | inr y ↦ let e = y.0 in let l = y.1 in rw e (sym (above (count v + (count a + count s)) (omega arith)))
  | inl x ↦ elim (is_empty_in a) [
    | inr y ↦ let d = x.0 in let e = y.0 in let l = y.1 in rw (d, e) (sym (above (count v + (count a + count s)) (omega arith)))
    | inl z ↦ elim (is_empty_in s) [
      | inr y ↦ let d = x.0 in let f = z.0 in let e = y.0 in let l = y.1 in rw (d, f, e) (sym (above (count v + (count a + count s)) (omega arith)))
      | inl y ↦ let d = x.0 in let f = z.0 in let e = y.0 in let i = x.1 in let j = z.1 in let k = y.1 in rw (d, f, e, i, j, k) refl
    ]
  ]
]

passes_own : (ps : List Packet) (r : RangeState) (t : Option ℕ) (m : Mark) (o : Option QueueState) → QueueIn t m o → HoldsFilm ps r
    → ((k : ℕ) → t ≡ Some k → queue_of k r.queues ≡ o) → passes t (λ k. not (is_some (first (held (as_range r) ps k)))) ≡ empty_in o
passes_own ps r None m None i all kind = refl
passes_own ps r None m (Some q) i all kind = absurd (let e = i.0 in cc)
passes_own ps r (Some k) m o i all kind =
    ap (λ (qs : List Packet). not (is_some (first qs))) (all k) ∙ ap (λ (x : Option QueueState). empty_in x) (kind k refl)

no_heads : Heads
no_heads = record { video = None; audio = None; sub = None }

pub holds_same : (ps : List Packet) (set : Choice) (r : RangeState) → IsRange r → r.set ≡ set → HoldsFilm ps r → holds_any ps set (as_range r) ≡ holds r
holds_same ps set r i e all =
    let d : is_distinct set ≡ true = subst (λ (s : Choice). is_distinct s ≡ true) e i.distinct in
    let h : QueuesIn set r.mark r.queues = subst (λ (s : Choice). QueuesIn s r.mark r.queues) e i.held in
    let kinds = kinds_are set no_heads r.mark r.queues d h in
    let v = passes_own ps r set.video r.mark r.queues.video h.video all (λ k x. (kinds.video k x).0) in
    let a = passes_own ps r set.audio r.mark r.queues.audio h.audio all (λ k x. (kinds.audio k x).0) in
    let s = passes_own ps r set.sub r.mark r.queues.sub h.sub all (λ k x. (kinds.sub k x).0) in
    ap (λ b. not (b && (passes set.audio (λ k. not (is_some (first (held (as_range r) ps k)))) && passes set.sub (λ k. not (is_some (first (held (as_range r) ps k))))))) v
    ∙ ap (λ b. not (empty_in r.queues.video && (b && passes set.sub (λ k. not (is_some (first (held (as_range r) ps k))))))) a
    ∙ ap (λ b. not (empty_in r.queues.video && (empty_in r.queues.audio && b))) s
    ∙ some_counts r.queues.video r.queues.audio r.queues.sub

-- ---- the weight of all

one_weighs : (ps : List Packet) (set : Choice) (r : RangeState) → IsRange r → r.set ≡ set → HoldsFilm ps r → range_weight ps set (as_range r) ≡ weight_in r
one_weighs ps set r i e all = subst (λ (s : Choice). range_weight ps s (as_range r) ≡ weight_in r) e (film_weight ps r i all)

pub all_weigh : (ps : List Packet) (set : Choice) (rs : List RangeState) → AllByRecursion IsRange rs → AllByRecursion (λ r. r.set ≡ set) rs → AllByRecursion (HoldsFilm ps) rs
    → sum_by (range_weight ps set) (map as_range rs) ≡ weight_of rs
all_weigh ps set [] i e all = refl
all_weigh ps set (r ∷ rs) i e all =
    let one = one_weighs ps set r i.0 e.0 all.0 in
    let more = all_weigh ps set rs i.1 e.1 all.1 in
    let left = sum_by-cons (range_weight ps set) (as_range r) (map as_range rs) in
    let right = sum_by-cons weight_in r rs in
    omega arith

-- ---- the last of the others is cut

no_bounds : (set : Choice) → AreBounds set (λ k. None) None
no_bounds set = record { video = of_none set.video; audio = of_none set.audio; sub = of_none set.sub }
  where
    of_none : (o : Option ℕ) → IfSome o (λ k. let none : Option ℕ = None in none ≡ option_map rank None)
    of_none None = tt
    of_none (Some k) = refl

pub record LastCut (ps : List Packet) (set : Choice) (places : ℕ → ℕ) (place : ℕ) (current : Option Range) (track from to : ℕ) (r : RangeState) (rs new : List RangeState) : Type 0 where
  pub cuts : used.CutsIn ps set places track from to current (as_range r ∷ map as_range rs)
  pub may : MayCut track from to place current (as_range r ∷ map as_range rs)
  pub others_are : filter (holds_any ps set) (cut_last track to (as_range r) (map as_range rs)) ≡ map as_range new
  pub held_all : AllByRecursion (HoldsFilm ps) new

kept_cut : (ps : List Packet) (set : Choice) (r : Range) (q : RangeState) (new : List RangeState) → r ≡ as_range q → holds_any ps set (as_range q) ≡ holds q → HoldsFilm ps q
    → new ≡ (if holds q then q ∷ [] else []) → (filter (holds_any ps set) (r ∷ []) ≡ map as_range new) × AllByRecursion (HoldsFilm ps) new
kept_cut ps set r q new e same all is = elim (cases_Bool (holds q)) [
  | inl y ↦
      let n : new ≡ q ∷ [] = rw y at is in
      let t : holds_any ps set (as_range q) ≡ true = same ∙ y in
      let k : filter (holds_any ps set) (as_range q ∷ []) ≡ as_range q ∷ [] = rw t refl in
      (ap (λ (x : Range). filter (holds_any ps set) (x ∷ [])) e ∙ k ∙ sym (ap (λ (xs : List RangeState). map as_range xs) n), subst (λ (xs : List RangeState). AllByRecursion (HoldsFilm ps) xs) (sym n) (all, tt))
  | inr f ↦
      let n : new ≡ [] = rw f at is in
      let t : holds_any ps set (as_range q) ≡ false = same ∙ f in
      let k : filter (holds_any ps set) (as_range q ∷ []) ≡ [] = rw t refl in
      (ap (λ (x : Range). filter (holds_any ps set) (x ∷ [])) e ∙ k ∙ sym (ap (λ (xs : List RangeState). map as_range xs) n), subst (λ (xs : List RangeState). AllByRecursion (HoldsFilm ps) xs) (sym n) tt)
]

pub last_cut : (ps : List Packet) (set : Choice) (places : ℕ → ℕ) (place : ℕ) (current : Option Range) (r : RangeState) (rs new : List RangeState) (c : Cut)
    → AllByRecursion IsOther (r ∷ rs) → AllByRecursion (λ r. r.set ≡ set) (r ∷ rs) → AllByRecursion (HoldsFilm ps) (r ∷ rs) → CutsLast (r ∷ rs) new c
    → LastCut ps set places place current c.track (rank c.from) (rank c.to) r rs new
last_cut ps set places place current r [] new c i e all x =
    let q = x.0 in
    let well = cut_well None r q c i.0.range x.1 in
    let f = film_cut ps r q (λ k. None) None c i.0.range well.range all.0 (no_bounds r.set) x.1 in
    let own : q.set ≡ set = x.1.set_is ∙ e.0 in
    let kept = kept_cut ps set (cut_range c.track (rank c.to) (as_range r)) q new (sym f.range) (holds_same ps set q well.range own f.film) f.film x.2 in
    let cut : used.IsCut ps set (λ k. None) c.track (rank c.from) (rank c.to) (as_range r) =
    subst (λ (s : Choice). used.IsCut ps s (λ k. None) c.track (rank c.from) (rank c.to) (as_range r)) e.0 f.cut in
    record {
      cuts = cut;
      may = cuts_span ps set (λ k. None) c.track (rank c.from) (rank c.to) (as_range r) well.onward cut;
      others_are = kept.0;
      held_all = kept.1;
    }
last_cut ps set places place current r (o ∷ rs) new c i e all x =
    let more = last_cut ps set places place current o rs x.0 c i.1 e.1 all.1 x.1 in
    let same = holds_same ps set r i.0.range e.0 all.0 ∙ i.0.some in
    let list : filter (holds_any ps set) (as_range r ∷ cut_last c.track (rank c.to) (as_range o) (map as_range rs)) ≡ as_range r ∷ map as_range x.0 =
    rw same (ap (λ (xs : List Range). as_range r ∷ xs) more.others_are) in
    record {
      cuts = more.cuts;
      may = more.may;
      others_are = list ∙ sym (ap (λ (xs : List RangeState). map as_range xs) x.2);
      held_all = subst (λ (xs : List RangeState). AllByRecursion (HoldsFilm ps) xs) (sym x.2) (all.0, more.held_all);
    }

-- ---- without others the current range is cut

bound_is : (set : Choice) (heads : Heads) (r : RangeState) (t : Option ℕ) (q : Option QueueState) (hd : Option Pos) → KindIs set heads r.queues t q hd
    → IfSome t (λ k. option_map rank (head_of set heads k) ≡ option_map rank hd)
bound_is set heads r None q hd k = tt
bound_is set heads r (Some n) q hd k = ap (λ (o : Option Pos). option_map rank o) (k n refl).1

bounds_are : (set : Choice) (heads : Heads) (r : RangeState) → KindsAre set heads r.queues → AreBounds set (λ k. option_map rank (head_of set heads k)) (Some heads)
bounds_are set heads r k = record {
  video = bound_is set heads r set.video r.queues.video heads.video k.video;
  audio = bound_is set heads r set.audio r.queues.audio heads.audio k.audio;
  sub = bound_is set heads r set.sub r.queues.sub heads.sub k.sub;
}

at_head : (o : Option QueueState) (hd : Option Pos) (n : ℕ) → IfSome o (λ q. IsSomeAnd hd (λ p. rank p ≡ n)) → IfSome o (λ q. option_map rank hd ≡ Some n)
at_head None hd n h = tt
at_head (Some q) None n h = absurd h
at_head (Some q) (Some p) n h = ap (λ x. Some x) h

still_placed : (o n : Option QueueState) (hd : Option Pos) (m : ℕ) → is_some n ≡ is_some o → IfSome o (λ q. IsSomeAnd hd (λ p. rank p ≡ m)) → IfSome n (λ q. IsSomeAnd hd (λ p. rank p ≡ m))
still_placed o None hd m e h = tt
still_placed None (Some q) hd m e h = absurd (cc)
still_placed (Some r) (Some q) hd m e h = h

pub record CurrentCut (ps : List Packet) (set : Choice) (heads : Heads) (places : ℕ → ℕ) (track from to : ℕ) (r q : RangeState) : Type 0 where
  pub cut : used.IsCut ps set (λ k. Some (places k)) track from to (as_range r)
  pub onward : from ≤ to
  pub range_is : cut_range track to (as_range r) ≡ as_range q
  pub film : HoldsFilm ps q
  pub placed : PlacesAre set heads places q

pub current_cut : (ps : List Packet) (set : Choice) (heads : Heads) (places : ℕ → ℕ) (r q : RangeState) (c : Cut) → IsRange r → r.set ≡ set → HoldsFilm ps r
    → PlacesAre set heads places r → IsCut (Some heads) r q (Some c) → CurrentCut ps set heads places c.track (rank c.from) (rank c.to) r q
current_cut ps set heads places r q c i e all at x =
    let d : is_distinct set ≡ true = subst (λ (s : Choice). is_distinct s ≡ true) e i.distinct in
    let h : QueuesIn set r.mark r.queues = subst (λ (s : Choice). QueuesIn s r.mark r.queues) e i.held in
    let upto : ℕ → Option ℕ = λ k. option_map rank (head_of set heads k) in
    let bounds : AreBounds set upto (Some heads) = bounds_are set heads r (kinds_are set heads r.mark r.queues d h) in
    let well = cut_well (Some heads) r q c i x in
    let f = film_cut ps r q upto (Some heads) c i well.range all (subst (λ (s : Choice). AreBounds s upto (Some heads)) (sym e) bounds) x in
    let own : used.IsCut ps set upto c.track (rank c.from) (rank c.to) (as_range r) =
    subst (λ (s : Choice). used.IsCut ps s upto c.track (rank c.from) (rank c.to) (as_range r)) e f.cut in
    record {
      cut = cut_upto ps set r upto (λ k. Some (places k)) c.track (rank c.from) (rank c.to) all (λ k. at_head (queue_of k r.queues) (head_of set heads k) (places k) (at k)) own;
      onward = well.onward;
      range_is = sym f.range;
      film = f.film;
      placed = λ k. still_placed (queue_of k r.queues) (queue_of k q.queues) (head_of set heads k) (places k)
          (queue_some heads k r.queues q.queues (range_less (Some heads) r q c i x).queues) (at k);
    }
