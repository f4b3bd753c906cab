-- What is shown of a cache that holds a film's list is what the rules over the list show of its ranges.
use Rattle.std.proofs.Common.{◌≡◌, ℕ, ◌-◌, ◌==◌, true, false, ◌&&◌, List, [], ◌∷◌, Option, Some, None, refl, ap, sym, subst, ◌∙◌, arith, inl, inr}
use Rattle.std.specs.Prelude.{IfSome, IsSomeAnd, map, sum_by}
use Rattle.std.specs.List.{AllByRecursion, filter}
use Rattle.std.specs.Option.{option_map}
use Rattle.std.proofs.lemmas.Bool.{cases_Bool, eqb-true, eq-eqb, and_parts}
use Rattle.std.proofs.lemmas.List.Sums.{sum_by-cons}
use Rattle.mc_packet.specs.declared.packet.Packet.{Packet}
use Rattle.mc_packet.specs.declared.packet.Pos.{Pos}
use Rattle.mc_packet.specs.declared.cache.Heads.{Heads}
use Rattle.mc_packet.specs.declared.cache.RangeView.{RangeView}
use Rattle.mc_packet.specs.declared.choice.Choice.{Choice}
use Rattle.mc_packet.specs.Choices.{is_distinct, is_other, is_track, passes}
use Rattle.mc_journal.specs.Choices.{each_of, of_track}
use Rattle.mc_journal.specs.Films.{rank}
use Rattle.mc_journal.specs.Ranges.{bounds, held, on_span}
use Rattle.mc_journal.specs.Stands.{ranges_of as stand_ranges, holds_any, tidied}
use Rattle.mc_journal.specs.Views as views
use Rattle.mc_journal.specs.Views.{range_shown, range_weight, forward_in, weight, from_place}
use Rattle.mc_queue.specs.Places.{weights}
use Rattle.mc_queue.specs.Queue.{QueueState}
use Rattle.mc_range.specs.Range.{RangeState, IsRange, QueueIn, as_range, queue_of}
use Rattle.mc_range.specs.Serving.{HoldsFilm, packets_in}
use Rattle.mc_range.specs.Cutting.{weight_ahead, weight_from}
use Rattle.mc_range.specs.Tracks.{interval_of, intervals}
use Rattle.mc_range.specs.Filmed.{HaveFrames}
use Rattle.mc_range.proofs.Unions.{video_is, audio_is, sub_is}
use Rattle.mc_range.proofs.Weighed.{film_weight, film_bounds, film_spans}
use Rattle.mc_cache.specs.Cache.{CacheState, IsCache, ending_in, holds, ranges_of, stand_of, weight_in, weight_of}
use Rattle.mc_cache.specs.Filmed.{HoldsAll, HoldsIn}
use Rattle.mc_cache.specs.Placed.{AllFramed, HeadsAt, head_of}
use Rattle.mc_cache.specs.Pruning.{ahead_in, back_of}
use Rattle.mc_cache.specs.Shown.{begins, begins_at, begins_in, shown}
use Rattle.mc_cache.proofs.Lists.{all_held}
use Rattle.mc_cache.proofs.Standing.{Held, all_of, both_all, filter_same, front_same, holds_same, pair_all, stand_is}

-- ---- the ranges

one_shown : (ps : List Packet) (set : Choice) (r : RangeState) → IsRange r → HoldsIn ps set r → HaveFrames (intervals r.queues) → shown r ≡ range_shown ps set (as_range r)
one_shown ps set r i h f =
    let b = film_bounds ps r h.film in
    let s = film_spans r i f in
    ap (λ x. let v : RangeView = record { bounds = x; spans = intervals r.queues } in v) b
    ∙ ap (λ x. let v : RangeView = record { bounds = bounds ps r.set (as_range r); spans = x } in v) (sym s)
    ∙ ap (λ (c : Choice). range_shown ps c (as_range r)) h.set_is

list_shown : (ps : List Packet) (set : Choice) (rs : List RangeState) → AllByRecursion (Held ps set) rs → AllByRecursion (λ r. HaveFrames (intervals r.queues)) rs
    → map shown rs ≡ map (range_shown ps set) (map as_range rs)
list_shown ps set [] h f = refl
list_shown ps set (r ∷ rs) h f =
    ap (λ x. x ∷ map shown rs) (one_shown ps set r h.0.range h.0.film f.0) ∙ ap (λ xs. range_shown ps set (as_range r) ∷ xs) (list_shown ps set rs h.1 f.1)

pub ranges_shown : (ps : List Packet) (set : Choice) (st : CacheState) → IsCache st → HoldsAll ps set st → AllFramed st
    → map shown (ranges_of st) ≡ map (range_shown ps set) (stand_ranges (stand_of st))
ranges_shown ps set st i h f =
    list_shown ps set (ranges_of st) (all_of ps set st i h) f ∙ ap (λ xs. map (range_shown ps set) xs) (sym (front_same st.current st.others))

-- ---- the octets from the heads on

queue_ahead : (n : ℕ) (o : Option QueueState) (hd : Option Pos) → IfSome o (λ q. IsSomeAnd hd (λ p. rank p ≡ n))
    → sum_by weight (from_place n (packets_in o)) ≡ weight_ahead hd o
queue_ahead n None None a = refl
queue_ahead n None (Some p) a = refl
queue_ahead n (Some q) None a = absurd a
queue_ahead n (Some q) (Some p) a =
    ap (λ m. weights (from_place m q.packets)) (sym a)

none_ahead : (hd : Option Pos) → 0 ≡ weight_ahead hd None
none_ahead None = refl
none_ahead (Some p) = refl

kind_ahead : (ps : List Packet) (r : RangeState) (set : Choice) (heads : Heads) (place : ℕ → ℕ) (t : Option ℕ) (o : Option QueueState) (hd : Option Pos) → HoldsFilm ps r → QueueIn t r.mark o
    → ((k : ℕ) → t ≡ Some k → queue_of k r.queues ≡ o) → ((k : ℕ) → t ≡ Some k → head_of set heads k ≡ hd) → HeadsAt set heads place r
    → of_track t (λ k. sum_by weight (from_place (place k) (held (as_range r) ps k))) ≡ weight_ahead hd o
kind_ahead ps r set heads place None None hd h i f g a = none_ahead hd
kind_ahead ps r set heads place None (Some q) hd h i f g a = absurd (let e = i.0 in cc)
kind_ahead ps r set heads place (Some k) o hd h i f g a =
    let q = f k refl in
    let b : IfSome o (λ q. IsSomeAnd hd (λ p. rank p ≡ place k)) =
    subst (λ (x : Option Pos). IfSome o (λ q. IsSomeAnd x (λ p. rank p ≡ place k))) (g k refl)
    (subst (λ (x : Option QueueState). IfSome x (λ q. IsSomeAnd (head_of set heads k) (λ p. rank p ≡ place k))) q (a k)) in
    ap (λ xs. sum_by weight (from_place (place k) xs)) (h k ∙ ap (λ (x : Option QueueState). packets_in x) q)
    ∙ queue_ahead (place k) o hd b

-- of each kind the head is that of its track
is_own : (t : Option ℕ) (k : ℕ) → t ≡ Some k → is_track t k ≡ true
is_own t k e = subst (λ (x : Option ℕ). is_track x k ≡ true) (sym e) (eq-eqb k k refl)

not_first : (a b : Option ℕ) (k : ℕ) → is_other a b ≡ true → b ≡ Some k → is_track a k ≡ false
not_first None b k o e = refl
not_first (Some m) None k o e = absurd (cc)
not_first (Some m) (Some n) k o e = elim (cases_Bool (m == k)) [
  | inl y ↦ absurd (let f : n ≡ k = cc in let g : m ≡ k = eqb-true m k y in let same : (m == n) ≡ true = eq-eqb m n (g ∙ sym f) in let bad : false ≡ true = rw same at o in cc)
  | inr z ↦ z
]

pub record KindHeads (set : Choice) (heads : Heads) : Type 0 where
  pub video : (k : ℕ) → set.video ≡ Some k → head_of set heads k ≡ heads.video
  pub audio : (k : ℕ) → set.audio ≡ Some k → head_of set heads k ≡ heads.audio
  pub sub : (k : ℕ) → set.sub ≡ Some k → head_of set heads k ≡ heads.sub

pub kind_heads : (set : Choice) (heads : Heads) → is_distinct set ≡ true → KindHeads set heads
kind_heads set heads d =
    let one = and_parts (is_other set.video set.audio) (is_other set.video set.sub && is_other set.audio set.sub) d in
    let two = and_parts (is_other set.video set.sub) (is_other set.audio set.sub) one.1 in
    record {
      video = λ k e. let y = is_own set.video k e in rw y refl;
      audio = λ k e.
          let n = not_first set.video set.audio k one.0 e in
          let y = is_own set.audio k e in
          rw (n, y) refl;
      sub = λ k e.
          let n = not_first set.video set.sub k two.0 e in
          let m = not_first set.audio set.sub k two.1 e in
          let y = is_own set.sub k e in
          rw (n, m, y) refl;
    }

range_ahead : (ps : List Packet) (set : Choice) (heads : Heads) (place : ℕ → ℕ) (r : RangeState) → IsRange r → HoldsIn ps set r → HeadsAt set heads place r
    → forward_in ps set place (Some (as_range r)) ≡ weight_from heads r.queues
range_ahead ps set heads place r i h a =
    let e = h.set_is in
    let k = kind_heads set heads (subst (λ (s : Choice). is_distinct s ≡ true) e i.distinct) in
    let v = kind_ahead ps r set heads place r.set.video r.queues.video heads.video h.film i.held.video (λ k e. video_is r k i e) (λ t x. k.video t (ap (λ (s : Choice). s.video) (sym e) ∙ x)) a in
    let b = kind_ahead ps r set heads place r.set.audio r.queues.audio heads.audio h.film i.held.audio (λ k e. audio_is r k i e) (λ t x. k.audio t (ap (λ (s : Choice). s.audio) (sym e) ∙ x)) a in
    let s = kind_ahead ps r set heads place r.set.sub r.queues.sub heads.sub h.film i.held.sub (λ k e. sub_is r k i e) (λ t x. k.sub t (ap (λ (s : Choice). s.sub) (sym e) ∙ x)) a in
    let all : forward_in ps r.set place (Some (as_range r)) ≡ weight_from heads r.queues = rw (v, b, s) refl in
    ap (λ (c : Choice). forward_in ps c place (Some (as_range r))) (sym e) ∙ all

current_ahead : (ps : List Packet) (set : Choice) (heads : Heads) (place : ℕ → ℕ) (c : Option RangeState) → IfSome c IsRange → IfSome c (HoldsIn ps set) → IfSome c (HeadsAt set heads place)
    → ahead_in heads c ≡ forward_in ps set place (option_map as_range c)
current_ahead ps set heads place None i h a = refl
current_ahead ps set heads place (Some r) i h a = sym (range_ahead ps set heads place r i h a)

pub forward_shown : (ps : List Packet) (set : Choice) (heads : Heads) (place : ℕ → ℕ) (st : CacheState) → IsCache st → HoldsAll ps set st → IfSome st.current (HeadsAt set heads place)
    → ahead_in heads st.current ≡ forward_in ps set place (stand_of st).current
forward_shown ps set heads place st i h a = current_ahead ps set heads place st.current i.current h.current a

-- ---- the octets behind them

list_weight : (ps : List Packet) (set : Choice) (rs : List RangeState) → AllByRecursion (Held ps set) rs → weight_of rs ≡ sum_by (range_weight ps set) (map as_range rs)
list_weight ps set [] h = refl
list_weight ps set (r ∷ rs) h =
    let w = film_weight ps r h.0.range h.0.film.film in
    let e : range_weight ps set (as_range r) ≡ weight_in r = ap (λ (c : Choice). range_weight ps c (as_range r)) (sym h.0.film.set_is) ∙ w in
    let more = list_weight ps set rs h.1 in
    let c = sum_by-cons (range_weight ps set) (as_range r) (map as_range rs) in
    omega arith

pub back_shown : (ps : List Packet) (set : Choice) (heads : Heads) (place : ℕ → ℕ) (st : CacheState) → IsCache st → HoldsAll ps set st → IfSome st.current (HeadsAt set heads place)
    → back_of heads st ≡ sum_by (range_weight ps set) (stand_ranges (stand_of st)) - forward_in ps set place (stand_of st).current
back_shown ps set heads place st i h a =
    ap (λ n. n - ahead_in heads st.current) (list_weight ps set (ranges_of st) (all_of ps set st i h) ∙ ap (λ xs. sum_by (range_weight ps set) xs) (sym (front_same st.current st.others)))
    ∙ ap (λ n. sum_by (range_weight ps set) (stand_ranges (stand_of st)) - n) (forward_shown ps set heads place st i h a)

-- ---- where they begin, and the ending

kind_begins : (r : RangeState) (t : Option ℕ) (o : Option QueueState) → QueueIn t r.mark o → ((k : ℕ) → t ≡ Some k → queue_of k r.queues ≡ o)
    → begins_at t (interval_of o) ≡ passes t (λ k. on_span ((as_range r).spans k) (λ s. s.from == 0))
kind_begins r None o i f = refl
kind_begins r (Some k) None i f = let e = f k refl in rw e refl
kind_begins r (Some k) (Some q) i f = let e = f k refl in rw e refl

range_begins : (r : RangeState) → IsRange r → begins r ≡ each_of r.set (λ k. on_span ((as_range r).spans k) (λ s. s.from == 0))
range_begins r i =
    let v = kind_begins r r.set.video r.queues.video i.held.video (λ k e. video_is r k i e) in
    let a = kind_begins r r.set.audio r.queues.audio i.held.audio (λ k e. audio_is r k i e) in
    let s = kind_begins r r.set.sub r.queues.sub i.held.sub (λ k e. sub_is r k i e) in
    rw (v, a, s) refl

current_begins : (ps : List Packet) (set : Choice) (c : Option RangeState) → IfSome c IsRange → IfSome c (HoldsIn ps set) → begins_in c ≡ views.begins_in set (option_map as_range c)
current_begins ps set None i h = refl
current_begins ps set (Some r) i h = range_begins r i ∙ ap (λ (c : Choice). each_of c (λ k. on_span ((as_range r).spans k) (λ s. s.from == 0))) h.set_is

pub bof_shown : (ps : List Packet) (set : Choice) (st : CacheState) → IsCache st → HoldsAll ps set st → begins_in st.current ≡ views.begins_in set (stand_of st).current
bof_shown ps set st i h = current_begins ps set st.current i.current h.current

pub ending_shown : (c : Option RangeState) → ending_in c ≡ views.ending_in (option_map as_range c)
ending_shown None = refl
ending_shown (Some r) = refl

-- ---- no other range is without a packet

pub tidy : (ps : List Packet) (set : Choice) (st : CacheState) → IsCache st → HoldsAll ps set st → tidied ps set (stand_of st) ≡ stand_of st
tidy ps set st i h =
    let k = both_all (Held ps set) (λ r. holds r ≡ holds_any ps set (as_range r)) st.others (λ r x. holds_same ps set r x.range x.film) (pair_all ps set st.others i.others h.others) in
    stand_is (option_map as_range st.current) (option_map as_range st.current) (filter (holds_any ps set) (map as_range st.others)) (map as_range st.others) refl
    (filter_same holds (holds_any ps set) st.others k ∙ ap (λ rs. map as_range rs) (all_held st.others i.others))
