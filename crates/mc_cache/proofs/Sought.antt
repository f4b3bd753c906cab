-- The heads of a seek that a cache answers are those of the rules over a film's list, and stand at their places.
use Rattle.std.proofs.Common.{◌≡◌, ℕ, true, List, [], ◌∷◌, Option, Some, None, ℤ, refl, ap, sym, subst, ◌∙◌, inl, inr}
use Rattle.std.specs.Prelude.{IfSome, IsSomeAnd, is_some}
use Rattle.std.specs.List.{find}
use Rattle.std.specs.Option.{option_map}
use Rattle.std.proofs.lemmas.Bool.{cases_Bool, eqb-true}
use Rattle.mc_packet.specs.declared.packet.Pos.{Pos}
use Rattle.mc_packet.specs.declared.cache.Heads.{Heads}
use Rattle.mc_packet.specs.declared.choice.Choice.{Choice}
use Rattle.mc_packet.specs.declared.choice.Dir.{Dir}
use Rattle.mc_packet.specs.declared.walk.Mark.{Mark}
use Rattle.mc_packet.specs.declared.packet.Packet.{Packet}
use Rattle.mc_packet.specs.Choices.{is_distinct}
use Rattle.mc_journal.specs.Films.{rank}
use Rattle.mc_journal.specs.Ranges.{Range, serves as film_serves}
use Rattle.mc_journal.specs.Stands.{first_that, ranges_of as stand_ranges}
use Rattle.mc_journal.specs.Views.{chosen_head}
use Rattle.mc_queue.specs.Queue.{QueueState}
use Rattle.mc_range.specs.Range.{RangeState, IsRange, QueueIn, as_range, is_of, queue_of}
use Rattle.mc_range.specs.Serving.{AreHeads, HoldsFilm}
use Rattle.mc_range.proofs.Films.{film_heads}
use Rattle.mc_cache.specs.Cache.{CacheState, IsCache, ranges_of, stand_of}
use Rattle.mc_cache.specs.Changing.{heads_in, serves, server}
use Rattle.mc_cache.specs.Filmed.{HoldsAll}
use Rattle.mc_cache.specs.Placed.{HeadsAt, head_of}
use Rattle.mc_cache.proofs.Standing.{Held, all_find, all_of, both_all, server_film}
use Rattle.mc_cache.proofs.Viewed.{kind_heads}

-- ---- served, with which heads

find_serves : (set : Choice) (t : ℤ) (dir : Dir) (rs : List RangeState) → is_some (heads_in set t dir (find (serves set t dir) rs)) ≡ is_some (find (serves set t dir) rs)
find_serves set t dir [] = refl
find_serves set t dir (r ∷ rs) = elim (cases_Bool (serves set t dir r)) [
  | inl y ↦ rw y y
  | inr n ↦ rw n (find_serves set t dir rs)
]

some_seen : (o : Option RangeState) → is_some (option_map as_range o) ≡ is_some o
some_seen None = refl
some_seen (Some r) = refl

pub seek_served : (ps : List Packet) (set : Choice) (t : ℤ) (dir : Dir) (st : CacheState) → IsCache st → HoldsAll ps set st
    → is_some (heads_in set t dir (server set t dir st)) ≡ is_some (first_that (film_serves ps set dir t) (stand_ranges (stand_of st)))
seek_served ps set t dir st i h =
    find_serves set t dir (ranges_of st) ∙ sym (some_seen (server set t dir st)) ∙ ap (λ (o : Option Range). is_some o) (sym (server_film ps set t dir st i h))

heads_of_one : (ps : List Packet) (set : Choice) (t : ℤ) (dir : Dir) (o : Option RangeState) → IfSome o (HoldsFilm ps) → is_distinct set ≡ true
    → IfSome (heads_in set t dir o) (λ h. AreHeads set (λ track. chosen_head ps set dir t track (option_map as_range o)) h)
heads_of_one ps set t dir None h d = tt
heads_of_one ps set t dir (Some r) h d = film_heads ps r set t dir h d

pub seek_heads : (ps : List Packet) (set : Choice) (t : ℤ) (dir : Dir) (st : CacheState) → IsCache st → HoldsAll ps set st → is_distinct set ≡ true
    → IfSome (heads_in set t dir (server set t dir st)) (λ h. AreHeads set (λ track. chosen_head ps set dir t track (first_that (film_serves ps set dir t) (stand_ranges (stand_of st)))) h)
seek_heads ps set t dir st i h d =
    let all = both_all (Held ps set) (HoldsFilm ps) (ranges_of st) (λ r x. x.film.film) (all_of ps set st i h) in
    subst (λ (o : Option Range). IfSome (heads_in set t dir (server set t dir st)) (λ x. AreHeads set (λ track. chosen_head ps set dir t track o) x)) (sym (server_film ps set t dir st i h))
    (heads_of_one ps set t dir (server set t dir st) (all_find (HoldsFilm ps) (serves set t dir) (ranges_of st) all) d)

-- ---- the heads of all selected tracks are those of all queues

always : (o : Option QueueState) (P : Type 0) → P → IfSome o (λ q. P)
always None P p = tt
always (Some q) P p = p

track_is : (t : Option ℕ) (m : Mark) (o : Option QueueState) (k : ℕ) → QueueIn t m o → is_of k o ≡ true → t ≡ Some k
track_is t m None k i y = absurd (cc)
track_is t m (Some q) k i y = i.0 ∙ ap (λ n. Some n) (eqb-true q.track k y)

placed_one : (set : Choice) (heads : Heads) (place : ℕ → ℕ) (t : Option ℕ) (hd : Option Pos) (k : ℕ) → t ≡ Some k → head_of set heads k ≡ hd → IfSome t (λ n. IsSomeAnd hd (λ p. rank p ≡ place n))
    → IsSomeAnd (head_of set heads k) (λ p. rank p ≡ place k)
placed_one set heads place t hd k e f a =
    subst (λ (x : Option Pos). IsSomeAnd x (λ p. rank p ≡ place k)) (sym f) (subst (λ (x : Option ℕ). IfSome x (λ n. IsSomeAnd hd (λ p. rank p ≡ place n))) e a)

placed : (set : Choice) (heads : Heads) (place : ℕ → ℕ) (r : RangeState) → IsRange r → AreHeads r.set place heads → HeadsAt r.set heads place r
placed set heads place r i a = λ k.
    let h = kind_heads r.set heads i.distinct in
    let P : Type 0 = IsSomeAnd (head_of r.set heads k) (λ p. rank p ≡ place k) in
    elim (cases_Bool (is_of k r.queues.video)) [
      | inl y ↦
          let e = track_is r.set.video r.mark r.queues.video k i.held.video y in
          always (queue_of k r.queues) P (placed_one r.set heads place r.set.video heads.video k e (h.video k e) a.video)
      | inr n ↦ elim (cases_Bool (is_of k r.queues.audio)) [
        | inl y ↦
            let e = track_is r.set.audio r.mark r.queues.audio k i.held.audio y in
            always (queue_of k r.queues) P (placed_one r.set heads place r.set.audio heads.audio k e (h.audio k e) a.audio)
        | inr m ↦ elim (cases_Bool (is_of k r.queues.sub)) [
          | inl y ↦
              let e = track_is r.set.sub r.mark r.queues.sub k i.held.sub y in
              always (queue_of k r.queues) P (placed_one r.set heads place r.set.sub heads.sub k e (h.sub k e) a.sub)
          | inr o ↦ rw (n, m, o) tt
        ]
      ]
    ]

pub heads_placed : (set : Choice) (heads : Heads) (place : ℕ → ℕ) (r : RangeState) → IsRange r → r.set ≡ set → AreHeads set place heads → HeadsAt set heads place r
heads_placed set heads place r i e a =
    subst (λ (s : Choice). HeadsAt s heads place r) e (placed set heads place r i (subst (λ (s : Choice). AreHeads s place heads) (sym e) a))
