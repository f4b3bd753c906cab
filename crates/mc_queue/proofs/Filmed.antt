-- Queues that hold a film's packets: parts of the film from place to place, and what keeps a queue so.
use Rattle.std.proofs.Common.{◌≡◌, ℕ, ◌<◌, ◌≤◌, ◌==◌, Bool, true, false, ◌&&◌, List, [], ◌∷◌, ◌++◌, arith, refl, ap, subst, sym, ◌∙◌, inl, inr}
use Rattle.std.specs.Prelude.{nat_le, Result, Ok, Err}
use Rattle.std.specs.List.{filter, AllByRecursion}
use Rattle.std.proofs.lemmas.Bool.{cases_Bool, cases_lt, leb-true, leb-false, le-leb, lt-leb, lt-ltb, le-ltb, ne_eqb, true≢false}
use Rattle.mc_packet.specs.declared.packet.Packet.{Packet}
use Rattle.mc_packet.specs.declared.packet.Pos.{Pos}
use Rattle.mc_journal.specs.Films.{rank, IsRising, track_of}
use Rattle.mc_queue.specs.declared.queue.UnionError.{UnionError}
use Rattle.mc_queue.specs.declared.queue.UnionError.TheVariants.{NoMemory, Mismatch}
use Rattle.mc_queue.specs.Places.{Rise, place, is_before, is_from, before}
use Rattle.mc_journal.specs.Views.{from_place}
use Rattle.mc_journal.specs.Ranges.{within}
use Rattle.mc_queue.specs.Queue.{QueueState, DropsTo}
use Rattle.mc_queue.specs.Differences.{time_at}
use Rattle.mc_queue.specs.Union.{Meet, earlier, later, shared_from, shared_to, united, UnionGives}
use Rattle.mc_queue.proofs.Rising.{rise_bounds}
use Rattle.mc_queue.proofs.Uniting.{earlier_least, later_greatest}
use Rattle.mc_queue.specs.Films.{Holds, UnitesFilm, KeepsFilm}

-- ---- parts of a list

-- it stands inside
inside : (from to : ℕ) (p : Packet) → from ≤ place p → place p < to → (is_from from p && is_before to p) ≡ true
inside from to p l m =
    let a = le-leb from (place p) l in
    let b = lt-ltb (place p) to m in
    rw (a, b) refl

-- it stands before, or behind
too_low : (from to : ℕ) (p : Packet) → place p < from → (is_from from p && is_before to p) ≡ false
too_low from to p l = let a = lt-leb from (place p) l in rw a refl

too_high : (from to : ℕ) (p : Packet) → to ≤ place p → (is_from from p && is_before to p) ≡ false
too_high from to p l =
    let b = le-ltb (place p) to l in
    elim (cases_Bool (is_from from p)) [ inl y ↦ rw (y, b) refl | inr n ↦ rw n refl ]

none_within : (from to : ℕ) (ps : List Packet) → to ≤ from → within from to ps ≡ []
none_within from to [] l = refl
none_within from to (p ∷ ps) l = elim (cases_lt (place p) from) [
  | inl m ↦ let n = too_low from to p m in rw n (none_within from to ps l)
  | inr m ↦ let n = too_high from to p (omega arith) in rw n (none_within from to ps l)
]

-- all stand behind its end
none_low : (from to at : ℕ) (ps : List Packet) → to ≤ at → AllByRecursion (λ (q : Packet). at < place q) ps → within from to ps ≡ []
none_low from to at [] l h = refl
none_low from to at (p ∷ ps) l h =
    let m = h.0 in
    let n = too_high from to p (omega arith) in
    rw n (none_low from to at ps l h.1)

before_within : (from to cut : ℕ) (ps : List Packet) → cut ≤ to → before cut (within from to ps) ≡ within from cut ps
before_within from to cut [] l = refl
before_within from to cut (p ∷ ps) l =
    let more = before_within from to cut ps l in
    elim (cases_lt (place p) from) [
      | inl m ↦ let a = too_low from to p m in let b = too_low from cut p m in rw (a, b) more
      | inr m ↦ elim (cases_lt (place p) cut) [
        | inl k ↦
            let a = inside from to p m (omega arith) in
            let b = inside from cut p m k in
            let c = lt-ltb (place p) cut k in
            rw (a, b, c) (ap (λ qs. p ∷ qs) more)
        | inr k ↦
            let b = too_high from cut p k in
            let c = le-ltb (place p) cut k in
            elim (cases_lt (place p) to) [
              | inl i ↦ let a = inside from to p m i in rw (a, b, c) more
              | inr i ↦ let a = too_high from to p i in rw (a, b) more
            ]
      ]
    ]

from_within : (from to cut : ℕ) (ps : List Packet) → from ≤ cut → from_place cut (within from to ps) ≡ within cut to ps
from_within from to cut [] l = refl
from_within from to cut (p ∷ ps) l =
    let more = from_within from to cut ps l in
    elim (cases_lt (place p) cut) [
      | inl m ↦
          let b = too_low cut to p m in
          let c = lt-leb cut (place p) m in
          elim (cases_Bool (is_from from p && is_before to p)) [ inl y ↦ rw (y, b, c) more | inr n ↦ rw (n, b) more ]
      | inr m ↦
          let c = le-leb cut (place p) m in
          elim (cases_lt (place p) to) [
            | inl i ↦
                let a = inside from to p (omega arith) i in
                let b = inside cut to p m i in
                rw (a, b, c) (ap (λ qs. p ∷ qs) more)
            | inr i ↦ let a = too_high from to p i in let b = too_high cut to p i in rw (a, b) more
          ]
    ]

-- a part from place to place is two parts behind one another
pub two_parts : (from mid to : ℕ) (ps : List Packet) → from ≤ mid → mid ≤ to → IsRising ps → within from to ps ≡ within from mid ps ++ within mid to ps
two_parts from mid to [] l m r = refl
two_parts from mid to (p ∷ ps) l m r =
    let more = two_parts from mid to ps l m r.1 in
    elim (cases_lt (place p) from) [
      | inl k ↦
          let a = too_low from to p k in
          let b = too_low from mid p k in
          let c = too_low mid to p (omega arith) in
          rw (a, b, c) more
      | inr k ↦ elim (cases_lt (place p) mid) [
        | inl i ↦
            let a = inside from to p k (omega arith) in
            let b = inside from mid p k i in
            let c = too_low mid to p i in
            rw (a, b, c) (ap (λ qs. p ∷ qs) more)
        | inr i ↦
            let b = too_high from mid p i in
            let z : within from mid ps ≡ [] = none_low from mid (place p) ps i r.0 in
            let rest : within from to ps ≡ within mid to ps = more ∙ ap (λ qs. qs ++ within mid to ps) z in
            elim (cases_lt (place p) to) [
              | inl j ↦
                  let a = inside from to p k j in
                  let c = inside mid to p i j in
                  rw (a, b, c, z) (ap (λ qs. p ∷ qs) rest)
              | inr j ↦ let a = too_high from to p j in let c = too_high mid to p j in rw (a, b, c) more
            ]
      ]
    ]

-- ---- a film's packets of a track

all_kept : (P : Packet → Bool) (at : ℕ) (ps : List Packet) → AllByRecursion (λ (q : Packet). at < place q) ps → AllByRecursion (λ (q : Packet). at < place q) (filter P ps)
all_kept P at [] h = h
all_kept P at (p ∷ ps) h = elim (cases_Bool (P p)) [ inl y ↦ rw y (h.0, all_kept P at ps h.1) | inr n ↦ rw n (all_kept P at ps h.1) ]

still_rise : (P : Packet → Bool) (ps : List Packet) → IsRising ps → IsRising (filter P ps)
still_rise P [] r = r
still_rise P (p ∷ ps) r = elim (cases_Bool (P p)) [ inl y ↦ rw y (all_kept P (place p) ps r.0, still_rise P ps r.1) | inr n ↦ rw n (still_rise P ps r.1) ]

seen_within : (from to x : ℕ) (ps : List Packet) → from ≤ x → x < to → time_at x (within from to ps) ≡ time_at x ps
seen_within from to x [] l m = refl
seen_within from to x (p ∷ ps) l m =
    let more = seen_within from to x ps l m in
    elim (cases_Bool (is_from from p && is_before to p)) [
      | inl y ↦ elim (cases_Bool (place p == x)) [ inl z ↦ rw (y, z) refl | inr z ↦ rw (y, z) more ]
      | inr n ↦
          let z : (place p == x) ≡ false = ne_eqb (place p) x (λ e. true≢false (sym (inside from to p (omega arith) (omega arith)) ∙ n)) in
          rw (n, z) more
    ]

-- ---- the union of two parts

front_part : (a b : Pos) (ps : List Packet) → within (rank b) (rank a) ps ≡ within (rank (earlier a b)) (rank a) ps
front_part a b ps = elim (cases_Bool (nat_le (rank a) (rank b))) [
  | inl y ↦
      let l = leb-true (rank a) (rank b) y in
      rw y (none_within (rank b) (rank a) ps l ∙ sym (none_within (rank a) (rank a) ps (omega arith)))
  | inr n ↦ rw n refl
]

rear_part : (a b : Pos) (ps : List Packet) → within (rank a) (rank b) ps ≡ within (rank a) (rank (later a b)) ps
rear_part a b ps = elim (cases_Bool (nat_le (rank a) (rank b))) [
  | inl y ↦ rw y refl
  | inr n ↦
      let l = leb-false (rank a) (rank b) n in
      rw n (none_within (rank a) (rank b) ps (omega arith) ∙ sym (none_within (rank a) (rank a) ps (omega arith)))
]

united_part : (f t g u : Pos) (ps : List Packet) → IsRising ps → rank f ≤ rank t → rank f ≤ rank u → rank g ≤ rank t
    → before (rank f) (within (rank g) (rank u) ps) ++ (within (rank f) (rank t) ps ++ from_place (rank t) (within (rank g) (rank u) ps)) ≡ within (rank (earlier f g)) (rank (later t u)) ps
united_part f t g u ps r l m n =
    let lo = rank (earlier f g) in
    let hi = rank (later t u) in
    let e = earlier_least f g in
    let h = later_greatest t u in
    let e0 = e.0 in
    let h0 = h.0 in
    let front : before (rank f) (within (rank g) (rank u) ps) ≡ within lo (rank f) ps = before_within (rank g) (rank u) (rank f) ps m ∙ front_part f g ps in
    let rear : from_place (rank t) (within (rank g) (rank u) ps) ≡ within (rank t) hi ps = from_within (rank g) (rank u) (rank t) ps n ∙ rear_part t u ps in
    let two = two_parts (rank f) (rank t) hi ps l h.0 r in
    let all = two_parts lo (rank f) hi ps e.0 (omega arith) r in
    ap (λ qs. qs ++ (within (rank f) (rank t) ps ++ from_place (rank t) (within (rank g) (rank u) ps))) front
    ∙ ap (λ qs. within lo (rank f) ps ++ (within (rank f) (rank t) ps ++ qs)) rear
    ∙ ap (λ qs. within lo (rank f) ps ++ qs) (sym two) ∙ sym all

-- ---- two queues of a film

film_agrees : (q o : QueueState) (film : List Packet) → o.track ≡ q.track → Holds film q → Holds film o → (x : ℕ) → shared_from q o ≤ x → x < shared_to q o → time_at x q.packets ≡ time_at x o.packets
film_agrees q o film t h k x l m =
    let a = later_greatest q.from o.from in
    let b = earlier_least q.to o.to in
    let a0 = a.0 in
    let a1 = a.1 in
    let b0 = b.0 in
    let b1 = b.1 in
    ap (λ ps. time_at x ps) h ∙ seen_within (rank q.from) (rank q.to) x (track_of q.track film) (omega arith) (omega arith)
    ∙ ap (λ n. time_at x (track_of n film)) (sym t)
    ∙ sym (ap (λ ps. time_at x ps) k ∙ seen_within (rank o.from) (rank o.to) x (track_of o.track film) (omega arith) (omega arith))

holds_both : (q o : QueueState) (film : List Packet) → IsRising film → rank q.from ≤ rank q.to → Meet q o → Holds film q → Holds film o
    → united q o ≡ within (rank (earlier q.from o.from)) (rank (later q.to o.to)) (track_of q.track film)
holds_both q o film r l m h k =
    let T = track_of q.track film in
    let k' : o.packets ≡ within (rank o.from) (rank o.to) T = k ∙ ap (λ n. within (rank o.from) (rank o.to) (track_of n film)) m.one_track in
    ap (λ ps. before (rank q.from) ps ++ (q.packets ++ from_place (rank q.to) ps)) k'
    ∙ ap (λ ps. before (rank q.from) (within (rank o.from) (rank o.to) T) ++ (ps ++ from_place (rank q.to) (within (rank o.from) (rank o.to) T))) h
    ∙ united_part q.from q.to o.from o.to T (still_rise (λ (p : Packet). p.track == q.track) film r) l m.ours m.other

-- the law of `union`
pub unites_film : (q o q' o' : QueueState) (result : Result Unit UnionError) → Meet q o → rank q.from ≤ rank q.to → UnionGives q o result q' o' → UnitesFilm q o result q'
unites_film q o q' o' (Ok x) m l g = λ film r h k.
    subst (λ (s : QueueState). Holds film s) (sym g.1.both) (holds_both q o film r l m h k)
unites_film q o q' o' (Err NoMemory) m l g = λ film r h k. refl
unites_film q o q' o' (Err (Mismatch at ours other)) m l g = λ film r h k.
    let d = g.2 in
    absurd (d.two (d.ours_is ∙ film_agrees q o film m.one_track h k (rank at) d.begins d.ends ∙ sym d.other_is))

-- ---- one queue of a film

pub appends_film : (q q' : QueueState) → q ≡ q' → (upto : Pos) (ps new : List Packet) → new ≡ q.packets ++ ps → Rise q.track (rank q.from) (rank q.to) q.packets → Rise q'.track (rank q'.to) (rank upto) ps
    → (film : List Packet) → IsRising film → Holds film q' → ps ≡ within (rank q'.to) (rank upto) (track_of q'.track film) → new ≡ within (rank q.from) (rank upto) (track_of q.track film)
appends_film q q' e upto ps new n a b film r h k =
    let T = track_of q.track film in
    let h' = subst (λ (s : QueueState). Holds film s) (sym e) h in
    let k' : ps ≡ within (rank q.to) (rank upto) T = subst (λ (s : QueueState). ps ≡ within (rank s.to) (rank upto) (track_of s.track film)) (sym e) k in
    let b' = subst (λ (s : QueueState). Rise s.track (rank s.to) (rank upto) ps) (sym e) b in
    let l = rise_bounds q.track (rank q.from) (rank q.to) q.packets a in
    let m = rise_bounds q.track (rank q.to) (rank upto) ps b' in
    n ∙ ap (λ qs. qs ++ ps) h' ∙ ap (λ qs. within (rank q.from) (rank q.to) T ++ qs) k'
    ∙ sym (two_parts (rank q.from) (rank q.to) (rank upto) T l m (still_rise (λ (p : Packet). p.track == q.track) film r))

pub keeps_film : (cut : Pos) (q new : QueueState) → DropsTo cut q new → rank q.from ≤ rank cut → KeepsFilm q new
keeps_film cut q new d l = λ film h.
    let T = track_of q.track film in
    let e : from_place (rank cut) q.packets ≡ within (rank cut) (rank q.to) T =
    ap (λ qs. from_place (rank cut) qs) h ∙ from_within (rank q.from) (rank q.to) (rank cut) T l in
    subst (λ (s : QueueState). Holds film s) (sym d.packets_left) e
