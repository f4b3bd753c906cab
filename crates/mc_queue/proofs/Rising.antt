-- Packets in rising order: parts of them, and lists of them behind one another.
use Rattle.std.proofs.Common.{drop, lt-ltb, le-ltb, ◌≡◌, ℕ, ◌+◌, ◌*◌, ◌^◌, ◌<◌, ◌≤◌, Bool, not, get_or, List, [], ◌∷◌, ◌++◌, length, take, arith, refl, ap, subst, sym, ◌∙◌, inl, inr}
use Rattle.std.specs.List.{filter}
use Rattle.std.proofs.lemmas.Bool.{cases_Bool, ltb-true, ltb-false, leb-true, le-leb, lt-leb}
use Rattle.std.proofs.lemmas.List.Sums.{sum_by-cons, sum_by-append, sum_by_more_le}
use Rattle.std.proofs.lemmas.List.Filters.{sum_by-filter_both, length-filter_both}
use Rattle.mc_packet.specs.declared.packet.Packet.{Packet}
use Rattle.mc_packet.specs.declared.packet.Pos.{Pos}
use Rattle.mc_journal.specs.Films.{rank}
use Rattle.mc_queue.specs.Places.{place, weight_of, weights, Rise, is_before, is_from, before, behind}
use Rattle.mc_journal.specs.Views.{from_place}

pub rank_is : (p : Pos) → rank p ≡ p.block * 65536 + p.lane
unfolding rank
rank_is p = refl

-- an interval may begin earlier
pub rise_earlier : (track from from' to : ℕ) (ps : List Packet) → from' ≤ from → Rise track from to ps → Rise track from' to ps
rise_earlier track from from' to [] l r = omega arith
rise_earlier track from from' to (p ∷ ps) l r = let m = r.1 in (r.0, omega arith, r.2)

-- and end later
pub rise_later : (track from to to' : ℕ) (ps : List Packet) → to ≤ to' → Rise track from to ps → Rise track from to' ps
rise_later track from to to' [] l r = omega arith
rise_later track from to to' (p ∷ ps) l r = (r.0, r.1, rise_later track (place p + 1) to to' ps l r.2)

-- it begins at its end or before
pub rise_bounds : (track from to : ℕ) (ps : List Packet) → Rise track from to ps → from ≤ to
rise_bounds track from to [] r = r
rise_bounds track from to (p ∷ ps) r = let m = r.1 in let n = rise_bounds track (place p + 1) to ps r.2 in omega arith

-- packets up to a place, and then packets from it on
pub rise_append : (track from mid to : ℕ) (ps qs : List Packet) → Rise track from mid ps → Rise track mid to qs → Rise track from to (ps ++ qs)
rise_append track from mid to [] qs r s = rise_earlier track mid from to qs r s
rise_append track from mid to (p ∷ ps) qs r s = (r.0, r.1, rise_append track (place p + 1) mid to ps qs r.2 s)

-- where the first one stands at a place or behind it, all do
pub all_from : (track from to cut : ℕ) (ps : List Packet) → cut ≤ from → Rise track from to ps → from_place cut ps ≡ ps
all_from track from to cut [] l r = refl
all_from track from to cut (p ∷ ps) l r =
    let m = r.1 in
    let y = le-leb cut (place p) (omega arith) in
    rw y (ap (λ qs. p ∷ qs) (all_from track (place p + 1) to cut ps (omega arith) r.2))

-- leaving out those in front that stand before a place leaves out all of them
pub behind_is : (track from to cut : ℕ) (ps : List Packet) → Rise track from to ps → behind cut ps ≡ from_place cut ps
behind_is track from to cut [] r = refl
behind_is track from to cut (p ∷ ps) r = elim (cases_Bool (is_before cut p)) [
  | inl y ↦
      let l = ltb-true (place p) cut y in
      let n = lt-leb cut (place p) l in
      rw (y, n) (behind_is track (place p + 1) to cut ps r.2)
  | inr n ↦
      let l = ltb-false (place p) cut n in
      rw n (sym (all_from track (place p) to cut (p ∷ ps) l (r.0, omega arith, r.2)))
]

-- what stands at a place of the interval or behind it begins there
pub rise_from : (track from to cut : ℕ) (ps : List Packet) → cut ≤ to → Rise track from to ps → Rise track cut to (from_place cut ps)
rise_from track from to cut [] l r = l
rise_from track from to cut (p ∷ ps) l r = elim (cases_Bool (is_from cut p)) [
  | inl y ↦
      let m = leb-true cut (place p) y in
      let all = all_from track (place p + 1) to cut ps (omega arith) r.2 in
      rw (y, all) (r.0, m, r.2)
  | inr n ↦ rw n (rise_from track (place p + 1) to cut ps l r.2)
]

-- ---- weights

pub more_weight : (ps : List Packet) (i : ℕ) (d : Packet) → i < length ps → weights (take i ps) + weight_of (get_or ps i d) ≤ weights ps
more_weight ps i d l = sum_by_more_le weight_of ps i d l

pub less_weight : (t : Packet → Bool) (ps : List Packet) → weights (filter t ps) ≤ weights ps
less_weight t ps = let both = sum_by-filter_both t (λ p. not (t p)) (λ _. refl) weight_of ps in omega arith

pub more_weight_of_some : (t : Packet → Bool) (ps : List Packet) (i : ℕ) (d : Packet) → i < length ps → weights (filter t (take i ps)) + weight_of (get_or ps i d) ≤ weights ps
more_weight_of_some t ps i d l = let a = less_weight t (take i ps) in let b = more_weight ps i d l in omega arith

pub weights_of_two : (ps qs : List Packet) → weights (ps ++ qs) ≡ weights ps + weights qs
weights_of_two ps qs = sum_by-append weight_of ps qs

pub from_two : (cut : ℕ) (ps qs : List Packet) → from_place cut (ps ++ qs) ≡ from_place cut ps ++ from_place cut qs
from_two cut [] qs = refl
from_two cut (p ∷ ps) qs = elim (cases_Bool (is_from cut p)) [
  | inl y ↦ rw y (ap (λ rs. p ∷ rs) (from_two cut ps qs))
  | inr n ↦ rw n (from_two cut ps qs)
]

pub less_weight_from : (cut : ℕ) (ps : List Packet) → weights (from_place cut ps) ≤ weights ps
less_weight_from cut ps = less_weight (is_from cut) ps

-- what becomes of a queue's packets when others are put behind them
pub grown : (track from to upto : ℕ) (old added new : List Packet) → new ≡ old ++ added → Rise track from to old → Rise track to upto added
    → weights old + weights added < 2 ^ 64 → (weights new ≡ weights old + weights added) × (weights new < 2 ^ 64) × Rise track from upto new
grown track from to upto old added new e r s l =
    let w : weights new ≡ weights old + weights added = ap (λ ps. weights ps) e ∙ weights_of_two old added in
    (w, omega arith, subst (λ ps. Rise track from upto ps) (sym e) (rise_append track from to upto old added r s))

-- and when those before a place are dropped
pub shrunk : (track from to cut : ℕ) (old new : List Packet) → new ≡ behind cut old → Rise track from to old → cut ≤ to
    → (new ≡ from_place cut old) × Rise track cut to new
shrunk track from to cut old new e r l =
    let f : new ≡ from_place cut old = e ∙ behind_is track from to cut old r in
    (f, subst (λ ps. Rise track cut to ps) (sym f) (rise_from track from to cut old l r))

-- ---- those before a place, and those from it on

pub few_before : (cut : ℕ) (ps : List Packet) → length (before cut ps) ≤ length ps
few_before cut ps = let both = length-filter_both (is_before cut) (λ p. not (is_before cut p)) (λ _. refl) ps in omega arith

pub none_before : (track from to cut : ℕ) (ps : List Packet) → cut ≤ from → Rise track from to ps → before cut ps ≡ []
none_before track from to cut [] l r = refl
none_before track from to cut (p ∷ ps) l r =
    let m = r.1 in
    let n = le-ltb (place p) cut (omega arith) in
    rw n (none_before track (place p + 1) to cut ps (omega arith) r.2)

-- the first ones, as many as stand before the place, are those before it
pub take_before : (track from to cut : ℕ) (ps : List Packet) → Rise track from to ps → take (length (before cut ps)) ps ≡ before cut ps
take_before track from to cut [] r = refl
take_before track from to cut (p ∷ ps) r = elim (cases_Bool (is_before cut p)) [
  | inl y ↦ rw y (ap (λ qs. p ∷ qs) (take_before track (place p + 1) to cut ps r.2))
  | inr n ↦
      let l = ltb-false (place p) cut n in
      let z = none_before track (place p + 1) to cut ps (omega arith) r.2 in
      rw (n, z) refl
]

-- and the others are those from it on
pub drop_before_is : (track from to cut : ℕ) (ps : List Packet) → Rise track from to ps → drop (length (before cut ps)) ps ≡ from_place cut ps
drop_before_is track from to cut [] r = refl
drop_before_is track from to cut (p ∷ ps) r = elim (cases_Bool (is_before cut p)) [
  | inl y ↦
      let l = ltb-true (place p) cut y in
      let n = lt-leb cut (place p) l in
      rw (y, n) (drop_before_is track (place p + 1) to cut ps r.2)
  | inr n ↦
      let l = ltb-false (place p) cut n in
      let z = none_before track (place p + 1) to cut ps (omega arith) r.2 in
      let a : from_place cut (p ∷ ps) ≡ p ∷ ps = all_from track (place p) to cut (p ∷ ps) l (r.0, omega arith, r.2) in
      rw (n, z) (sym a)
]

-- of two places the earlier has no more packets before it
pub fewer_before : (cut cut' : ℕ) (ps : List Packet) → cut ≤ cut' → length (before cut ps) ≤ length (before cut' ps)
fewer_before cut cut' [] l = omega arith
fewer_before cut cut' (p ∷ ps) l =
    let more = fewer_before cut cut' ps l in
    elim (cases_Bool (is_before cut p)) [
      | inl y ↦
          let a = ltb-true (place p) cut y in
          let b = lt-ltb (place p) cut' (omega arith) in
          rw (y, b) (omega arith)
      | inr n ↦ elim (cases_Bool (is_before cut' p)) [ inl y ↦ rw (n, y) (omega arith) | inr m ↦ rw (n, m) more ]
    ]

-- those before a place lie before it
pub rise_before : (track from to cut : ℕ) (ps : List Packet) → from ≤ cut → Rise track from to ps → Rise track from cut (before cut ps)
rise_before track from to cut [] l r = l
rise_before track from to cut (p ∷ ps) l r = elim (cases_Bool (is_before cut p)) [
  | inl y ↦
      let m = ltb-true (place p) cut y in
      rw y (r.0, r.1, rise_before track (place p + 1) to cut ps (omega arith) r.2)
  | inr n ↦
      let m = ltb-false (place p) cut n in
      let z = none_before track (place p + 1) to cut ps (omega arith) r.2 in
      rw (n, z) l
]

pub both_counts : (cut : ℕ) (ps : List Packet) → length (before cut ps) + length (from_place cut ps) ≡ length ps
both_counts cut [] = refl
both_counts cut (p ∷ ps) =
    let more = both_counts cut ps in
    elim (cases_Bool (is_before cut p)) [
      | inl y ↦
          let n = lt-leb cut (place p) (ltb-true (place p) cut y) in
          rw (y, n) (omega arith)
      | inr n ↦
          let y = le-leb cut (place p) (ltb-false (place p) cut n) in
          rw (n, y) (omega arith)
    ]

pub before_two : (cut : ℕ) (ps qs : List Packet) → before cut (ps ++ qs) ≡ before cut ps ++ before cut qs
before_two cut [] qs = refl
before_two cut (p ∷ ps) qs = elim (cases_Bool (is_before cut p)) [
  | inl y ↦ rw y (ap (λ rs. p ∷ rs) (before_two cut ps qs))
  | inr n ↦ rw n (before_two cut ps qs)
]

pub less_weight_before : (cut : ℕ) (ps : List Packet) → weights (before cut ps) ≤ weights ps
less_weight_before cut ps = less_weight (is_before cut) ps

-- none is counted twice
pub less_weight_outside : (from to : ℕ) (ps : List Packet) → from ≤ to → weights (before from ps) + weights (from_place to ps) ≤ weights ps
less_weight_outside from to [] l = omega arith
less_weight_outside from to (p ∷ ps) l =
    let more = less_weight_outside from to ps l in
    let all = sum_by-cons weight_of p ps in
    let front = sum_by-cons weight_of p (before from ps) in
    let rear = sum_by-cons weight_of p (from_place to ps) in
    elim (cases_Bool (is_before from p)) [
      | inl y ↦
          let m = ltb-true (place p) from y in
          let n = lt-leb to (place p) (omega arith) in
          rw (y, n) (omega arith)
      | inr n ↦ elim (cases_Bool (is_from to p)) [ inl y ↦ rw (n, y) (omega arith) | inr m ↦ rw (n, m) (omega arith) ]
    ]
