-- Lists of ranges: their numbers, the first that passes, and those that are left without it.
use Rattle.std.proofs.Common.{◌≡◌, ℕ, zero, suc, ◌+◌, ◌*◌, ◌^◌, ◌<◌, ◌≤◌, Bool, true, false, List, [], ◌∷◌, length, take, get_or, Option, Some, None, arith, refl, ap, sym, ◌∙◌, inl, inr, nat_lt}
use Rattle.std.specs.Prelude.{is_some}
use Rattle.std.specs.List.{AllByRecursion, filter, find, remove, slice_get, sum_by, position, position_or_len, list_any}
use Rattle.std.proofs.lemmas.Bool.{cases_Bool, ltb-true, ltb-false}
use Rattle.std.proofs.lemmas.List.Sums.{sum_by-cons, sum_by_more_le, sum_by_more}
use Rattle.mc_packet.specs.declared.packet.Packet.{Packet}
use Rattle.mc_queue.specs.Places.{weight_of as weight_of_packet, weights}
use Rattle.mc_queue.specs.Queue.{QueueState}
use Rattle.mc_range.specs.Range.{RangeState, count, weight_in as weight_of_queue}
use Rattle.mc_cache.specs.Cache.{Fewer, IsOther, holds, weight_in, weight_of, count_in, count_of, without_first, in_front}

-- ---- each packet weighs 64 at least

many : (ps : List Packet) → 64 * length ps ≤ weights ps
many [] = omega arith
many (p ∷ ps) = let more = many ps in let all = sum_by-cons weight_of_packet p ps in omega arith

count_weighs : (q : Option QueueState) → 64 * count q ≤ weight_of_queue q
count_weighs None = omega arith
count_weighs (Some q) = many q.packets

pub range_weighs : (r : RangeState) → 64 * count_in r ≤ weight_in r
range_weighs r = let v = count_weighs r.queues.video in let a = count_weighs r.queues.audio in let s = count_weighs r.queues.sub in omega arith

pub ranges_weigh : (rs : List RangeState) → 64 * count_of rs ≤ weight_of rs
ranges_weigh [] = omega arith
ranges_weigh (r ∷ rs) = let one = range_weighs r in let more = ranges_weigh rs in omega arith

counted : (rs : List RangeState) → count_of rs ≡ sum_by count_in rs
counted [] = refl
counted (r ∷ rs) = let c = sum_by-cons count_in r rs in let m = counted rs in omega arith

weighed : (rs : List RangeState) → weight_of rs ≡ sum_by weight_in rs
weighed [] = refl
weighed (r ∷ rs) = let c = sum_by-cons weight_in r rs in let m = weighed rs in omega arith

pub count_next : (rs : List RangeState) (i : ℕ) (d : RangeState) → i < length rs → count_of (take (i + 1) rs) ≡ count_of (take i rs) + count_in (get_or rs i d)
count_next rs i d l = let a = counted (take (i + 1) rs) in let b = counted (take i rs) in let s = sum_by_more count_in rs i d l in omega arith

pub weight_next : (rs : List RangeState) (i : ℕ) (d : RangeState) → i < length rs → weight_of (take (i + 1) rs) ≡ weight_of (take i rs) + weight_in (get_or rs i d)
weight_next rs i d l = let a = weighed (take (i + 1) rs) in let b = weighed (take i rs) in let s = sum_by_more weight_in rs i d l in omega arith

pub count_more : (rs : List RangeState) (i : ℕ) (d : RangeState) → i < length rs → weight_of rs < 2 ^ 64 → count_of (take i rs) + count_in (get_or rs i d) < 2 ^ 64
count_more rs i d l f =
    let a = sum_by_more_le count_in rs i d l in
    let b = ranges_weigh rs in
    let e = counted rs in
    let g = counted (take i rs) in
    omega arith

pub weight_more : (rs : List RangeState) (i : ℕ) (d : RangeState) → i < length rs → weight_of rs < 2 ^ 64 → weight_of (take i rs) + weight_in (get_or rs i d) < 2 ^ 64
weight_more rs i d l f = let a = sum_by_more_le weight_in rs i d l in let e = weighed rs in let g = weighed (take i rs) in omega arith

pub front_adds : (c : Option RangeState) (rs : List RangeState) → count_of (in_front c []) + count_of rs ≡ count_of (in_front c rs)
front_adds None rs = omega arith
front_adds (Some r) rs = omega arith

pub front_counts : (c : Option RangeState) (rs : List RangeState) → weight_of (in_front c rs) < 2 ^ 64 → count_of (in_front c rs) < 2 ^ 64
front_counts c rs f = let b = ranges_weigh (in_front c rs) in omega arith

-- ---- the first that passes

-- what a look-up and a removal give
pub record Taken (test : RangeState → Bool) (i : ℕ) (rs : List RangeState) : Type 0 where
  pub found : find test rs ≡ slice_get rs i
  pub left : remove rs i ≡ without_first test rs
  pub within : i < length rs

taken_one : (test : RangeState → Bool) (r : RangeState) (rs : List RangeState) (i : ℕ) → test r ≡ false → Taken test i rs → Taken test (1 + i) (r ∷ rs)
taken_one test r rs i n t = let e : 1 + i ≡ suc i = omega arith in let l = t.within in rw e (record {
  found = rw n t.found;
  left = rw n (ap (λ xs. r ∷ xs) t.left);
  within = omega arith;
})

taken_by : (test : RangeState → Bool) (rs : List RangeState) → position_or_len test rs < length rs → Taken test (position_or_len test rs) rs
taken_by test [] l = absurd (omega arith)
taken_by test (r ∷ rs) l = elim (cases_Bool (test r)) [
  | inl y ↦ rw y (record { found = rw y refl; left = rw y refl; within = omega arith })
  | inr n ↦
      let e : position_or_len test (r ∷ rs) ≡ 1 + position_or_len test rs = rw n refl in
      let m : position_or_len test rs < length rs = omega arith in
      rw e (taken_one test r rs (position_or_len test rs) n (taken_by test rs m))
]

pub taken : (test : RangeState → Bool) (rs : List RangeState) (i : ℕ) → position test rs ≡ Some i → Taken test i rs
taken test rs i e = elim (cases_Bool (nat_lt (position_or_len test rs) (length rs))) [
  | inl y ↦
      let k : position_or_len test rs ≡ i = some (position_or_len test rs) i (rw y at e) in
      rw (sym k) (taken_by test rs (ltb-true (position_or_len test rs) (length rs) y))
  | inr n ↦ let z = rw n at e in absurd (cc)
]
  where
    some : (a b : ℕ) → Some a ≡ Some b → a ≡ b
    some a b e = cc

pub got : (rs : List RangeState) (i : ℕ) (r : RangeState) → i < length rs → r ≡ get_or rs i r → slice_get rs i ≡ Some r
got [] i r l e = absurd (omega arith)
got (q ∷ rs) zero r l e = ap (λ x. Some x) (sym e)
got (q ∷ rs) (suc i) r l e = got rs i r (omega arith) e

-- none passes
pub record Passed (test : RangeState → Bool) (rs : List RangeState) : Type 0 where
  pub none : find test rs ≡ None
  pub same : without_first test rs ≡ rs
  pub no_one : list_any test rs ≡ false

passed_by : (test : RangeState → Bool) (rs : List RangeState) → length rs ≤ position_or_len test rs → Passed test rs
passed_by test [] l = record { none = refl; same = refl; no_one = refl }
passed_by test (r ∷ rs) l = elim (cases_Bool (test r)) [
  | inl y ↦ let z : position_or_len test (r ∷ rs) ≡ 0 = rw y refl in absurd (omega arith)
  | inr n ↦
      let e : position_or_len test (r ∷ rs) ≡ 1 + position_or_len test rs = rw n refl in
      let p = passed_by test rs (omega arith) in
      record { none = rw n p.none; same = rw n (ap (λ xs. r ∷ xs) p.same); no_one = rw n p.no_one }
]

pub passed : (test : RangeState → Bool) (rs : List RangeState) → position test rs ≡ None → Passed test rs
passed test rs e = elim (cases_Bool (nat_lt (position_or_len test rs) (length rs))) [
  | inl y ↦ let z = rw y at e in absurd (cc)
  | inr n ↦ passed_by test rs (ltb-false (position_or_len test rs) (length rs) n)
]

pub unfound : (test : RangeState → Bool) (rs : List RangeState) → find test rs ≡ None → without_first test rs ≡ rs
unfound test [] e = refl
unfound test (r ∷ rs) e = elim (cases_Bool (test r)) [
  | inl y ↦ let z = rw y at e in absurd (cc)
  | inr n ↦ let z : find test rs ≡ None = rw n at e in rw n (ap (λ xs. r ∷ xs) (unfound test rs z))
]

pub none_passes : (test : RangeState → Bool) (rs : List RangeState) → find test rs ≡ None → list_any test rs ≡ false
none_passes test [] e = refl
none_passes test (r ∷ rs) e = elim (cases_Bool (test r)) [
  | inl y ↦ let z = rw y at e in absurd (cc)
  | inr n ↦ let z : find test rs ≡ None = rw n at e in rw n (none_passes test rs z)
]

pub others_few : (c : Option RangeState) (rs : List RangeState) (n : ℕ) → length (in_front c rs) ≤ n → length rs ≤ n
others_few None rs n l = l
others_few (Some r) rs n l = omega arith

pub others_light : (c : Option RangeState) (rs : List RangeState) (n : ℕ) → weight_of (in_front c rs) < n → weight_of rs < n
others_light None rs n l = l
others_light (Some r) rs n l = omega arith

pub front_light : (c : Option RangeState) (rs : List RangeState) (n : ℕ) → weight_of (in_front c rs) < n → weight_of (in_front c []) < n
front_light None rs n l = omega arith
front_light (Some r) rs n l = omega arith

pub front_parts : (c : Option RangeState) (rs : List RangeState) → weight_of (in_front c []) + weight_of rs ≡ weight_of (in_front c rs)
front_parts None rs = omega arith
front_parts (Some r) rs = omega arith

pub found_passes : (test : RangeState → Bool) (rs : List RangeState) (r : RangeState) → find test rs ≡ Some r → test r ≡ true
found_passes test [] r e = absurd (cc)
found_passes test (q ∷ rs) r e = elim (cases_Bool (test q)) [
  | inl y ↦ let z : Some q ≡ Some r = rw y at e in let k : q ≡ r = some q r z in rw (← k) y
  | inr n ↦ let z : find test rs ≡ Some r = rw n at e in found_passes test rs r z
]
  where
    some : (a b : RangeState) → Some a ≡ Some b → a ≡ b
    some a b e = cc

any_found : (test : RangeState → Bool) (rs : List RangeState) (r : RangeState) → find test rs ≡ Some r → list_any test rs ≡ true
any_found test [] r e = absurd (cc)
any_found test (q ∷ rs) r e = elim (cases_Bool (test q)) [
  | inl y ↦ rw y refl
  | inr n ↦ let z : find test rs ≡ Some r = rw n at e in rw n (any_found test rs r z)
]

get_some : (rs : List RangeState) (i : ℕ) → i < length rs → (r : RangeState) × (slice_get rs i ≡ Some r)
get_some [] i l = absurd (omega arith)
get_some (r ∷ rs) zero l = (r, refl)
get_some (r ∷ rs) (suc i) l = get_some rs i (omega arith)

any_by : (test : RangeState → Bool) (rs : List RangeState) (o : Option ℕ) → position test rs ≡ o → is_some (position test rs) ≡ list_any test rs
any_by test rs None e = let p = passed test rs e in let n = p.no_one in rw (e, n) refl
any_by test rs (Some i) e =
    let t = taken test rs i e in
    let g = get_some rs i t.within in
    let y = any_found test rs g.0 (t.found ∙ g.1) in
    rw (e, y) refl

pub any_place : (test : RangeState → Bool) (rs : List RangeState) → is_some (position test rs) ≡ list_any test rs
any_place test rs = any_by test rs (position test rs) refl

-- ---- those that are left

fewer_one : (q r : RangeState) (rs left : List RangeState) → IsOther q → Fewer r rs left → Fewer r (q ∷ rs) (q ∷ left)
fewer_one q r rs left o f =
    let w = f.weight in
    let n = f.number in
    record { one = f.one; others = (o, f.others); weight = omega arith; number = omega arith }

pub fewer : (test : RangeState → Bool) (rs : List RangeState) (r : RangeState) → AllByRecursion IsOther rs → find test rs ≡ Some r → Fewer r rs (without_first test rs)
fewer test [] r a e = absurd (cc)
fewer test (q ∷ rs) r a e = elim (cases_Bool (test q)) [
  | inl y ↦
      let k : q ≡ r = some q r (rw y at e) in
      rw (y, sym k) (record { one = a.0; others = a.1; weight = refl; number = omega arith })
  | inr n ↦ let f : find test rs ≡ Some r = rw n at e in rw n (fewer_one q r rs (without_first test rs) a.0 (fewer test rs r a.1 f))
]
  where
    some : (a b : RangeState) → Some a ≡ Some b → a ≡ b
    some a b e = cc

-- all others hold packets
pub all_held : (rs : List RangeState) → AllByRecursion IsOther rs → filter holds rs ≡ rs
all_held [] a = refl
all_held (r ∷ rs) a = let h = a.0.some in rw h (ap (λ xs. r ∷ xs) (all_held rs a.1))
