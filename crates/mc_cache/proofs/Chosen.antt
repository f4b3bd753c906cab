-- Which range a seek makes current, and which others stay.
use Rattle.std.proofs.Common.{◌≡◌, Bool, true, false, ◌+◌, ◌<◌, ◌≤◌, ◌^◌, length, List, ◌∷◌, Option, Some, None, refl, ap, sym, ◌∙◌, arith, inl, inr}
use Rattle.std.specs.Prelude.{if◌then◌else◌, ℤ, is_some, IfSome, IfNone, OnSome}
use Rattle.std.specs.List.{AllByRecursion, filter, find}
use Rattle.std.proofs.lemmas.Bool.{cases_Bool}
use Rattle.mc_packet.specs.declared.cache.Heads.{Heads}
use Rattle.mc_packet.specs.declared.choice.Choice.{Choice}
use Rattle.mc_packet.specs.declared.choice.Dir.{Dir}
use Rattle.mc_range.specs.Range.{RangeState}
use Rattle.mc_range.specs.Serving.{heads_of}
use Rattle.mc_cache.specs.Cache.{CacheState, Fewer, IsCache, IsOther, holds, in_front, left_with, weight_in, weight_of, with_current, with_others, without_first}
use Rattle.mc_cache.specs.Changing.{IsChosen, IsLeft, KeepsRest, heads_in, server, serves}
use Rattle.mc_cache.proofs.Lists.{all_held, fewer, found_passes, unfound}

some_is : (o : Option Heads) (h : Heads) → o ≡ Some h → is_some o ≡ true
some_is None h e = absurd (cc)
some_is (Some x) h e = refl

none_is : (o : Option Heads) → o ≡ None → is_some o ≡ false
none_is None e = refl
none_is (Some x) e = absurd (cc)

same_rest : (st : CacheState) → KeepsRest st st
same_rest st = record { limits_is = refl; places = omega arith; start_room = omega arith; join_room = omega arith; prepared_is = refl }

-- the current range serves
stays_in : (set : Choice) (t : ℤ) (dir : Dir) (h : Heads) (c : Option RangeState) (rs : List RangeState) → AllByRecursion IsOther rs → heads_in set t dir c ≡ Some h
    → (find (serves set t dir) (in_front c rs) ≡ c) × (filter holds (without_first (serves set t dir) (in_front c rs)) ≡ rs)
stays_in set t dir h None rs a e = absurd (cc)
stays_in set t dir h (Some r) rs a e = let y = some_is (heads_of r set t dir) h e in rw y (refl, all_held rs a)

pub stays : (set : Choice) (t : ℤ) (dir : Dir) (h : Heads) (st : CacheState) → IsCache st → heads_in set t dir st.current ≡ Some h
    → (heads_in set t dir (server set t dir st) ≡ Some h) × IsChosen set t dir st st
stays set t dir h st i e =
    let s = stays_in set t dir h st.current st.others i.others e in
    (rw s.0 e, record { current_is = sym s.0; others_is = sym s.1; rest = same_rest st })

-- none serves
pub nowhere : (set : Choice) (t : ℤ) (dir : Dir) (c : Option RangeState) (rs : List RangeState) → heads_in set t dir c ≡ None → find (serves set t dir) rs ≡ None
    → find (serves set t dir) (in_front c rs) ≡ None
nowhere set t dir None rs e f = f
nowhere set t dir (Some r) rs e f = let n = none_is (heads_of r set t dir) e in rw n f

-- another serves
pub moved : (set : Choice) (t : ℤ) (dir : Dir) (c : Option RangeState) (rs left : List RangeState) (r : RangeState) → heads_in set t dir c ≡ None → find (serves set t dir) rs ≡ Some r
    → AllByRecursion IsOther left → without_first (serves set t dir) rs ≡ left
    → (find (serves set t dir) (in_front c rs) ≡ Some r) × (filter holds (without_first (serves set t dir) (in_front c rs)) ≡ left_with c left)
moved set t dir None rs left r e f a w = (f, rw w (all_held left a))
moved set t dir (Some q) rs left r e f a w =
    let n = none_is (heads_of q set t dir) e in
    rw (n, w) (f, ap (λ xs. if holds q then q ∷ xs else xs) (all_held left a))

-- ---- by steps

left_number : (c : Option RangeState) (rs : List RangeState) → length (left_with c rs) ≤ length (in_front c rs)
left_number None rs = omega arith
left_number (Some q) rs = elim (cases_Bool (holds q)) [ inl y ↦ rw y (omega arith) | inr n ↦ rw n (omega arith) ]

left_weight : (c : Option RangeState) (rs : List RangeState) → weight_of (left_with c rs) ≤ weight_of (in_front c rs)
left_weight None rs = omega arith
left_weight (Some q) rs = elim (cases_Bool (holds q)) [ inl y ↦ rw y (omega arith) | inr n ↦ rw n (omega arith) ]

front_number : (c : Option RangeState) (r : RangeState) (rs left : List RangeState) → Fewer r rs left → 1 + length (in_front c left) ≡ length (in_front c rs)
front_number None r rs left f = f.number
front_number (Some q) r rs left f = let n = f.number in omega arith

front_weight : (c : Option RangeState) (r : RangeState) (rs left : List RangeState) → Fewer r rs left → weight_in r + weight_of (in_front c left) ≡ weight_of (in_front c rs)
front_weight None r rs left f = f.weight
front_weight (Some q) r rs left f = let n = f.weight in omega arith

-- one of the others is taken
pub taken_out : (test : RangeState → Bool) (r : RangeState) (st : CacheState) → IsCache st → find test st.others ≡ Some r → IsCache (with_others (without_first test st.others) st)
taken_out test r st i e =
    let f = fewer test st.others r i.others e in
    let n = front_number st.current r st.others (without_first test st.others) f in
    let w = front_weight st.current r st.others (without_first test st.others) f in
    let k = i.few in
    let m = i.room in
    let g = i.fits in
    record {
      current = i.current;
      others = f.others;
      few = omega arith;
      room = omega arith;
      fits = omega arith;
      ready = i.ready;
    }

pub kept_out : (test : RangeState → Bool) (st : CacheState) → IsCache st → IsCache (with_others (without_first test st.others) st)
kept_out test st i = by_find (find test st.others) refl
  where
    by_find : (o : Option RangeState) → find test st.others ≡ o → IsCache (with_others (without_first test st.others) st)
    by_find None e = rw (unfound test st.others e) i
    by_find (Some r) e = taken_out test r st i e

fewer_if : (test : RangeState → Bool) (rs : List RangeState) (o : Option RangeState) → AllByRecursion IsOther rs → o ≡ find test rs → IfSome o (λ r. Fewer r rs (without_first test rs))
fewer_if test rs None a e = tt
fewer_if test rs (Some r) a e = fewer test rs r a (sym e)

pub fewer_of : (test : RangeState → Bool) (st : CacheState) (o : Option RangeState) → IsCache st → o ≡ find test st.others → IfSome o (λ r. Fewer r st.others (without_first test st.others))
fewer_of test st o i e = fewer_if test st.others o i.others e

-- the current one is left, and the one that was taken out can be current
pub record MayPut (r : RangeState) (st : CacheState) : Type 0 where
  pub few : length st.others < 10
  pub room : length st.others < st.places
  pub fits : weight_in r + weight_of st.others < 2 ^ 64

pub may_put : (r : RangeState) (st mid left : CacheState) → IsCache st → Fewer r st.others mid.others → mid.current ≡ st.current → mid.places ≡ st.places → IsLeft mid left → MayPut r left
may_put r st mid left i f c p l =
    let o : left.others ≡ left_with st.current mid.others = l.others_is ∙ ap (λ x. left_with x mid.others) c in
    let a = left_number st.current mid.others in
    let b = left_weight st.current mid.others in
    let n = front_number st.current r st.others mid.others f in
    let w = front_weight st.current r st.others mid.others f in
    let k = i.few in
    let m = i.room in
    let g = i.fits in
    let q = l.rest.places in
    rw o (record { few = omega arith; room = omega arith; fits = omega arith })

pub chosen : (set : Choice) (t : ℤ) (dir : Dir) (r : RangeState) (st mid left last : CacheState) → IsCache st → heads_in set t dir st.current ≡ None → find (serves set t dir) st.others ≡ Some r
    → mid ≡ with_others (without_first (serves set t dir) st.others) st → IsLeft mid left → last ≡ with_current (Some r) left
    → (server set t dir st ≡ Some r) × IsChosen set t dir st last
chosen set t dir r st mid left last i n e m l z =
    let f = fewer (serves set t dir) st.others r i.others e in
    let v = moved set t dir st.current st.others (without_first (serves set t dir) st.others) r n e f.others refl in
    let c : mid.current ≡ st.current = ap (λ (x : CacheState). x.current) m in
    let o : mid.others ≡ without_first (serves set t dir) st.others = ap (λ (x : CacheState). x.others) m in
    let k : mid.limits ≡ st.limits = ap (λ (x : CacheState). x.limits) m in
    let p : mid.places ≡ st.places = ap (λ (x : CacheState). x.places) m in
    let s : mid.start_room ≡ st.start_room = ap (λ (x : CacheState). x.start_room) m in
    let j : mid.join_room ≡ st.join_room = ap (λ (x : CacheState). x.join_room) m in
    let d : mid.prepared ≡ st.prepared = ap (λ (x : CacheState). x.prepared) m in
    let h = l.rest in
    rw z (
      v.0,
      record {
        current_is = sym v.0;
        others_is = l.others_is ∙ ap (λ x. left_with x mid.others) c ∙ ap (λ x. left_with st.current x) o ∙ sym v.1;
        rest = record {
          limits_is = h.limits_is ∙ k;
          places = let q = h.places in omega arith;
          start_room = let q = h.start_room in omega arith;
          join_room = let q = h.join_room in omega arith;
          prepared_is = h.prepared_is ∙ d;
        };
      },
    )

pub on_some : (P : Type 0) (o : Option Heads) → P → OnSome o P
on_some P None h = tt
on_some P (Some x) h = h

-- the range that was found serves
pub never_none : (set : Choice) (t : ℤ) (dir : Dir) (r : RangeState) (rs : List RangeState) (o : Option Heads) (P : Type 0) → find (serves set t dir) rs ≡ Some r → o ≡ heads_of r set t dir → IfNone o P
never_none set t dir r rs (Some x) P e h = tt
never_none set t dir r rs None P e h =
    let y : is_some (heads_of r set t dir) ≡ true = found_passes (serves set t dir) rs r e in
    let z = rw (← h) at y in absurd (cc)

pub unmoved : (test : RangeState → Bool) (st new : CacheState) (o : Option Heads) → find test st.others ≡ None → new ≡ with_others (without_first test st.others) st → IfNone o (new ≡ st)
unmoved test st new (Some x) e n = tt
unmoved test st new None e n = n ∙ ap (λ rs. with_others rs st) (unfound test st.others e)
