-- A start: what a new range weighs, and the room that a range held ready has.
use Rattle.std.proofs.Common.{◌≡◌, ℕ, zero, suc, ◌+◌, ◌≤◌, Bool, true, false, List, [], ◌∷◌, take, Option, Some, None, refl, ap, ◌∙◌, arith, inl, inr}
use Rattle.std.specs.Prelude.{IfSome, IsSomeAnd}
use Rattle.std.specs.List.{list_any}
use Rattle.std.proofs.lemmas.Bool.{cases_Bool}
use Rattle.mc_packet.specs.declared.choice.Choice.{Choice}
use Rattle.mc_packet.specs.declared.choice.Starts.{Starts}
use Rattle.mc_queue.specs.Places.{weights}
use Rattle.mc_queue.specs.Queue.{QueueState}
use Rattle.mc_range.specs.declared.queues.Queues.{Queues}
use Rattle.mc_range.specs.Range.{RangeState, IsBegun, IsRoomier, Roomier, StartsAt, meets_range, queue_of, weight_in as weight_of_queue}
use Rattle.mc_cache.specs.declared.prepared.Prepared.{Prepared}
use Rattle.mc_cache.specs.Cache.{CacheState, holds, in_front, left_with, ranges_of, weight_in, with_current}
use Rattle.mc_cache.specs.Changing.{IsLeft, IsOnlyRoomier, IsSameButRoom, KeepsNine, RoomierIn}
use Rattle.mc_cache.specs.Joining.{IsJoinedUp, JoinsFrom, unjoined}
use Rattle.mc_cache.specs.Rooms.{HasRoomFor, HasRoomToJoin, HasSpareFor, IsPrepared, MayTake, count_at_all, meets_any, meets_in}

-- ---- a new range holds nothing

start_light : (track start : Option ℕ) (q : Option QueueState) → StartsAt track start q → weight_of_queue q ≡ 0
start_light None start q s = rw s refl
start_light (Some k) None q s = rw s refl
start_light (Some k) (Some at) None s = absurd s
start_light (Some k) (Some at) (Some q) s = ap (λ ps. weights ps) s.none_yet

pub begun_light : (set : Choice) (starts : Starts) (r : RangeState) → IsBegun set starts r → weight_in r ≡ 0
begun_light set starts r b =
    let v = start_light set.video starts.video r.queues.video b.video in
    let a = start_light set.audio starts.audio r.queues.audio b.audio in
    let s = start_light set.sub starts.sub r.queues.sub b.sub in
    omega arith

-- ---- fewer others need less room

any_taken : (test : RangeState → Bool) (n : ℕ) (rs : List RangeState) → list_any test (take n rs) ≡ true → list_any test rs ≡ true
any_taken test zero rs e = absurd (cc)
any_taken test (suc n) [] e = e
any_taken test (suc n) (r ∷ rs) e = elim (cases_Bool (test r)) [
  | inl y ↦ rw y refl
  | inr m ↦ let z : list_any test (take n rs) ≡ true = rw m at e in rw m (any_taken test n rs z)
]

any_left : (test : RangeState → Bool) (c : Option RangeState) (rs : List RangeState) → list_any test (left_with c rs) ≡ true → list_any test (in_front c rs) ≡ true
any_left test None rs e = e
any_left test (Some r) rs e = elim (cases_Bool (test r)) [
  | inl y ↦ rw y refl
  | inr m ↦ elim (cases_Bool (holds r)) [
    | inl y ↦ let z : list_any test rs ≡ true = rw (y, m) at e in rw m z
    | inr n ↦ let z : list_any test rs ≡ true = rw n at e in rw m z
  ]
]

count_taken : (k n : ℕ) (rs : List RangeState) → count_at_all k (take n rs) ≤ count_at_all k rs
count_taken k zero rs = omega arith
count_taken k (suc n) [] = omega arith
count_taken k (suc n) (r ∷ rs) = let m = count_taken k n rs in omega arith

count_left : (k : ℕ) (c : Option RangeState) (rs : List RangeState) → count_at_all k (left_with c rs) ≤ count_at_all k (in_front c rs)
count_left k None rs = omega arith
count_left k (Some r) rs = elim (cases_Bool (holds r)) [ inl y ↦ rw y (omega arith) | inr n ↦ rw n (omega arith) ]

spare_less : (old new : List RangeState) (n : ℕ) (qs : Queues) (track : Option ℕ) → ((k : ℕ) → count_at_all k new ≤ count_at_all k old) → HasSpareFor old n qs track → HasSpareFor new n qs track
spare_less old new n qs None f h = tt
spare_less old new n qs (Some k) f h = let m = f k in by_queue (queue_of k qs) h
  where
    by_queue : (q : Option QueueState) → IfSome q (λ x. n + count_at_all k old ≤ x.spare) → IfSome q (λ x. n + count_at_all k new ≤ x.spare)
    by_queue None h = tt
    by_queue (Some q) h = let m = f k in omega arith

room_less : (old new : List RangeState) (n : ℕ) (r : RangeState) → ((k : ℕ) → count_at_all k new ≤ count_at_all k old) → HasRoomFor old n r → HasRoomFor new n r
room_less old new n r f h = record {
  video = spare_less old new n r.queues r.set.video f h.video;
  audio = spare_less old new n r.queues r.set.audio f h.audio;
  sub = spare_less old new n r.queues r.set.sub f h.sub;
}

take_less : (c : Option RangeState) (rs : List RangeState) (d e : ℕ) (r : RangeState) → d ≤ e → MayTake d (in_front c rs) r → MayTake e (take 9 (left_with c rs)) r
take_less c rs d e r l m = λ y.
    let z = m (any_left (meets_range r) c rs (any_taken (meets_range r) 9 (left_with c rs) y)) in
    let a = z.0 in
    (omega arith, room_less (in_front c rs) (take 9 (left_with c rs)) 0 r (λ k. less k) z.1)
  where
    less : (k : ℕ) → count_at_all k (take 9 (left_with c rs)) ≤ count_at_all k (in_front c rs)
    less k = let x = count_taken k 9 (left_with c rs) in let y = count_left k c rs in omega arith

-- ---- the joins after a start

pub room_to_join : (set : Choice) (starts : Starts) (r : RangeState) (st roomy ready left nine last : CacheState)
    → IsOnlyRoomier st roomy
    → IfSome roomy.prepared (λ p. p.starts ≡ starts → p.range.set ≡ set → r ≡ p.range)
    → ready.current ≡ roomy.current → ready.others ≡ roomy.others → ready.join_room ≡ roomy.join_room
    → IsLeft ready left → KeepsNine left nine → last ≡ with_current (Some r) nine
    → IsPrepared set starts st → HasRoomToJoin last
room_to_join set starts r st roomy ready left nine last o f rc ro rj l k e p = by_ready roomy.prepared f (rw (← held) at p)
  where
    held : roomy.prepared ≡ st.prepared
    held = ap (λ (x : CacheState). x.prepared) o.same

    others_are : last.others ≡ take 9 (left_with st.current st.others)
    others_are =
        ap (λ (x : CacheState). x.others) e ∙ k.others_is ∙ ap (λ xs. take 9 xs) (l.others_is ∙ ap (λ x. left_with x ready.others) (rc ∙ ap (λ (x : CacheState). x.current) o.same) ∙ ap (λ xs. left_with st.current xs) (ro ∙ ap (λ (x : CacheState). x.others) o.same))

    drops_are : st.join_room ≤ last.join_room
    drops_are =
        let a = o.join_room in
        let b = l.rest.join_room in
        let c = k.join_room_is in
        let d = rj in
        let g : last.join_room ≡ nine.join_room = ap (λ (x : CacheState). x.join_room) e in
        omega arith

    current_is : last.current ≡ Some r
    current_is = ap (λ (x : CacheState). x.current) e

    by_ready : (p : Option Prepared) → IfSome p (λ x. x.starts ≡ starts → x.range.set ≡ set → r ≡ x.range) → IsSomeAnd p (λ x. (x.starts ≡ starts) × (x.range.set ≡ set) × MayTake st.join_room (ranges_of st) x.range) → HasRoomToJoin last
    by_ready None f q = absurd q
    by_ready (Some x) f q =
        let z : r ≡ x.range = f q.0 q.1 in
        let m : MayTake st.join_room (ranges_of st) r = rw z q.2 in
        let t = take_less st.current st.others st.join_room last.join_room r drops_are m in
        rw (current_is, others_are) t

-- ---- no join

roomier_self : (q : Option QueueState) → Roomier q q
roomier_self None = refl
roomier_self (Some q) = (refl, omega arith)

pub roomier_same : (r : RangeState) → IsRoomier r r
roomier_same r = record {
  set_is = refl;
  queues = record { video = roomier_self r.queues.video; audio = roomier_self r.queues.audio; sub = roomier_self r.queues.sub };
  mark_is = refl;
  ending_is = refl;
}

roomier_in : (c : Option RangeState) → RoomierIn c c
roomier_in None = refl
roomier_in (Some r) = roomier_same r

pub same_room : (st : CacheState) → IsSameButRoom st st
same_room st = record { limits_is = refl; current = roomier_in st.current; others_is = refl; places = omega arith; start_room = omega arith; join_room = omega arith }

joins_none : (c : Option RangeState) (rs : List RangeState) → meets_in c rs ≡ false → JoinsFrom c rs c rs 0 []
joins_none None rs e = (refl, refl, refl, refl)
joins_none (Some r) rs e = (unjoined, e)

pub not_joined : (st : CacheState) → meets_in st.current st.others ≡ false → IsJoinedUp 0 [] st st
not_joined st e = record { roomy = st; room = same_room st; joins = joins_none st.current st.others e; limits_is = refl }

-- ---- held ready

pub may_take : (d : ℕ) (rs : List RangeState) (r : RangeState) → 30 ≤ d → HasRoomFor rs 0 r → MayTake d rs r
may_take d rs r l h = λ y. (l, h)

pub never_takes : (d : ℕ) (rs : List RangeState) (r : RangeState) → meets_any r rs ≡ false → MayTake d rs r
never_takes d rs r n = λ y. absurd (cc)

start_kept : (track start : Option ℕ) (q n : Option QueueState) → StartsAt track start q → Roomier q n → StartsAt track start n
start_kept None start q n s r = let e : q ≡ None = s in let z = rw e at r in z
start_kept (Some k) None q n s r = let e : q ≡ None = s in let z = rw e at r in z
start_kept (Some k) (Some at) None n s r = absurd s
start_kept (Some k) (Some at) (Some q) None s r = absurd r
start_kept (Some k) (Some at) (Some q) (Some n) s r =
    let e = r.0 in
    record {
      track_is = ap (λ (x : QueueState). x.track) e ∙ s.track_is;
      from_is = ap (λ (x : QueueState). x.from) e ∙ s.from_is;
      to_is = ap (λ (x : QueueState). x.to) e ∙ s.to_is;
      none_yet = ap (λ (x : QueueState). x.packets) e ∙ s.none_yet;
    }

pub begun_kept : (set : Choice) (starts : Starts) (r q : RangeState) → IsBegun set starts r → IsRoomier r q → IsBegun set starts q
begun_kept set starts r q b i = record {
  set_is = i.set_is ∙ b.set_is;
  video = start_kept set.video starts.video r.queues.video q.queues.video b.video i.queues.video;
  audio = start_kept set.audio starts.audio r.queues.audio q.queues.audio b.audio i.queues.audio;
  sub = start_kept set.sub starts.sub r.queues.sub q.queues.sub b.sub i.queues.sub;
  mark_is = i.mark_is ∙ b.mark_is;
  no_ending = i.ending_is ∙ b.no_ending;
}
