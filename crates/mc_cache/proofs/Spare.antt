-- Room in the queues of a range, and that it stays.
use Rattle.std.proofs.Common.{◌≡◌, ℕ, zero, suc, ◌+◌, ◌^◌, ◌<◌, ◌≤◌, true, false, List, [], ◌∷◌, length, take, get_or, Option, Some, None, refl, ap, ◌∙◌, arith, inl, inr}
use Rattle.std.specs.Prelude.{IfSome}
use Rattle.std.proofs.lemmas.Bool.{cases_Bool}
use Rattle.mc_packet.specs.Choices.{or_else}
use Rattle.mc_queue.specs.Queue.{QueueState, with_spare}
use Rattle.mc_range.specs.declared.queues.Queues.{Queues}
use Rattle.mc_range.specs.Range.{RangeState, AreRoomier, IsRoomier, Roomier, count, is_of, own, queue_of}
use Rattle.mc_cache.specs.Cache.{count_in, count_of, in_front, weight_of}
use Rattle.mc_cache.specs.Rooms.{HasRoomFor, HasSpareFor, count_at, count_at_all}
use Rattle.mc_cache.proofs.Lists.{ranges_weigh}

-- ---- numbers

pub count_next : (track : ℕ) (rs : List RangeState) (i : ℕ) (d : RangeState) → i < length rs → count_at_all track (take (i + 1) rs) ≡ count_at_all track (take i rs) + count_at track (get_or rs i d)
count_next track [] i d l = absurd (omega arith)
count_next track (r ∷ rs) zero d l = omega arith
count_next track (r ∷ rs) (suc i) d l = let e : suc i + 1 ≡ suc (i + 1) = omega arith in let m = count_next track rs i d (omega arith) in rw e (omega arith)

own_count : (track : ℕ) (q : Option QueueState) → count (own track q) ≤ count q
own_count track q = elim (cases_Bool (is_of track q)) [ inl y ↦ rw y (omega arith) | inr n ↦ rw n (omega arith) ]

or_count : (a b : Option QueueState) → count (or_else a b) ≤ count a + count b
or_count None b = omega arith
or_count (Some a) b = omega arith

at_most : (track : ℕ) (r : RangeState) → count_at track r ≤ count_in r
at_most track r =
    let v = own_count track r.queues.video in
    let a = own_count track r.queues.audio in
    let s = own_count track r.queues.sub in
    let x = or_count (own track r.queues.audio) (own track r.queues.sub) in
    let y = or_count (own track r.queues.video) (or_else (own track r.queues.audio) (own track r.queues.sub)) in
    omega arith

all_at_most : (track : ℕ) (rs : List RangeState) → count_at_all track rs ≤ count_of rs
all_at_most track [] = omega arith
all_at_most track (r ∷ rs) = let a = at_most track r in let m = all_at_most track rs in omega arith

part_at_most : (track : ℕ) (rs : List RangeState) (i : ℕ) → count_at_all track (take i rs) ≤ count_at_all track rs
part_at_most track [] zero = omega arith
part_at_most track [] (suc i) = omega arith
part_at_most track (r ∷ rs) zero = omega arith
part_at_most track (r ∷ rs) (suc i) = let m = part_at_most track rs i in omega arith

pub count_fits : (track : ℕ) (rs : List RangeState) (i : ℕ) → weight_of rs < 2 ^ 64 → count_at_all track (take i rs) < 2 ^ 60
count_fits track rs i f = let a = all_at_most track rs in let b = ranges_weigh rs in let p = part_at_most track rs i in omega arith

pub front_parts : (k : ℕ) (c : Option RangeState) (rs : List RangeState) → count_at_all k (in_front c []) + count_at_all k rs ≡ count_at_all k (in_front c rs)
front_parts k None rs = omega arith
front_parts k (Some r) rs = omega arith

pub front_fits : (k : ℕ) (c : Option RangeState) (rs : List RangeState) → weight_of (in_front c rs) < 2 ^ 64 → count_at_all k (in_front c rs) < 2 ^ 60
front_fits k c rs f = let a = all_at_most k (in_front c rs) in let b = ranges_weigh (in_front c rs) in omega arith

-- ---- room that stays

own_roomier : (track : ℕ) (q n : Option QueueState) → Roomier q n → Roomier (own track q) (own track n)
own_roomier track None n r = rw r refl
own_roomier track (Some q) None r = absurd r
own_roomier track (Some q) (Some n) r =
    let e : n.track ≡ q.track = ap (λ (x : QueueState). x.track) r.0 in
    elim (cases_Bool (is_of track (Some q))) [
      | inl y ↦ let z : is_of track (Some n) ≡ true = rw e y in rw (y, z) r
      | inr m ↦ let z : is_of track (Some n) ≡ false = rw e m in rw (m, z) refl
    ]

or_roomier : (a b x y : Option QueueState) → Roomier a x → Roomier b y → Roomier (or_else a b) (or_else x y)
or_roomier None b x y r s = rw r s
or_roomier (Some a) b None y r s = absurd r
or_roomier (Some a) b (Some x) y r s = r

of_roomier : (track : ℕ) (qs ns : Queues) → AreRoomier qs ns → Roomier (queue_of track qs) (queue_of track ns)
of_roomier track qs ns r =
    or_roomier (own track qs.video) _ (own track ns.video) _ (own_roomier track qs.video ns.video r.video)
    (or_roomier (own track qs.audio) _ (own track ns.audio) _ (own_roomier track qs.audio ns.audio r.audio) (own_roomier track qs.sub ns.sub r.sub))

more_spare : (n : ℕ) (a b : Option QueueState) → Roomier a b → IfSome a (λ q. n ≤ q.spare) → IfSome b (λ q. n ≤ q.spare)
more_spare n None b r h = rw r tt
more_spare n (Some a) None r h = absurd r
more_spare n (Some a) (Some b) r h = let m = r.1 in omega arith

pub spare_kept : (rs : List RangeState) (n : ℕ) (track : Option ℕ) (r q : RangeState) → IsRoomier r q → HasSpareFor rs n r.queues track → HasSpareFor rs n q.queues track
spare_kept rs n None r q i h = tt
spare_kept rs n (Some k) r q i h = more_spare (n + count_at_all k rs) (queue_of k r.queues) (queue_of k q.queues) (of_roomier k r.queues q.queues i.queues) h

roomier_both : (a b c : Option QueueState) → Roomier a b → Roomier b c → Roomier a c
roomier_both None b c r s = let e : b ≡ None = r in rw e at s
roomier_both (Some a) None c r s = absurd r
roomier_both (Some a) (Some b) None r s = absurd s
roomier_both (Some a) (Some b) (Some c) r s = let m = r.1 in let n = s.1 in (s.0 ∙ ap (λ x. with_spare x c.spare) r.0, omega arith)

pub roomier_on : (a b c : RangeState) → IsRoomier a b → IsRoomier b c → IsRoomier a c
roomier_on a b c r s = record {
  set_is = s.set_is ∙ r.set_is;
  queues = record {
    video = roomier_both a.queues.video b.queues.video c.queues.video r.queues.video s.queues.video;
    audio = roomier_both a.queues.audio b.queues.audio c.queues.audio r.queues.audio s.queues.audio;
    sub = roomier_both a.queues.sub b.queues.sub c.queues.sub r.queues.sub s.queues.sub;
  };
  mark_is = s.mark_is ∙ r.mark_is;
  ending_is = s.ending_is ∙ r.ending_is;
}

pub room_kept : (rs : List RangeState) (n : ℕ) (r q : RangeState) → IsRoomier r q → HasRoomFor rs n r → HasRoomFor rs n q
room_kept rs n r q i h = let e = i.set_is in record {
  video = rw e (spare_kept rs n r.set.video r q i h.video);
  audio = rw e (spare_kept rs n r.set.audio r q i h.audio);
  sub = rw e (spare_kept rs n r.set.sub r q i h.sub);
}
