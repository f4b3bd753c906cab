-- What joins of a range leave, whatever film: no more packets, queues of the same tracks, and few records.
use Rattle.std.proofs.Common.{◌≡◌, ℕ, ◌+◌, ◌*◌, ◌≤◌, Bool, Option, Some, None, List, [], ◌∷◌, ◌++◌, refl, ap, sym, inl, inr, arith, length, length-append}
use Rattle.std.specs.Prelude.{nat_le}
use Rattle.std.specs.List.{find, AllByRecursion}
use Rattle.std.proofs.lemmas.Bool.{cases_Bool, leb-true, ltb-true}
use Rattle.mc_packet.specs.declared.packet.Packet.{Packet}
use Rattle.mc_packet.specs.declared.choice.Choice.{Choice}
use Rattle.mc_packet.specs.declared.walk.Mark.{Mark}
use Rattle.mc_journal.specs.Films.{rank}
use Rattle.mc_journal.specs.declared.record.Cause.{Cause}
use Rattle.mc_journal.specs.declared.record.Cause.TheVariants.{Mismatch}
use Rattle.mc_journal.specs.declared.record.Removal.{Removal}
use Rattle.mc_queue.specs.Places.{Rise, before, is_before, is_from, place}
use Rattle.mc_journal.specs.Views.{from_place}
use Rattle.mc_queue.specs.Queue.{QueueState, IsQueue}
use Rattle.mc_queue.specs.Union.{united, in_front, behind_all}
use Rattle.mc_range.specs.Range.{RangeState, IsRange, IsRoomier, QueueIn, Roomier, count, meets_range}
use Rattle.mc_range.specs.Joining.{IsJoined, UnitesIn}
use Rattle.mc_cache.specs.Cache.{IsOther, count_in, count_of, weight_in, weight_of, without_first}
use Rattle.mc_cache.specs.Removals.{put_in, put_all, removal_if, removal_in, removals_of}
use Rattle.mc_cache.specs.Joining.{Joins}
use Rattle.mc_cache.specs.Joining.Joins.{parted, united as joins_united, unjoined}
use Rattle.mc_cache.proofs.Lists.{fewer}
use Rattle.mc_cache.proofs.Standing.{all_without}
use Rattle.mc_cache.proofs.United.{weighs, roomier_weighs}
use Rattle.mc_calls.proofs.SameTracks.{HasSameTracks, joined_tracks, roomier_tracks, tracks_both, tracks_self}

-- ---- how many packets two queues have together

rise_upto : (track from to : ℕ) (ps : List Packet) → Rise track from to ps → from ≤ to
rise_upto track from to [] r = r
rise_upto track from to (p ∷ ps) r = let m = rise_upto track (place p + 1) to ps r.2 in let l = r.1 in omega arith

both_few : (a b : ℕ) (ps : List Packet) → a ≤ b → length (before a ps) + length (from_place b ps) ≤ length ps
both_few a b [] l = omega arith
both_few a b (p ∷ ps) l =
    let m = both_few a b ps l in
    elim (cases_Bool (is_before a p)) [
      | inl y ↦
          let x = ltb-true (place p) a y in
          elim (cases_Bool (is_from b p)) [
            | inl z ↦ let w = leb-true b (place p) z in absurd (omega arith)
            | inr z ↦ rw (y, z) (omega arith)
          ]
      | inr n ↦ elim (cases_Bool (is_from b p)) [ inl z ↦ rw (n, z) (omega arith) | inr z ↦ rw (n, z) (omega arith) ]
    ]

few_united : (q o : QueueState) → IsQueue q → length (united q o) ≤ length q.packets + length o.packets
few_united q o i =
    let l = both_few (rank q.from) (rank q.to) o.packets (rise_upto q.track (rank q.from) (rank q.to) q.packets i.rise) in
    let a = length-append (in_front q o) (q.packets ++ behind_all q o) in
    let b = length-append q.packets (behind_all q o) in
    omega arith

few : (track : Option ℕ) (mark : Mark) (q p n : Option QueueState) → QueueIn track mark q → UnitesIn q p n → count n ≤ count q + count p
few track mark None p n i u = rw u (omega arith)
few track mark (Some q) None n i u = rw u (omega arith)
few track mark (Some q) (Some p) None i u = absurd u
few track mark (Some q) (Some p) (Some n) i u =
    let e : length n.packets ≡ length (united q p) = ap (λ (x : QueueState). length x.packets) u.both in
    let l = few_united q p i.2 in
    omega arith

counts : (r o r' o' : RangeState) → IsRange r → IsJoined r o r' o' → count_in r' ≤ count_in r + count_in o
counts r o r' o' i u =
    let v = few r.set.video r.mark r.queues.video o.queues.video r'.queues.video i.held.video u.queues.video in
    let a = few r.set.audio r.mark r.queues.audio o.queues.audio r'.queues.audio i.held.audio u.queues.audio in
    let s = few r.set.sub r.mark r.queues.sub o.queues.sub r'.queues.sub i.held.sub u.queues.sub in
    omega arith

roomier_count : (q n : Option QueueState) → Roomier q n → count n ≡ count q
roomier_count None n r = rw r refl
roomier_count (Some q) None r = absurd r
roomier_count (Some q) (Some n) r = ap (λ (x : QueueState). length x.packets) r.0

pub roomier_counts : (r q : RangeState) → IsRoomier r q → count_in q ≡ count_in r
roomier_counts r q i =
    let v = roomier_count r.queues.video q.queues.video i.queues.video in
    let a = roomier_count r.queues.audio q.queues.audio i.queues.audio in
    let s = roomier_count r.queues.sub q.queues.sub i.queues.sub in
    omega arith

-- ---- one range less

count_without : (test : RangeState → Bool) (rs : List RangeState) (o : RangeState) → find test rs ≡ Some o → count_in o + count_of (without_first test rs) ≡ count_of rs
count_without test [] o e = absurd (cc)
count_without test (q ∷ rs) o e = elim (cases_Bool (test q)) [
  | inl y ↦ let k : q ≡ o = some q o (rw y at e) in rw (y, sym k) refl
  | inr n ↦ let z : find test rs ≡ Some o = rw n at e in let m = count_without test rs o z in rw n (omega arith)
]
  where
    some : (a b : RangeState) → Some a ≡ Some b → a ≡ b
    some a b e = cc

-- ---- how much is told of a range

put_more : (d : Removal) (es : List Removal) → length (put_in d es) ≡ 1 + length es
put_more d [] = omega arith
put_more d (e ∷ es) = let m = put_more d es in elim (cases_Bool (nat_le d.track e.track)) [ inl y ↦ rw y (omega arith) | inr n ↦ rw n (omega arith) ]

put_many : (ds es : List Removal) → length (put_all ds es) ≡ length ds + length es
put_many [] es = omega arith
put_many (d ∷ ds) es = let m = put_many ds es in let n = put_more d (put_all ds es) in omega arith

one_told : (cause : Cause) (q : Option QueueState) → length (removal_in cause q) ≤ 1
one_told cause None = omega arith
one_told cause (Some q) = by q.packets
  where
    by : (ps : List Packet) → length (removal_if cause q.track q.from q.to ps) ≤ 1
    by [] = omega arith
    by (p ∷ ps) = omega arith

pub few_told : (cause : Cause) (r : RangeState) → length (removals_of cause r) ≤ 3
few_told cause r =
    let v = one_told cause r.queues.video in
    let a = one_told cause r.queues.audio in
    let s = one_told cause r.queues.sub in
    let x = put_many (removal_in cause r.queues.video) (put_all (removal_in cause r.queues.audio) (removal_in cause r.queues.sub)) in
    let y = put_many (removal_in cause r.queues.audio) (removal_in cause r.queues.sub) in
    omega arith

-- ---- all joins

pub record Tied (first : RangeState) (beside : List RangeState) (r : RangeState) (rs : List RangeState) (n : ℕ) (drops : List Removal) : Type 0 where
  pub range : IsRange r
  pub others : AllByRecursion IsOther rs
  pub same : HasSameTracks first r
  pub lighter : weight_in r + weight_of rs ≤ weight_in first + weight_of beside
  pub fewer : count_in r + count_of rs ≤ count_in first + count_of beside
  pub short : n + length drops + 3 * length rs ≤ 3 * length beside
  pub sets : (set : Choice) → AllByRecursion (λ q. q.set ≡ set) beside → AllByRecursion (λ q. q.set ≡ set) rs

pub tied : (first : RangeState) (beside : List RangeState) (r : RangeState) (rs : List RangeState) (n : ℕ) (drops : List Removal)
    → IsRange first → AllByRecursion IsOther beside → Joins first beside r rs n drops → Tied first beside r rs n drops
tied first beside _ _ _ _ i a unjoined = record {
  range = i;
  others = a;
  same = tracks_self first;
  lighter = omega arith;
  fewer = omega arith;
  short = omega arith;
  sets = λ set h. h;
}
tied first beside _ _ _ _ i a (joins_united r rs n drops o r' o' j e u ir) =
    let t = tied first beside r rs n drops i a j in
    let f = fewer (meets_range r) rs o t.others e in
    let w = weighs r o r' o' t.range u in
    let c = counts r o r' o' t.range u in
    let m = count_without (meets_range r) rs o e in
    let fw = f.weight in
    let fn = f.number in
    let tl = t.lighter in
    let tf = t.fewer in
    let ts = t.short in
    record {
      range = ir;
      others = f.others;
      same = tracks_both first r r' t.same (joined_tracks r o r' o' u);
      lighter = omega arith;
      fewer = omega arith;
      short = omega arith;
      sets = λ set h. all_without (λ q. q.set ≡ set) (meets_range r) rs (t.sets set h);
    }
tied first beside _ _ _ _ i a (parted r rs n drops o r' at ours other j e u d ir) =
    let t = tied first beside r rs n drops i a j in
    let f = fewer (meets_range r) rs o t.others e in
    let w = roomier_weighs r r' d in
    let m = count_without (meets_range r) rs o e in
    let fw = f.weight in
    let fn = f.number in
    let tl = t.lighter in
    let tf = t.fewer in
    let ts = t.short in
    let g = few_told (Mismatch at ours other) o in
    let long = length-append drops (removals_of (Mismatch at ours other) o) in
    let k = roomier_counts r r' d in
    record {
      range = ir;
      others = f.others;
      same = tracks_both first r r' t.same (roomier_tracks r r' d);
      lighter = omega arith;
      fewer = omega arith;
      short = omega arith;
      sets = λ set h. all_without (λ q. q.set ≡ set) (meets_range r) rs (t.sets set h);
    }
