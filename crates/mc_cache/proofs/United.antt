-- A join within its room: it can't be refused, and what it leaves.
use Rattle.std.proofs.Common.{◌≡◌, ℕ, ◌+◌, ◌≤◌, Bool, true, false, ◌||◌, List, [], ◌∷◌, ◌++◌, length, Option, Some, None, refl, ap, sym, ◌∙◌, arith, inl, inr}
use Rattle.std.specs.Prelude.{IfSome, if◌then◌else◌}
use Rattle.std.specs.List.{find}
use Rattle.std.proofs.lemmas.Bool.{cases_Bool, leb-true, ltb-true, le-ltb, and_parts}
use Rattle.std.proofs.lemmas.List.Sums.{sum_by-cons}
use Rattle.mc_packet.specs.declared.choice.Choice.{Choice}
use Rattle.mc_packet.specs.declared.packet.Packet.{Packet}
use Rattle.mc_packet.specs.declared.walk.Mark.{Mark}
use Rattle.mc_journal.specs.Films.{rank}
use Rattle.mc_journal.specs.Ranges.{touches}
use Rattle.mc_journal.specs.declared.record.Removal.{Removal}
use Rattle.mc_queue.specs.declared.queue.UnionError.TheVariants.{NoMemory}
use Rattle.mc_queue.specs.Places.{Rise, before, is_before, is_from, place, weight_of as weight_of_packet, weights}
use Rattle.mc_journal.specs.Views.{from_place}
use Rattle.mc_queue.specs.Queue.{QueueState, IsQueue}
use Rattle.mc_queue.specs.Union.{added, united, in_front, behind_all}
use Rattle.mc_queue.proofs.Rising.{weights_of_two}
use Rattle.mc_range.specs.Range.{RangeState, QueueIn, IsRange, IsRoomier, Roomier, as_range, count, is_same, is_same_set, meets_range, queue_of, weight_in as weight_of_queue}
use Rattle.mc_range.specs.Joining.{IsJoined, JoinRefused, UnitesIn, lacks_for}
use Rattle.mc_range.proofs.Unions.{video_is, audio_is, sub_is, same_some}
use Rattle.mc_cache.specs.Cache.{weight_in, without_first}
use Rattle.mc_cache.specs.Joining.{Joins, JoinsOne, neighbour, others_left, parted, united as joins_united}
use Rattle.mc_cache.specs.Rooms.{HasRoomFor, HasSpareFor, count_at_all}

-- ---- what one takes from the other

rise_upto : (track from to : ℕ) (ps : List Packet) → Rise track from to ps → from ≤ to
rise_upto track from to [] r = r
rise_upto track from to (p ∷ ps) r = let m = rise_upto track (place p + 1) to ps r.2 in let l = r.1 in omega arith

both_few : (a b : ℕ) (ps : List Packet) → a ≤ b → length (before a ps) + length (from_place b ps) ≤ length ps
both_few a b [] l = omega arith
both_few a b (p ∷ ps) l =
    let m = both_few a b ps l in
    elim (cases_Bool (is_before a p)) [
      | inl y ↦
          let x = ltb-true (place p) a y in
          elim (cases_Bool (is_from b p)) [
            | inl z ↦ let w = leb-true b (place p) z in absurd (omega arith)
            | inr z ↦ rw (y, z) (omega arith)
          ]
      | inr n ↦ elim (cases_Bool (is_from b p)) [ inl z ↦ rw (n, z) (omega arith) | inr z ↦ rw (n, z) (omega arith) ]
    ]

both_light : (a b : ℕ) (ps : List Packet) → a ≤ b → weights (before a ps) + weights (from_place b ps) ≤ weights ps
both_light a b [] l = omega arith
both_light a b (p ∷ ps) l =
    let m = both_light a b ps l in
    let all = sum_by-cons weight_of_packet p ps in
    let f = sum_by-cons weight_of_packet p (before a ps) in
    let g = sum_by-cons weight_of_packet p (from_place b ps) in
    elim (cases_Bool (is_before a p)) [
      | inl y ↦
          let x = ltb-true (place p) a y in
          elim (cases_Bool (is_from b p)) [
            | inl z ↦ let w = leb-true b (place p) z in absurd (omega arith)
            | inr z ↦ rw (y, z) (omega arith)
          ]
      | inr n ↦ elim (cases_Bool (is_from b p)) [ inl z ↦ rw (n, z) (omega arith) | inr z ↦ rw (n, z) (omega arith) ]
    ]

few_added : (q o : QueueState) → IsQueue q → added q o ≤ length o.packets
few_added q o i = both_few (rank q.from) (rank q.to) o.packets (rise_upto q.track (rank q.from) (rank q.to) q.packets i.rise)

light_united : (q o : QueueState) → IsQueue q → weights (united q o) ≤ weights q.packets + weights o.packets
light_united q o i =
    let l = both_light (rank q.from) (rank q.to) o.packets (rise_upto q.track (rank q.from) (rank q.to) q.packets i.rise) in
    let a = weights_of_two (in_front q o) (q.packets ++ behind_all q o) in
    let b = weights_of_two q.packets (behind_all q o) in
    omega arith

-- ---- each kind

no_lack : (track : Option ℕ) (mark : Mark) (rs : List RangeState) (r o : RangeState) (q p : Option QueueState) → QueueIn track mark q
    → ((k : ℕ) → track ≡ Some k → queue_of k r.queues ≡ q) → ((k : ℕ) → track ≡ Some k → queue_of k o.queues ≡ p)
    → HasSpareFor (o ∷ rs) 0 r.queues track → lacks_for q p ≡ false
no_lack track mark rs r o None p i h g s = refl
no_lack track mark rs r o (Some q) None i h g s = refl
no_lack track mark rs r o (Some q) (Some p) i h g s =
    let e = i.0 in
    let a = h q.track e in
    let b = g q.track e in
    let f = few_added q p i.2 in
    let m : 0 + (count (Some p) + count_at_all q.track rs) ≤ q.spare = rw (e, a, b) at s in
    le-ltb q.spare (added q p) (omega arith)

light : (track : Option ℕ) (mark : Mark) (q p n : Option QueueState) → QueueIn track mark q → UnitesIn q p n → weight_of_queue n ≤ weight_of_queue q + weight_of_queue p
light track mark None p n i u = rw u (omega arith)
light track mark (Some q) None n i u = rw u (omega arith)
light track mark (Some q) (Some p) None i u = absurd u
light track mark (Some q) (Some p) (Some n) i u =
    let e : weights n.packets ≡ weights (united q p) = ap (λ (x : QueueState). weights x.packets) u.both in
    let l = light_united q p i.2 in
    omega arith

spare_left : (track : Option ℕ) (mark : Mark) (rs : List RangeState) (r o new : RangeState) (q p n : Option QueueState) → QueueIn track mark q
    → ((k : ℕ) → track ≡ Some k → queue_of k r.queues ≡ q) → ((k : ℕ) → track ≡ Some k → queue_of k o.queues ≡ p) → ((k : ℕ) → track ≡ Some k → queue_of k new.queues ≡ n)
    → UnitesIn q p n → HasSpareFor (o ∷ rs) 0 r.queues track → HasSpareFor rs 0 new.queues track
spare_left None mark rs r o new q p n i h g f u s = tt
spare_left (Some k) mark rs r o new q p n i h g f u s =
    let a = h k refl in
    let b = g k refl in
    let c = f k refl in
    rw c (left q p n i u (rw (a, b) at s))
  where
    left : (q p n : Option QueueState) → QueueIn (Some k) mark q → UnitesIn q p n → IfSome q (λ x. 0 + (count p + count_at_all k rs) ≤ x.spare) → IfSome n (λ x. 0 + count_at_all k rs ≤ x.spare)
    left None p n i u m = rw u tt
    left (Some q) None n i u m = rw u (omega arith)
    left (Some q) (Some p) None i u m = absurd u
    left (Some q) (Some p) (Some n) i u m = let l = few_added q p i.2 in let x = u.room_used in omega arith

-- ---- ranges

-- the tracks of two ranges that meet are the same
record Sames (r o : RangeState) : Type 0 where
  video : is_same r.set.video o.set.video ≡ true
  audio : is_same r.set.audio o.set.audio ≡ true
  sub : is_same r.set.sub o.set.sub ≡ true

sames : (r o : RangeState) → meets_range r o ≡ true → Sames r o
sames r o e =
    let a = and_parts (is_same_set r.set o.set) (touches r.set (as_range r) (as_range o)) e in
    let b = and_parts (is_same r.set.video o.set.video) _ a.0 in
    let c = and_parts (is_same r.set.audio o.set.audio) (is_same r.set.sub o.set.sub) b.1 in
    record { video = b.0; audio = c.0; sub = c.1 }

or_false : (a b c : Bool) → a ≡ false → b ≡ false → c ≡ false → (a || (b || c)) ≡ false
or_false a b c x y z = rw (x, y, z) refl

pub never_lacks : (r o : RangeState) → IsRange r → IsRange o → meets_range r o ≡ true → HasRoomFor (o ∷ []) 0 r → JoinRefused r o NoMemory → ⊥
never_lacks r o i j m h e =
    let s = sames r o m in
    let v = no_lack r.set.video r.mark [] r o r.queues.video o.queues.video i.held.video (λ k x. video_is r k i x) (λ k x. video_is o k j (same_some r.set.video o.set.video k s.video x)) h.video in
    let a = no_lack r.set.audio r.mark [] r o r.queues.audio o.queues.audio i.held.audio (λ k x. audio_is r k i x) (λ k x. audio_is o k j (same_some r.set.audio o.set.audio k s.audio x)) h.audio in
    let u = no_lack r.set.sub r.mark [] r o r.queues.sub o.queues.sub i.held.sub (λ k x. sub_is r k i x) (λ k x. sub_is o k j (same_some r.set.sub o.set.sub k s.sub x)) h.sub in
    let n = or_false _ _ _ v a u in
    let y = e.1 in
    cc

pub weighs : (r o r' o' : RangeState) → IsRange r → IsJoined r o r' o' → weight_in r' ≤ weight_in r + weight_in o
weighs r o r' o' i u =
    let v = light r.set.video r.mark r.queues.video o.queues.video r'.queues.video i.held.video u.queues.video in
    let a = light r.set.audio r.mark r.queues.audio o.queues.audio r'.queues.audio i.held.audio u.queues.audio in
    let s = light r.set.sub r.mark r.queues.sub o.queues.sub r'.queues.sub i.held.sub u.queues.sub in
    omega arith

pub room_left : (r o r' o' : RangeState) (rs : List RangeState) → IsRange r → IsRange o → IsRange r' → meets_range r o ≡ true → IsJoined r o r' o' → HasRoomFor (o ∷ rs) 0 r → HasRoomFor rs 0 r'
room_left r o r' o' rs i j l m u h =
    let s = sames r o m in
    let e = u.set_is in
    let ev : r'.set.video ≡ r.set.video = ap (λ (x : Choice). x.video) e in
    let ea : r'.set.audio ≡ r.set.audio = ap (λ (x : Choice). x.audio) e in
    let es : r'.set.sub ≡ r.set.sub = ap (λ (x : Choice). x.sub) e in
    record {
      video = rw ev (spare_left r.set.video r.mark rs r o r' r.queues.video o.queues.video r'.queues.video i.held.video (λ k x. video_is r k i x) (λ k x. video_is o k j (same_some r.set.video o.set.video k s.video x)) (λ k x. video_is r' k l (ev ∙ x)) u.queues.video h.video);
      audio = rw ea (spare_left r.set.audio r.mark rs r o r' r.queues.audio o.queues.audio r'.queues.audio i.held.audio (λ k x. audio_is r k i x) (λ k x. audio_is o k j (same_some r.set.audio o.set.audio k s.audio x)) (λ k x. audio_is r' k l (ea ∙ x)) u.queues.audio h.audio);
      sub = rw es (spare_left r.set.sub r.mark rs r o r' r.queues.sub o.queues.sub r'.queues.sub i.held.sub (λ k x. sub_is r k i x) (λ k x. sub_is o k j (same_some r.set.sub o.set.sub k s.sub x)) (λ k x. sub_is r' k l (es ∙ x)) u.queues.sub h.sub);
    }

-- ---- the others

moved_spare : (test : RangeState → Bool) (track : ℕ) (rs : List RangeState) (o : RangeState) → find test rs ≡ Some o → count_at_all track (o ∷ without_first test rs) ≡ count_at_all track rs
moved_spare test track [] o e = absurd (cc)
moved_spare test track (q ∷ rs) o e = elim (cases_Bool (test q)) [
  | inl y ↦ let z : Some q ≡ Some o = rw y at e in let k : q ≡ o = some q o z in rw (y, sym k) refl
  | inr n ↦ let z : find test rs ≡ Some o = rw n at e in let m = moved_spare test track rs o z in rw n (omega arith)
]
  where
    some : (a b : RangeState) → Some a ≡ Some b → a ≡ b
    some a b e = cc

moved_for : (test : RangeState → Bool) (rs : List RangeState) (o r : RangeState) (n : ℕ) (track : Option ℕ) → find test rs ≡ Some o → HasSpareFor rs n r.queues track → HasSpareFor (o ∷ without_first test rs) n r.queues track
moved_for test rs o r n None e h = tt
moved_for test rs o r n (Some k) e h = let m = moved_spare test k rs o e in by_queue (queue_of k r.queues) h
  where
    by_queue : (q : Option QueueState) → IfSome q (λ x. n + count_at_all k rs ≤ x.spare) → IfSome q (λ x. n + count_at_all k (o ∷ without_first test rs) ≤ x.spare)
    by_queue None h = tt
    by_queue (Some q) h = let m = moved_spare test k rs o e in omega arith

pub moved_room : (test : RangeState → Bool) (rs : List RangeState) (o r : RangeState) (n : ℕ) → find test rs ≡ Some o → HasRoomFor rs n r → HasRoomFor (o ∷ without_first test rs) n r
moved_room test rs o r n e h = record {
  video = moved_for test rs o r n r.set.video e h.video;
  audio = moved_for test rs o r n r.set.audio e h.audio;
  sub = moved_for test rs o r n r.set.sub e h.sub;
}

-- ---- where nothing is joined

less_for : (o : RangeState) (rs : List RangeState) (n : ℕ) (r : RangeState) (track : Option ℕ) → HasSpareFor (o ∷ rs) n r.queues track → HasSpareFor rs n r.queues track
less_for o rs n r None h = tt
less_for o rs n r (Some k) h = by_queue (queue_of k r.queues) h
  where
    by_queue : (q : Option QueueState) → IfSome q (λ x. n + count_at_all k (o ∷ rs) ≤ x.spare) → IfSome q (λ x. n + count_at_all k rs ≤ x.spare)
    by_queue None h = tt
    by_queue (Some q) h = omega arith

pub less_room : (o : RangeState) (rs : List RangeState) (n : ℕ) (r : RangeState) → HasRoomFor (o ∷ rs) n r → HasRoomFor rs n r
less_room o rs n r h = record { video = less_for o rs n r r.set.video h.video; audio = less_for o rs n r r.set.audio h.audio; sub = less_for o rs n r r.set.sub h.sub }

roomier_weight : (q n : Option QueueState) → Roomier q n → weight_of_queue n ≡ weight_of_queue q
roomier_weight None n r = rw r refl
roomier_weight (Some q) None r = absurd r
roomier_weight (Some q) (Some n) r = ap (λ (x : QueueState). weights x.packets) r.0

pub roomier_weighs : (r q : RangeState) → IsRoomier r q → weight_in q ≡ weight_in r
roomier_weighs r q i =
    let v = roomier_weight r.queues.video q.queues.video i.queues.video in
    let a = roomier_weight r.queues.audio q.queues.audio i.queues.audio in
    let s = roomier_weight r.queues.sub q.queues.sub i.queues.sub in
    omega arith

-- ---- one more join

pub next_join : (first : RangeState) (beside : List RangeState) (r : RangeState) (rs : List RangeState) (n m : ℕ) (drops more : List Removal) (o r' : RangeState) (b : Bool) (left : List RangeState)
    → Joins first beside r rs n drops → Some o ≡ neighbour r rs → left ≡ others_left r rs → JoinsOne r o b r' drops more → m ≡ n + (if b then 1 else 0) → IsRange r' → Joins first beside r' left m more
next_join first beside r rs n m drops more o r' true left j e l u z i = rw (z, l, u.2) (joins_united r rs n drops o r' u.0 j (sym e) u.1 i)
next_join first beside r rs n m drops more o r' false left j e l u z i = let k : m ≡ n = omega arith in rw (k, l, u.5) (parted r rs n drops o r' u.0 u.1 u.2 j (sym e) u.3 u.4 i)

only_for : (o : RangeState) (rs : List RangeState) (n : ℕ) (r : RangeState) (track : Option ℕ) → HasSpareFor (o ∷ rs) n r.queues track → HasSpareFor (o ∷ []) n r.queues track
only_for o rs n r None h = tt
only_for o rs n r (Some k) h = by_queue (queue_of k r.queues) h
  where
    by_queue : (q : Option QueueState) → IfSome q (λ x. n + count_at_all k (o ∷ rs) ≤ x.spare) → IfSome q (λ x. n + count_at_all k (o ∷ []) ≤ x.spare)
    by_queue None h = tt
    by_queue (Some q) h = omega arith

pub only_room : (o : RangeState) (rs : List RangeState) (n : ℕ) (r : RangeState) → HasRoomFor (o ∷ rs) n r → HasRoomFor (o ∷ []) n r
only_room o rs n r h = record { video = only_for o rs n r r.set.video h.video; audio = only_for o rs n r r.set.audio h.audio; sub = only_for o rs n r r.set.sub h.sub }
